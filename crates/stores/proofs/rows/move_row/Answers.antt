use borrow.Author.Rules.{rules}
use mathlib.Core.Path.{refl, ◌∙◌}
use mathlib.Core.List.{[]}
use lib.ListN.{get_or}
use lib.IntN.{pos}
use mir.Syntax.{w64}
use mir.ValLaws.{to_z-of_z}
use Rattle.stores.proofs.InUse.{row-none, row-turn, row-end, source_kept}
use Rattle.stores.proofs.rows.move_row.Goals as goal

pub loop-k-init : goal.loop-k-init
loop-k-init c = let a = c.args in (row-none a.es.now a.at (get_or a.es.now a.from []), refl)

pub loop-k-preserved : goal.loop-k-preserved
loop-k-preserved c =
    let a = c.args in
    let l = c.loop-k in
    let t = c.loop-k-test.true in
    let n = c.min-k-end.ensures in
    let r₀ = get_or a.es.now a.from [] in
    let read = to_z-of_z w64 (get_or (get_or l.es a.from []) l.k (pos 0)) (search rules) ∙ source_kept a.es.now l.es a.from a.at l.k l.invariant.0 (search rules) in
    (row-turn a.es.now l.es a.at r₀ l.k _ l.invariant.0 (search rules) (search rules) (search rules) read, search rules)

pub returns : goal.returns
returns c =
    let a = c.args in
    let l = c.loop-k in
    row-end a.es.now l.es a.at (get_or a.es.now a.from []) a.count c.min-k-end.result l.k l.invariant.0 (search rules) (search rules) (search rules) (search rules) (search rules)
