use borrow.Author.Rules.{rules}
use mathlib.Core.Path.{refl}
use Rattle.stores.proofs.InUse.{moved_none, moved-turn, moved_end}
use Rattle.stores.proofs.rows.move_in_use.Goals as goal

pub loop-k-init : goal.loop-k-init
loop-k-init c = let a = c.args in (moved_none a.cs.now a.es.now a.at a.from a.n, refl, refl)

pub loop-k-preserved : goal.loop-k-preserved
loop-k-preserved c =
    let a = c.args in
    let l = c.loop-k in
    let v = l.invariant in
    let r = c.move_row.ensures in (
      moved-turn a.cs.now a.es.now a.at a.from a.n l.k l.cs l.es _ _ _ c.requires (search rules) v.1 refl r.0 r.1 c.row_in_turn-i.ensures.is v.0,
      search rules,
      search rules,
    )

pub returns : goal.returns
returns c =
    let a = c.args in
    let l = c.loop-k in
    moved_end a.cs.now a.es.now a.at a.from a.n l.k l.cs l.es l.invariant.0 (search rules)
