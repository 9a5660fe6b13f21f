use borrow.Author.Rules.{rules}
use mathlib.Core.Path.{refl}
use Rattle.stores.proofs.InUse.{rows_none, join-rows-turn}
use Rattle.stores.proofs.rows.join_in_use.Goals as goal

pub loop-i-init : goal.loop-i-init
loop-i-init c = let a = c.args in (rows_none a.counts.now a.elements.now a.at a.cs.now a.es.now a.from, refl, refl)

pub loop-i-preserved : goal.loop-i-preserved
loop-i-preserved c =
    let a = c.args in
    let l = c.loop-i in
    let r = c.copy_row.ensures in (
      join-rows-turn a.counts.now a.elements.now l.counts l.elements _ a.cs.now a.es.now a.at a.from l.i _ l.invariant.0 (search rules) (search rules) (search rules) (search rules) refl r.0 r.1,
      search rules,
      search rules,
    )
