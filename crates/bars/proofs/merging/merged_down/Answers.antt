use Rattle.bars.proofs.Including.{down_is}
use mathlib.Core.Path.{◌∙◌}
use mir.ValLaws.{to_z-of_z}
use mir.Syntax.{w64}
use borrow.Author.Rules.{rules}
use Rattle.bars.proofs.merging.merged_down.Goals.{then-k2-k3, else-k2-k3}
use Rattle.bars.proofs.merging.merged_down.Goals as goal

pub returns : goal.returns
returns c =
    let s = c.args in
    down_is _ _ _ _ _ _ c.united.ensures
    (elim c.if-k2-k3.branch [
      | then-k2-k3 w ↦ w.time-is ∙ rw w.if-k2-k3.true (to_z-of_z w64 s.k2.time (search rules))
      | else-k2-k3 w ↦ w.time-is ∙ rw w.if-k2-k3.false (to_z-of_z w64 s.k3.time (search rules))
    ])
    c.min-high.ensures c.min-low.ensures
