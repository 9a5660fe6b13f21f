use Rattle.bars.proofs.Including.{up_is}
use mathlib.Core.Path.{◌∙◌}
use mir.ValLaws.{to_z-of_z}
use mir.Syntax.{w64}
use borrow.Author.Rules.{rules}
use Rattle.bars.proofs.merging.merged_up.Goals.{then-k3-k2, else-k3-k2}
use Rattle.bars.proofs.merging.merged_up.Goals as goal

pub returns : goal.returns
returns c =
    let s = c.args in
    up_is _ _ _ _ _ _ c.united.ensures
    (elim c.if-k3-k2.branch [
      | then-k3-k2 w ↦ w.time-is ∙ rw w.if-k3-k2.true (to_z-of_z w64 s.k2.time (search rules))
      | else-k3-k2 w ↦ w.time-is ∙ rw w.if-k3-k2.false (to_z-of_z w64 s.k3.time (search rules))
    ])
    c.max-high.ensures c.max-low.ensures
