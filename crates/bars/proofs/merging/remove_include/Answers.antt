use Rattle.bars.proofs.Including.{included_elements, included_own}
use Rattle.bars.specs.Bars.{merged_of}
use Rattle.bars.specs.Code.MergedBars.{with_element}
use mathlib.Core.Path.{◌∙◌, ap}
use mir.ValLaws.{to_z-of_z}
use mir.Syntax.{w64}
use borrow.Author.Rules.{rules}
use Rattle.bars.proofs.merging.remove_include.Goals as goal

pub returns-in_err-bar-clause-is : goal.returns-in_err-bar-clause-is
unfolding merged_of
returns-in_err-bar-clause-is c = rw c.from_residual.ensures (included_own (merged_of c.args.k2) c.args.k3 c.args.k1_high c.in_err-bar.ensures)

pub returns-clause-is : goal.returns-clause-is
unfolding merged_of
returns-clause-is c =
    let s = c.args in
    included_elements (merged_of s.k2) s.k3 s.k1_high _ c.in_ok-bar.ensures _
    (c.with_element.ensures.0 ∙ ap (with_element c.in_ok-bar.bar (merged_of s.k2)) (to_z-of_z w64 s.k3.time (search rules)))
