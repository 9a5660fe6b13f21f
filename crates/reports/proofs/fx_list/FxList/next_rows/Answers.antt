use mathlib.Core.List.{[]}
use Rattle.reports.specs.Code.FractalWalk.{plain}
use Rattle.reports.specs.Code.FxListing.{all_left}
use Rattle.reports.proofs.FxLaws.{front_out, back_out, all_out}
use Rattle.reports.proofs.fx_list.FxList.next_rows.Goals as goal

pub returns-in-Some-clause-gives : goal.returns-in-Some-clause-gives
unfolding all_left
returns-in-Some-clause-gives c = front_out _ _ _ [] _ c.in-Some.ensures.steps.0

pub returns-in_err-fractal-clause-gives : goal.returns-in_err-fractal-clause-gives
unfolding all_left
returns-in_err-fractal-clause-gives c = rw c.from_residual.ensures (all_out _ _ _ _ c.in_default.ensures.steps.0 c.in_err-fractal.ensures.steps)

pub returns-clause-gives : goal.returns-clause-gives
unfolding all_left
returns-clause-gives c = back_out _ _ _ _ _ (plain c.in_ok-fractal.fractal) c.rows.ensures c.in_default.ensures.steps.0 c.in_ok-fractal.ensures.steps
