use Rattle.strokes.specs.Code.StrokeSteps.{last_mark}
use Rattle.reports.specs.Code.FractalWalk.{left, NextFractal}
use Rattle.reports.proofs.WalkLaws.{goes_on}
use Rattle.reports.proofs.fractal_walk.FractalWalkIterator.next.Goals as goal

pub returns-in_err-found-clause-steps : goal.returns-in_err-found-clause-steps
unfolding NextFractal left
returns-in_err-found-clause-steps c = rw c.from_residual.ensures (c.in_err-found.ensures, c.in_err-found.ensures)

pub returns-clause-steps : goal.returns-clause-steps
unfolding NextFractal left last_mark
returns-clause-steps c = c.in_ok-found.ensures

pub returns-clause-goes : goal.returns-clause-goes
unfolding NextFractal left last_mark
returns-clause-goes c = goes_on _ left _ _ _ _ c.in_ok-found.ensures c.requires
