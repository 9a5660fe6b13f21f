use lib.Ieee.{add}
use Rattle.strokes.specs.Code.StrokeSteps.{plain_bar}
use Rattle.reports.specs.FractalAnswers.{fractal_volume}
use borrow.Author.Rules.{rules}
use Rattle.reports.proofs.fractal_walk.FractalBars.power_volume.Goals as goal

pub returns : goal.returns
unfolding add fractal_volume plain_bar
returns c = search rules
