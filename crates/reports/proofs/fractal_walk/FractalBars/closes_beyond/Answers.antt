use Rattle.strokes.specs.Code.StrokeSteps.{plain_bar}
use Rattle.reports.specs.FractalAnswers.{closes_beyond}
use Rattle.reports.proofs.fractal_walk.FractalBars.closes_beyond.Goals as goal

pub returns-in-D : goal.returns-in-D
unfolding closes_beyond plain_bar
returns-in-D c = rw c.in-D.is

pub returns-in-G : goal.returns-in-G
unfolding closes_beyond plain_bar
returns-in-G c = rw c.in-G.is
