use Rattle.strokes.specs.FractalRows.{stamp_row}
use Rattle.strokes.specs.Code.StrokeSteps.{plain_bar}
use Rattle.reports.proofs.fractal_walk.FractalBars.stamps.Goals as goal

pub returns : goal.returns
unfolding stamp_row plain_bar
returns c = c.stamps_of.ensures
