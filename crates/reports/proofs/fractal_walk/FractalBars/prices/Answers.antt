use Rattle.strokes.specs.FractalRows.{price_row}
use Rattle.strokes.specs.Code.StrokeSteps.{plain_bar}
use Rattle.reports.proofs.fractal_walk.FractalBars.prices.Goals as goal

pub returns : goal.returns
unfolding price_row plain_bar
returns c = c.prices_of.ensures
