use lib.Ieee.{of_bits, neg, div}
use Rattle.bars.specs.Lists.{fold_left}
use Rattle.named.specs.Folds.{greatest, least}
use Rattle.strokes.specs.Code.StrokeSteps.{plain_bar}
use Rattle.reports.specs.FractalAnswers.{has_zs}
use Rattle.reports.proofs.fractal_walk.FractalBars.has_zs.Goals as goal

pub returns : goal.returns
unfolding of_bits neg div has_zs greatest least fold_left plain_bar
returns c = rw (c.max-zd.ensures, c.max-2.ensures, c.max.ensures, c.min-zg.ensures, c.min-2.ensures, c.min.ensures)
