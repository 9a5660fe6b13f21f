use Rattle.reports.specs.Code.FxListing.{rows_of}
use Rattle.reports.proofs.fractal_walk.FractalBars.rows.Goals as goal

pub returns : goal.returns
unfolding rows_of
returns c = λ i. record { stamps = c.stamps.ensures i; prices = c.prices.ensures i }
