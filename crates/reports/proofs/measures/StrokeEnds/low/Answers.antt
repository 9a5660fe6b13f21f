use Rattle.reports.proofs.MeasureLaws.{low-is}
use Rattle.reports.proofs.measures.StrokeEnds.low.Goals as goal

pub returns : goal.returns
returns c = λ b p. low-is b _ _ c.min.ensures p
