use Rattle.reports.proofs.MeasureLaws.{high_is}
use Rattle.reports.proofs.measures.StrokeEnds.high.Goals as goal

pub returns : goal.returns
returns c = λ b p. high_is b _ _ c.max.ensures p
