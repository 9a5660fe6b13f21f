use Rattle.reports.proofs.MeasureLaws.{fx_bottom, fx_top}
use Rattle.reports.proofs.measures.StrokeEnd.fx.Goals as goal

pub returns-in-D : goal.returns-in-D
returns-in-D c = λ f p. fx_bottom f _ p c.in-D.is

pub returns-in-G : goal.returns-in-G
returns-in-G c = λ f p. fx_top f _ p c.in-G.is
