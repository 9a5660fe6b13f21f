use mathlib.Core.Path.{ap, ◌∙◌}
use lib.Ieee.{Float}
use Rattle.arith.specs.Rounding.{round_to}
use Rattle.reports.proofs.MeasureLaws.{start_of, stop_of, price_is}
use Rattle.reports.proofs.measures.StrokeEnds.power_price.Goals as goal

pub returns : goal.returns
returns c = λ b p. price_is c.args.places b _ _ _ (c.fx-2.ensures b.start (start_of b _ p)) (c.fx.ensures b.end (stop_of b _ p)) (c.round_to_nth_digit.ensures.0 ∙ ap (λ (x : Float). round_to c.args.places x) c.abs.ensures)
