use lib.Ieee.{of_bits}
use Rattle.reports.proofs.MeasureLaws.{start_of, stop_of, change-zero, change_else}
use Rattle.reports.proofs.measures.StrokeEnds.change.Goals as goal

pub returns-then-s : goal.returns-then-s
unfolding of_bits
returns-then-s c = λ b p. change-zero _ b _ (c.fx-s.ensures b.start (start_of b _ p)) c.if-s.true

pub returns : goal.returns
unfolding of_bits
returns c = λ b p. change_else _ b _ _ _ (c.fx-s.ensures b.start (start_of b _ p)) (c.fx-e.ensures b.end (stop_of b _ p)) c.if-s.false c.round_to_nth_digit.ensures.0
