use lib.Ieee.{of_bits}
use Rattle.arith.specs.Code.Accumulators.{fit_end, fit_end_if}
use Rattle.arith.proofs.sums.FitSums.acceleration.Goals as goal

pub returns-then-self : goal.returns-then-self
unfolding of_bits fit_end fit_end_if
returns-then-self c = rw c.if-self.true

pub returns : goal.returns
unfolding of_bits fit_end fit_end_if
returns c = rw c.if-self.false c.fit.ensures
