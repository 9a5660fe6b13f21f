use lib.Ieee.{of_bits}
use Rattle.arith.specs.Sums.{quotient_if}
use Rattle.arith.proofs.sums.ratio.Goals as goal

pub returns-then-b : goal.returns-then-b
unfolding of_bits quotient_if
returns-then-b c = rw c.if-b.true

pub returns : goal.returns
unfolding of_bits quotient_if
returns c = rw c.if-b.false
