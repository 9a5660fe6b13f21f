use Rattle.std.proofs.Common.{refl}
use lib.Ieee.{of_bits}
use Rattle.arith.specs.Sums.{cross, square}
use Rattle.arith.specs.Code.Accumulators.{slope_more}
use Rattle.arith.proofs.sums.SlopeSumsAccumulator.more.Goals as goal

pub returns : goal.returns
unfolding of_bits slope_more cross square
returns c = refl
