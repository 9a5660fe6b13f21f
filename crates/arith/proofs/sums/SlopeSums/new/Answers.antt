use Rattle.std.proofs.Common.{refl}
use lib.Ieee.{of_bits, neg}
use Rattle.arith.specs.Sums.{middle}
use Rattle.arith.specs.Code.Accumulators.{slope_start, mean_end}
use Rattle.arith.proofs.sums.SlopeSums.new.Goals as goal

pub returns : goal.returns
unfolding of_bits neg slope_start middle mean_end
returns c = refl
