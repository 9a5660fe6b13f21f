use Rattle.std.proofs.Common.{refl}
use lib.Ieee.{of_bits}
use Rattle.arith.specs.Code.Accumulators.{mean_more}
use Rattle.arith.proofs.sums.MeanSumsAccumulator.more.Goals as goal

pub returns : goal.returns
unfolding of_bits mean_more
returns c = refl
