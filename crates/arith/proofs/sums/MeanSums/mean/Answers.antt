use Rattle.std.proofs.Common.{refl}
use Rattle.arith.specs.Code.Accumulators.{mean_end}
use Rattle.arith.proofs.sums.MeanSums.mean.Goals as goal

pub returns : goal.returns
unfolding mean_end
returns c = refl
