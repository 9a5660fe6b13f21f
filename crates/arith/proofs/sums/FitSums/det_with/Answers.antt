use Rattle.std.proofs.Common.{refl}
use Rattle.arith.specs.Sums.{det_with}
use Rattle.arith.proofs.sums.FitSums.det_with.Goals as goal

pub returns : goal.returns
unfolding det_with
returns c = refl
