use Rattle.std.proofs.Common.{refl}
use lib.Ieee.{of_bits}
use Rattle.arith.specs.Sums.{x4_of, x3_of, x2_of, x2y_of, xy_of}
use Rattle.arith.specs.Code.Accumulators.{fit_more}
use Rattle.arith.proofs.sums.FitSumsAccumulator.more.Goals as goal

pub returns : goal.returns
unfolding of_bits fit_more x4_of x3_of x2_of x2y_of xy_of
returns c = refl
