-- The library's absolute value and ours. Assumes nothing.
use Rattle.std.proofs.Common.{◌≡◌, false, refl}
use Rattle.std.specs.Float.{float_with_sign}
use lib.Ieee.{Float, nan, inf, fin}
use Rattle.arith.specs.Order.{abs_of}

pub sign_cleared : (x : Float) → float_with_sign false x ≡ abs_of x
unfolding float_with_sign abs_of
sign_cleared nan = refl
sign_cleared (inf s) = refl
sign_cleared (fin s m e) = refl
