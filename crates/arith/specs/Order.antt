-- The larger, the smaller and the absolute value of floats: Rust's f64::max, f64::min and f64::abs. Definitions only.
use Rattle.std.specs.Prelude.{false, cond, ◌||◌, Float}
use Rattle.std.specs.Float.{nan, inf, fin}
use Rattle.std.specs.Float.Ieee.{lt, is_nan}

-- Where one is NaN the other is given, and of two equal ones, as 0 and -0, the first. (Rust leaves open which zero it gives.)
unfoldable pub max_of : Float → Float → Float
unfolding is_nan lt
max_of x y = cond (is_nan x || lt x y) y x

unfoldable pub min_of : Float → Float → Float
unfolding is_nan lt
min_of x y = cond (is_nan x || lt y x) y x

-- the sign cleared, on zeros and infinities too
unfoldable pub abs_of : Float → Float
abs_of nan = nan
abs_of (inf s) = inf false
abs_of (fin s m e) = fin false m e
