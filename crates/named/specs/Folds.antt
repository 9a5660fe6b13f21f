-- The greatest and the least of a list of floats, as the Rust folds them. Definitions only.
use Rattle.std.specs.Prelude.{true, false, List, Float}
use Rattle.std.specs.Float.{inf}
use Rattle.arith.specs.Order.{max_of, min_of}
use Rattle.bars.specs.Lists.{fold_left}

-- fold(f64::NEG_INFINITY, f64::max)
unfoldable pub greatest : List Float → Float
unfolding fold_left max_of
greatest l = fold_left max_of (inf true) l

-- fold(f64::INFINITY, f64::min)
unfoldable pub least : List Float → Float
unfolding fold_left min_of
least l = fold_left min_of (inf false) l
