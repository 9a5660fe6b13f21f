-- Whole rounding and rounding to d decimal places, of document 01's section on arithmetic. Definitions only.
use Rattle.std.specs.Prelude.{ℕ, ◌+◌, ◌*◌, ◌/◌, ◌^◌, min, pos, Float}
use Rattle.std.specs.Float.Ieee as I
use Rattle.std.specs.Float.{nan, inf, fin, binary64}
use Rattle.std.specs.Float.Ieee.{up, down}

-- a / c to the nearest whole number, halves up
abbrev pub half_up : ℕ → ℕ → ℕ
half_up a c = (2 * a + c) / (2 * c)

-- Whole rounding, which IEEE 754 calls roundToIntegralTiesToAway and Rust f64::round.
-- A finite value is m * 2 ^ e, which is the fraction m * up e / down e. Its size goes to the nearest whole number, halves up, and the sign stays, also on zero.
unfoldable pub round_away : Float → Float
unfolding I.round
round_away nan = nan
round_away (inf s) = inf s
round_away (fin s m e) = I.round binary64 s (half_up (m * up e) (down e)) 1

-- The float 10 ^ d, exactly. More than 6 places count as 6.
unfoldable pub ten_to : ℕ → Float
unfolding I.of_int
ten_to d = I.of_int binary64 (pos (10 ^ min d 6))

-- Rounding to d places, Rust's round_to_nth_digit: times 10 ^ d, to a whole number, divided by 10 ^ d again. These are float operations, and each rounds once.
unfoldable pub round_to : ℕ → Float → Float
unfolding I.div I.mul round_away ten_to
round_to d v = I.div binary64 (round_away (I.mul binary64 v (ten_to d))) (ten_to d)
