-- Instances of the arithmetic of document 01, computed: each side works out to the same float.
-- `fin s m e` is the number m * 2 ^ e, negative where s is true; `negsuc k` is the exponent -(k + 1).
use Rattle.std.specs.Prelude.{◌≡◌, ℕ, ◌-◌, ◌*◌, ◌^◌, true, false, pos, negsuc, nat_eq, refl}
use Rattle.std.proofs.Common.{ap, true≢false, arith, lit<}
use Rattle.std.specs.Float.Ieee as I
use Rattle.std.specs.Float.{nan, inf, fin, binary64}
use Rattle.std.specs.Float.Ieee.{round, sub, div}
use Rattle.arith.specs.declared.rounding.Part.TheVariants.{NotFinite, Whole, Nearest, Tie}
use Rattle.arith.specs.Order.{max_of, min_of, abs_of}
use Rattle.arith.specs.Rounding.{round_away, ten_to, round_to}
use Rattle.arith.specs.RoundingParts.{FallsTo}

-- ---- whole rounding

-- halves go away from zero: 0.5 to 1, 2.5 to 3, -0.5 to -1, -2.5 to -3
half : round_away (fin false 1 (negsuc 0)) ≡ fin false 1 (pos 0)
unfolding round_away round
half = refl

two-and-a-half : round_away (fin false 5 (negsuc 0)) ≡ fin false 3 (pos 0)
unfolding round_away round
two-and-a-half = refl

minus-half : round_away (fin true 1 (negsuc 0)) ≡ fin true 1 (pos 0)
unfolding round_away round
minus-half = refl

minus-two-and-a-half : round_away (fin true 5 (negsuc 0)) ≡ fin true 3 (pos 0)
unfolding round_away round
minus-two-and-a-half = refl

-- 0.49999999999999994, the float next below a half, goes to 0; its negative to -0
below_half : round_away (fin false (2 ^ 53 - 1) (negsuc 53)) ≡ fin false 0 (pos 0)
unfolding round_away round
below_half = refl

above_minus-half : round_away (fin true (2 ^ 53 - 1) (negsuc 53)) ≡ fin true 0 (pos 0)
unfolding round_away round
above_minus-half = refl

-- the last half, 2 ^ 52 - 0.5, goes to 2 ^ 52
last-half : round_away (fin false (2 ^ 53 - 1) (negsuc 0)) ≡ fin false 1 (pos 52)
unfolding round_away round
last-half = refl

-- 2 ^ 53 - 1 lies where the floats are the whole numbers, 3 * 2 ^ 60 above, and the largest float above that: they stay
last-odd : round_away (fin true (2 ^ 53 - 1) (pos 0)) ≡ fin true (2 ^ 53 - 1) (pos 0)
unfolding round_away round
last-odd = refl

large : round_away (fin false 3 (pos 60)) ≡ fin false 3 (pos 60)
unfolding round_away round
large = refl

largest : round_away (fin false (2 ^ 53 - 1) (pos 971)) ≡ fin false (2 ^ 53 - 1) (pos 971)
unfolding round_away round
largest = refl

-- the smallest floats, 2 ^ -1074 and its negative, go to the zero of their sign, and both zeros stay
smallest : round_away (fin false 1 (negsuc 1073)) ≡ fin false 0 (pos 0)
unfolding round_away round
smallest = refl

smallest-minus : round_away (fin true 1 (negsuc 1073)) ≡ fin true 0 (pos 0)
unfolding round_away round
smallest-minus = refl

plus-zero : round_away (fin false 0 (pos 0)) ≡ fin false 0 (pos 0)
unfolding round_away round
plus-zero = refl

minus-zero : round_away (fin true 0 (pos 0)) ≡ fin true 0 (pos 0)
unfolding round_away round
minus-zero = refl

-- what is no finite number stays
not-a-number : round_away nan ≡ nan
unfolding round_away round
not-a-number = refl

infinite : round_away (inf true) ≡ inf true
unfolding round_away round
infinite = refl

-- -0.3 goes to -0
minus-three_tenths : round_away (fin true 5404319552844595 (negsuc 53)) ≡ fin true 0 (pos 0)
unfolding round_away round
minus-three_tenths = refl

-- ---- the part that an operand falls to, with its sign and the whole number

nan_part : FallsTo nan NotFinite
nan_part = tt

infinite_part : FallsTo (inf true) NotFinite
infinite_part = tt

plus-zero_part : FallsTo (fin false 0 (pos 0)) Whole
plus-zero_part = (false, 0, (refl, refl))

minus-zero_part : FallsTo (fin true 0 (pos 0)) Whole
minus-zero_part = (true, 0, (refl, refl))

-- 2 ^ 52, and the largest float
two_to_52_part : FallsTo (fin false 1 (pos 52)) Whole
two_to_52_part = (false, 2 ^ 52, (refl, refl))

largest_part : FallsTo (fin false (2 ^ 53 - 1) (pos 971)) Whole
largest_part = (false, (2 ^ 53 - 1) * 2 ^ 971, (refl, refl))

-- 0.49999999999999994 and -0.3 are near 0, 2.75 is near 3, and the smallest float is near 0
below-half_part : FallsTo (fin false (2 ^ 53 - 1) (negsuc 53)) Nearest
below-half_part = (false, 0, (refl, (λ e. omega arith, lit< tt, lit< tt)))

minus-three_tenths_part : FallsTo (fin true 5404319552844595 (negsuc 53)) Nearest
minus-three_tenths_part = (true, 0, (refl, (λ e. omega arith, lit< tt, lit< tt)))

two-and-three_quarters_part : FallsTo (fin false 11 (negsuc 1)) Nearest
two-and-three_quarters_part = (false, 3, (refl, (λ e. omega arith, lit< tt, lit< tt)))

smallest_part : FallsTo (fin false 1 (negsuc 1073)) Nearest
smallest_part = (false, 0, (refl, (λ e. true≢false (ap (λ (n : ℕ). nat_eq n 1) e), lit< tt, lit< tt)))

-- 0.5 and 2 ^ 52 - 0.5
half_part : FallsTo (fin false 1 (negsuc 0)) Tie
half_part = (false, 0, (refl, refl))

last-half_part : FallsTo (fin false (2 ^ 53 - 1) (negsuc 0)) Tie
last-half_part = (false, 2 ^ 52 - 1, (refl, refl))

-- ---- powers of ten: 10 ^ d is 5 ^ d * 2 ^ d

ten_to_0 : ten_to 0 ≡ fin false 1 (pos 0)
unfolding ten_to
ten_to_0 = refl

ten_to_1 : ten_to 1 ≡ fin false 5 (pos 1)
unfolding ten_to
ten_to_1 = refl

ten_to_2 : ten_to 2 ≡ fin false 25 (pos 2)
unfolding ten_to
ten_to_2 = refl

ten_to_3 : ten_to 3 ≡ fin false 125 (pos 3)
unfolding ten_to
ten_to_3 = refl

ten_to_4 : ten_to 4 ≡ fin false 625 (pos 4)
unfolding ten_to
ten_to_4 = refl

ten_to_5 : ten_to 5 ≡ fin false 3125 (pos 5)
unfolding ten_to
ten_to_5 = refl

ten_to_6 : ten_to 6 ≡ fin false 15625 (pos 6)
unfolding ten_to
ten_to_6 = refl

-- more than 6 count as 6
ten_to_9 : ten_to 9 ≡ ten_to 6
unfolding ten_to
ten_to_9 = refl

-- ---- marked instances

-- 6: 0.125 and -0.125 to 2 places are the floats nearest 0.13 and -0.13
pub marked_6 : round_to 2 (fin false 1 (negsuc 2)) ≡ I.round binary64 false 13 100
unfolding round_to I.round
marked_6 = refl

pub marked_6_minus : round_to 2 (fin true 1 (negsuc 2)) ≡ I.round binary64 true 13 100
unfolding round_to I.round
marked_6_minus = refl

-- 7: from 131072, which is 2 ^ 17, to 131071 the change (end - start) / start, to 4 places, is minus zero
pub marked_7 : round_to 4 (div binary64 (sub binary64 (fin false 131071 (pos 0)) (fin false 1 (pos 17))) (fin false 1 (pos 17))) ≡ fin true 0 (pos 0)
unfolding round_to sub div
marked_7 = refl

-- ---- places other than 2 and 4

-- 0.85, as a float a little below, times ten is 8.5 by rounding, so that it goes to 0.9 and not to 0.8
eighty_five : round_to 1 (I.round binary64 false 85 100) ≡ I.round binary64 false 9 10
unfolding round_to I.round
eighty_five = refl

-- 0 places are none: 2.5 goes to 3, -0.4 to -0
no_places : round_to 0 (fin false 5 (negsuc 0)) ≡ fin false 3 (pos 0)
unfolding round_to I.round
no_places = refl

no_places-minus : round_to 0 (I.round binary64 true 4 10) ≡ fin true 0 (pos 0)
unfolding round_to I.round
no_places-minus = refl

-- 0.0000005 to 6 places is 0.000001: the product rounds to 0.5
millionth : round_to 6 (I.round binary64 false 5 10000000) ≡ I.round binary64 false 1 1000000
unfolding round_to I.round
millionth = refl

-- a result rounded again changes: 4297296585.6103735 to 6 places is the float nearest ..610374, and that goes to the one nearest ..610375
once : round_to 6 (I.round binary64 false 42972965856103735 10000000) ≡ I.round binary64 false 4297296585610374 1000000
unfolding round_to I.round
once = refl

twice : round_to 6 (I.round binary64 false 4297296585610374 1000000) ≡ I.round binary64 false 4297296585610375 1000000
unfolding round_to I.round
twice = refl

-- 1e308 to 1 place is infinite, since the product is
too_large : round_to 1 (I.round binary64 false (10 ^ 308) 1) ≡ inf false
unfolding round_to I.round
too_large = refl

-- ---- the larger, the smaller, the absolute value

-- of 1 and -2, and where one side is NaN or the two are zeros
larger : max_of (fin false 1 (pos 0)) (fin true 1 (pos 1)) ≡ fin false 1 (pos 0)
unfolding max_of min_of
larger = refl

smaller : min_of (fin false 1 (pos 0)) (fin true 1 (pos 1)) ≡ fin true 1 (pos 1)
unfolding max_of min_of
smaller = refl

larger-nan : max_of nan (fin true 1 (pos 1)) ≡ fin true 1 (pos 1)
unfolding max_of min_of
larger-nan = refl

smaller-nan : min_of (fin true 1 (pos 1)) nan ≡ fin true 1 (pos 1)
unfolding max_of min_of
smaller-nan = refl

larger-zero : max_of (fin true 0 (pos 0)) (fin false 0 (pos 0)) ≡ fin true 0 (pos 0)
unfolding max_of min_of
larger-zero = refl

no_minus-zero : abs_of (fin true 0 (pos 0)) ≡ fin false 0 (pos 0)
unfolding abs_of
no_minus-zero = refl

infinite_size : abs_of (inf true) ≡ inf false
unfolding abs_of
infinite_size = refl
