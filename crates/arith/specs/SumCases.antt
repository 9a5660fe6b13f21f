-- Instances of the sums and measures, computed.
use Rattle.std.specs.Prelude.{◌≡◌, ℕ, false, [], ◌∷◌, map, pos, negsuc, refl, Float}
use Rattle.std.specs.Float.{nan, fin, binary64}
use Rattle.std.specs.Float.Ieee.{round, sum, add, neg, sub, mul, div, lt, eq}
use Rattle.arith.specs.Order.{abs_of}
use Rattle.arith.specs.Sums.{zero_f, minus_zero, one_f, two_f, three_f, sum_of, sum_from_zero, count_from, terms_from, quotient_if, mean_of, middle, cross, square, slope_of, tiny, x4_of, x3_of, x2_of, x2y_of, xy_of, fit_sums, det_with, det_of, det_a_of, fit_if, fit_of, acceleration_of, change_of, last_from, snr_of}
use Rattle.arith.specs.Code.Accumulators.{mean_more, mean_end, slope_start, slope_more}
use Rattle.arith.specs.SlopeDivisor.{four_sum, divisor_after}

-- a sum of one -0.0 stays -0.0 from the first term, and is 0.0 from 0.0
one-minus-zero : sum_of (minus_zero ∷ []) ≡ minus_zero
unfolding sum_of
one-minus-zero = refl

minus-zero-from-zero : sum_from_zero (minus_zero ∷ []) ≡ zero_f
unfolding sum_from_zero add sum round
minus-zero-from-zero = refl

-- the order counts: 1e16 + 1 + 1 is 1e16, and 1 + 1 + 1e16 is 1e16 + 2
large-first : sum_of (fin false 152587890625 (pos 16) ∷ one_f ∷ one_f ∷ []) ≡ fin false 152587890625 (pos 16)
unfolding sum_of add sum round
large-first = refl

small-first : sum_of (one_f ∷ one_f ∷ fin false 152587890625 (pos 16) ∷ []) ≡ fin false 5000000000000001 (pos 1)
unfolding sum_of add sum round
small-first = refl

mean_of-three : mean_of (one_f ∷ two_f ∷ three_f ∷ []) ≡ two_f
unfolding mean_of sum_of count_from add sum div round
mean_of-three = refl

slope_of-three : slope_of (one_f ∷ two_f ∷ three_f ∷ []) ≡ one_f
unfolding slope_of quotient_if terms_from cross square middle mean_of sum_of count_from add sum sub neg mul div eq round
slope_of-three = refl

slope_of-one : slope_of (one_f ∷ []) ≡ zero_f
unfolding slope_of
slope_of-one = refl

-- the squares 0, 1, 4: the coefficient is 1
acceleration_of_squares : acceleration_of (zero_f ∷ one_f ∷ fin false 1 (pos 2) ∷ []) ≡ one_f
unfolding acceleration_of fit_of fit_if fit_sums det_with det_of det_a_of tiny abs_of lt sum_from_zero terms_from x4_of x3_of x2_of x2y_of xy_of count_from add sum sub neg mul div round
acceleration_of_squares = refl

-- an odd whole number
abbrev odd : ℕ → Float
odd n = fin false n (pos 0)

-- document 01's marked instance 8: the inner bars at times 2 to 6 open at 8, 9, 11, 13, 15 and close at 10, 11, 13, 15, 17, so 9 / 10
nine_tenths : snr_of ((fin false 1 (pos 3), fin false 5 (pos 1)) ∷ (odd 9, odd 11) ∷ (odd 11, odd 13) ∷ (odd 13, odd 15) ∷ (odd 15, odd 17) ∷ []) ≡ round binary64 false 9 10
unfolding snr_of change_of quotient_if last_from sum_from_zero abs_of eq add sum sub neg div round
nine_tenths = refl

-- one bar: its own change
one-bar : snr_of ((odd 15, odd 9) ∷ []) ≡ fin false 3 (pos 1)
unfolding snr_of change_of abs_of add sum sub neg round
one-bar = refl

-- two bars whose opens equal their closes
no_change : snr_of ((one_f, one_f) ∷ (one_f, one_f) ∷ []) ≡ zero_f
unfolding snr_of change_of quotient_if last_from sum_from_zero abs_of eq add sum sub neg div round
no_change = refl

-- the slope's divisor, of closes that are no numbers: 0.5 of two; of four 2.25, 2.5, 2.75 and 5 after each, and four times the sums are the whole numbers
two_divided : divisor_after (nan ∷ nan ∷ []) 2 ≡ fin false 1 (negsuc 0)
unfolding slope_start slope_more mean_more mean_end middle cross square add sum sub neg mul div round
two_divided = refl

four_divided : map (divisor_after (nan ∷ nan ∷ nan ∷ nan ∷ [])) (1 ∷ 2 ∷ 3 ∷ 4 ∷ []) ≡ fin false 9 (negsuc 1) ∷ fin false 5 (negsuc 0) ∷ fin false 11 (negsuc 1) ∷ odd 5 ∷ []
unfolding slope_start slope_more mean_more mean_end middle cross square add sum sub neg mul div round
four_divided = refl

four_summed : map (four_sum 4) (1 ∷ 2 ∷ 3 ∷ 4 ∷ []) ≡ 9 ∷ 10 ∷ 11 ∷ 20 ∷ []
unfolding four_sum
four_summed = refl
