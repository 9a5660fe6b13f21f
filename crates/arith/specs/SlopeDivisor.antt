-- The slope's divisor without error, of document 02's request fourteen: from 2 to 65,536 closes it is n (n ^ 2 - 1) / 12, and no step on the way to it rounds.
-- It is said of what the code sums, the accumulator of specs/Code/Accumulators.antt after each close, and for every list of closes of such a length: the closes
-- themselves may be any floats. The proof is `exact_divisor` of proofs/ExactDivisor. Definitions only.
use Rattle.std.specs.Prelude.{◌≡◌, ℕ, zero, suc, ◌+◌, ◌-◌, ◌*◌, ◌<◌, ◌≤◌, not, List, length, take, ℤ, pos, ◌-ℤ◌, unsigned_abs, Float}
use mathlib.Core.List.{foldl}
use Rattle.std.specs.Int.Signed.{non_neg}
use Rattle.std.specs.Float.Ieee.Exact.{HasValue}
use Rattle.arith.specs.declared.sums.MeanSums.{MeanSums}
use Rattle.arith.specs.declared.sums.SlopeSums.{SlopeSums}
use Rattle.arith.specs.Sums.{one_f, less, over, sum_of, count_of, terms, mean_of, middle, cross, square, slope_of}
use Rattle.arith.specs.Code.Accumulators.{mean_start, mean_more, slope_start, slope_more}

-- the float x is z / c, without error; of the two zeros it is plus zero
abbrev pub IsExactly : Float → ℤ → ℕ → Type 0
IsExactly x z c = HasValue x (not (non_neg z)) (unsigned_abs z) c

-- ---- the numbers

-- twice the difference of the place i from the mean of the n places, (n - 1) / 2
abbrev pub twice_difference : ℕ → ℕ → ℤ
twice_difference n i = pos (2 * i) -ℤ pos (n - 1)

-- four times the square of that difference
abbrev pub four_square : ℕ → ℕ → ℕ
four_square n i = unsigned_abs (twice_difference n i) * unsigned_abs (twice_difference n i)

-- four times the sum of the squares of the first k places
unfoldable pub four_sum : ℕ → ℕ → ℕ
four_sum n zero = 0
four_sum n (suc k) = four_sum n k + four_square n k

-- ---- what the code sums

-- the first pass over all closes
abbrev pub mean_sums : List Float → MeanSums
mean_sums l = foldl mean_more mean_start l

-- the second pass, when it has taken in the first k closes
abbrev pub slope_after : List Float → ℕ → SlopeSums
slope_after l k = foldl slope_more (slope_start (mean_sums l)) (take k l)

abbrev pub divisor_after : List Float → ℕ → Float
divisor_after l k = (slope_after l k).denominator

-- ---- the claim

-- from 2 to 65,536 closes
abbrev pub InBounds : List Float → Type 0
InBounds l = (2 ≤ length l) × (length l ≤ 65536)

pub record ExactDivisor : Type 0 where
  -- the count, the count less one, and half of that, which is the mean place and stays so
  pub count : (l : List Float) → InBounds l → IsExactly (mean_sums l).n (pos (length l)) 1
  pub less_one : (l : List Float) → InBounds l → IsExactly (less (mean_sums l).n one_f) (pos (length l - 1)) 1
  pub mean_place : (l : List Float) → InBounds l → (k : ℕ) → IsExactly (slope_after l k).xmean (pos (length l - 1)) 2
  -- the place i, its difference from the mean place, and the square that is added there, whatever the close y is
  pub place : (l : List Float) → InBounds l → (i : ℕ) → i < length l → IsExactly (slope_after l i).n (pos i) 1
  pub difference : (l : List Float) → InBounds l → (i : ℕ) → i < length l → IsExactly (less (slope_after l i).n (slope_after l i).xmean) (twice_difference (length l) i) 2
  pub squared : (l : List Float) → InBounds l → (i : ℕ) → i < length l → (y : Float) → IsExactly (square (slope_after l i).xmean (slope_after l i).n y) (pos (four_square (length l) i)) 4
  -- the divisor after k closes is the sum of the first k squares ..
  pub partial : (l : List Float) → InBounds l → (k : ℕ) → 1 ≤ k → k ≤ length l → IsExactly (divisor_after l k) (pos (four_sum (length l) k)) 4
  -- .. and after all of them n (n ^ 2 - 1) / 12
  pub total : (l : List Float) → InBounds l → IsExactly (divisor_after l (length l)) (pos (length l * (length l * length l - 1))) 12
  -- the slope is its numerator divided by that float, which is not zero
  pub divides : (l : List Float) → InBounds l → slope_of l ≡ over (sum_of (terms (cross (middle (count_of l)) (mean_of l)) l)) (divisor_after l (length l))
