-- The slope's divisor is exact (specs/SlopeDivisor.antt): whole numbers, halves and quarters below 2 ^ 53 of them add, subtract and multiply without rounding (Dyadic),
-- so the accumulator's fold follows the whole-number sum, for all lengths at once. Assumes nothing.
use Rattle.std.proofs.Common.{◌≡◌, ℕ, zero, suc, ◌+◌, ◌-◌, ◌*◌, ◌^◌, ◌<◌, ◌≤◌, Bool, true, false, cond, not, ◌||◌, T, eqb, ltb, List, [], ◌∷◌, length, take, ℤ, pos, negsuc, ◌-ℤ◌, nat_abs, sym, refl, ap, ◌∙◌, subst, add-zero, mul_comm, mul-le-mul, mul-pos, zero-add, add-one, arith, lit≤, eqb→eq, ltb→lt, nltb→le, length-take-le}
use mathlib.Core.Bool.{beq}
use mathlib.Core.List.{foldl}
use native.Mathlib.Nat.{mul-sub}
use lib.IntN.{sub_ℕ}
use lib.Ieee.{Float, nan, inf, fin, binary64, round, sub, mul, eq, level, up, down}
use lib.Ieee.Exact.{HasValue}
use lib.Ieee.Fits.{mul-fits, down_pos, and_l}
use Rattle.arith.proofs.Tests.{same}
use Rattle.arith.proofs.FloatValues.{value-times}
use Rattle.arith.proofs.Dyadic.{dyadic_half, dyadic_lift, dz, dz_val, dz_int, dz_sub, dz_square, dy, dy_val, dy_add, dy_sub}
use Rattle.arith.proofs.SumLaws.{round-zero, plus-minus-zero, count-whole, mean_fold, slope_fold, from_products}
use Rattle.arith.specs.declared.sums.MeanSums.{MeanSums}
use Rattle.arith.specs.declared.sums.SlopeSums.{SlopeSums}
use Rattle.arith.specs.Sums.{zero_f, minus_zero, one_f, two_f, plus, less, over, sum_of, count_of, terms_from, terms, quotient_if, quotient, mean_of, middle, cross, square, slope_of}
use Rattle.arith.specs.Code.Accumulators.{mean_start, slope_start}
use Rattle.arith.specs.SlopeDivisor.{IsExactly, twice_difference, four_square, four_sum, mean_sums, slope_after, divisor_after, InBounds, ExactDivisor}

-- ---- whole numbers

minus_is : (a b : ℕ) → pos a -ℤ pos b ≡ sub_ℕ a b
minus_is a zero = flat (ltb a 0) (ltb→lt a 0)
  where
    none : (a : ℕ) → a < 0 → ⊥
    none a h = omega arith

    same : (a : ℕ) → a + 0 ≡ a - 0
    same a = omega arith

    flat : (t : Bool) → (T t → a < 0) → pos (a + 0) ≡ cond t (negsuc (0 - suc a)) (pos (a - 0))
    flat true f = absurd (none a (f tt))
    flat false f = ap pos (same a)
minus_is a (suc b) = refl

-- d is how far a and b are apart
record Apart (a b d : ℕ) : Type 0 where
  squared : d * d + 2 * (a * b) ≡ a * a + b * b
  within : (c : ℕ) → a ≤ b + c → b ≤ a + c → d ≤ c

apart-is : (a b : ℕ) → Apart a b (nat_abs (pos a -ℤ pos b))
apart-is a b = subst (λ (z : ℤ). Apart a b (nat_abs z)) (sym (minus_is a b)) (go (ltb a b) (ltb→lt a b) (nltb→le a b))
  where
    below : (d a b : ℕ) → d + a ≡ b → Apart a b d
    below d a b e = record { squared = subst (λ (z : ℕ). d * d + 2 * (a * z) ≡ a * a + z * z) e (omega arith); within = λ c h g. omega arith }

    above : (d a b : ℕ) → d + b ≡ a → Apart a b d
    above d a b e = record { squared = subst (λ (z : ℕ). d * d + 2 * (z * b) ≡ z * z + b * b) e (omega arith); within = λ c h g. omega arith }

    down-one : (a b : ℕ) → a < b → suc (b - suc a) + a ≡ b
    down-one a b h = omega arith

    back : (a b : ℕ) → b ≤ a → a - b + b ≡ a
    back a b h = omega arith

    go : (t : Bool) → (T t → a < b) → (T (not t) → b ≤ a) → Apart a b (nat_abs (cond t (negsuc (b - suc a)) (pos (a - b))))
    go true f g = below (suc (b - suc a)) a b (down-one a b (f tt))
    go false f g = above (a - b) a b (back a b (g tt))

-- three times the sum, for n = m + 1 places
closed : (m k : ℕ) → 3 * four_sum (suc m) k + 6 * suc m * (k * k) + k ≡ 4 * (k * k * k) + 3 * (suc m * suc m) * k
unfolding four_sum
closed m zero = omega arith
closed m (suc k) = next (four_sum (suc m) k) (four_square (suc m) k) m k (closed m k) (square-at m k)
  where
    less_one : (m : ℕ) → suc m - 1 ≡ m
    less_one m = omega arith

    square-at : (m k : ℕ) → four_square (suc m) k + 2 * (2 * k * m) ≡ 2 * k * (2 * k) + m * m
    square-at m k = subst (λ (z : ℕ). four_square (suc m) k + 2 * (2 * k * z) ≡ 2 * k * (2 * k) + z * z) (less_one m) (apart-is (2 * k) (suc m - 1)).squared

    next : (s q m k : ℕ) → 3 * s + 6 * suc m * (k * k) + k ≡ 4 * (k * k * k) + 3 * (suc m * suc m) * k → q + 2 * (2 * k * m) ≡ 2 * k * (2 * k) + m * m
        → 3 * (s + q) + 6 * suc m * (suc k * suc k) + suc k ≡ 4 * (suc k * suc k * suc k) + 3 * (suc m * suc m) * suc k
    next s q m k h g = omega arith

-- all n squares
closed_all : (n : ℕ) → 3 * four_sum n n ≡ n * (n * n - 1)
unfolding four_sum
closed_all zero = refl
closed_all (suc m) = last (four_sum (suc m) (suc m)) (suc m) (closed m (suc m)) ∙ sym (mul-sub (suc m) (suc m * suc m) 1)
  where
    last : (s n : ℕ) → 3 * s + 6 * n * (n * n) + n ≡ 4 * (n * n * n) + 3 * (n * n) * n → 3 * s ≡ n * (n * n) - n * 1
    last s n h = omega arith

-- four times a square is at most 2 ^ 32, so that sums of 65,536 of them are far below 2 ^ 53
module _ (n : ℕ) (most : n ≤ 65536) where
  difference-small : (i : ℕ) → i < n → nat_abs (twice_difference n i) ≤ 65536
  difference-small i h = (apart-is (2 * i) (n - 1)).within 65536 (omega arith) (omega arith)

  square-small : (i : ℕ) → i < n → four_square n i ≤ 4294967296
  square-small i h = mul-le-mul (difference-small i h) (difference-small i h)

  sum-small : (k : ℕ) → k ≤ n → four_sum n k ≤ 4294967296 * k
  unfolding four_sum
  sum-small zero h = omega arith
  sum-small (suc k) h = next (four_sum n k) (four_square n k) k (sum-small k (omega arith)) (square-small k h)
    where
      next : (s q k : ℕ) → s ≤ 4294967296 * k → q ≤ 4294967296 → s + q ≤ 4294967296 * suc k
      next s q k h g = omega arith

-- ---- the floats: whole numbers (over 2 ^ 0), halves (2 ^ 1) and quarters (2 ^ 2)

zero_is : zero_f ≡ dy 0 0
zero_is = sym (round-zero false)

one-is : one_f ≡ dy 1 0
unfolding round
one-is = refl

-- a square, by its size
square_size : (z : ℤ) → nat_abs z ≤ 65536 → mul binary64 (dz z 1) (dz z 1) ≡ dy (nat_abs z * nat_abs z) 2
square_size (pos a) h = dz_square (pos a) 1 (omega arith) (lit≤ tt)
square_size (negsuc a) h = dz_square (negsuc a) 1 (omega arith) (lit≤ tt)

-- m is the mean place of n places
module _ (n : ℕ) (most : n ≤ 65536) (m : Float) (m-is : m ≡ dy (n - 1) 1) where
  -- the place i less the mean place
  difference-is : (i : ℕ) → i < n → less (dy i 0) m ≡ dz (twice_difference n i) 1
  difference-is i h =
      ap (λ (z : Float). less z m) (dyadic_lift false i 1 0 ∙ ap (λ (z : ℕ). dy z 1) (mul_comm i 2))
      ∙ ap (λ (z : Float). less (dy (2 * i) 1) z) m-is
      ∙ dz_sub (pos (2 * i)) (pos (n - 1)) 1 (omega arith) (omega arith) (lit≤ tt)

  square-is : (i : ℕ) (y : Float) → i < n → square m (dy i 0) y ≡ dy (four_square n i) 2
  unfolding square
  square-is i y h = ap (λ (z : Float). mul binary64 z z) (difference-is i h) ∙ square_size (twice_difference n i) (difference-small n most i h)

  -- one square more
  sum_more : (i : ℕ) (y : Float) → i < n → plus (dy (four_sum n i) 2) (square m (dy i 0) y) ≡ dy (four_sum n (suc i)) 2
  unfolding four_sum
  sum_more i y h =
      ap (λ (z : Float). plus (dy (four_sum n i) 2) z) (square-is i y h)
      ∙ dy_add (four_sum n i) (four_square n i) 2 (few (four_sum n i) (four_square n i) i n (sum-small n most i (omega arith)) (square-small n most i h) h most) (lit≤ tt)
    where
      few : (s q i n : ℕ) → s ≤ 4294967296 * i → q ≤ 4294967296 → i < n → n ≤ 65536 → s + q < 2 ^ 53
      few s q i n a b h g = omega arith

  place-more : (i : ℕ) → i < n → plus (dy i 0) one_f ≡ dy (suc i) 0
  place-more i h = ap (λ (z : Float). plus (dy i 0) z) one-is ∙ dy_add i 1 0 (omega arith) (lit≤ tt) ∙ ap (λ (z : ℕ). dy z 0) (add-one i)

  -- from the place i on
  sums-from : (t : List Float) (i : ℕ) → i + length t ≤ n → foldl plus (dy (four_sum n i) 2) (terms_from (square m) (dy i 0) t) ≡ dy (four_sum n (i + length t)) 2
  unfolding terms_from
  sums-from [] i h = ap (λ (z : ℕ). dy (four_sum n z) 2) (sym (add-zero i))
  sums-from (y ∷ t) i h =
      ap (λ (z : Float). foldl plus z (terms_from (square m) (plus (dy i 0) one_f) t)) (sum_more i y (omega arith))
      ∙ ap (λ (z : Float). foldl plus (dy (four_sum n (suc i)) 2) (terms_from (square m) z t)) (place-more i (omega arith))
      ∙ sums-from t (suc i) (omega arith)
      ∙ ap (λ (z : ℕ). dy (four_sum n z) 2) (move i (length t))
    where
      move : (i k : ℕ) → suc i + k ≡ i + suc k
      move i k = omega arith

  -- from the first close on. The sum begins at -0.0, which the first square takes the place of
  sums_are : (t : List Float) → 1 ≤ length t → length t ≤ n → foldl plus minus_zero (terms (square m) t) ≡ dy (four_sum n (length t)) 2
  unfolding terms_from square four_sum
  sums_are [] g h = absurd (none g)
    where
      none : 1 ≤ 0 → ⊥
      none h = omega arith
  sums_are (y ∷ t) g h =
      ap (λ (z : Float). foldl plus z (terms_from (square m) (plus zero_f one_f) t)) (plus-minus-zero (square m zero_f y) (mul-fits binary64 (sub binary64 zero_f m) (sub binary64 zero_f m)))
      ∙ ap (λ (z : Float). foldl plus (square m z y) (terms_from (square m) (plus z one_f) t)) zero_is
      ∙ ap (λ (z : Float). foldl plus z (terms_from (square m) (plus (dy 0 0) one_f) t)) (square-is 0 y (omega arith) ∙ ap (λ (z : ℕ). dy z 2) (sym (zero-add (four_square n 0))))
      ∙ ap (λ (z : Float). foldl plus (dy (four_sum n 1) 2) (terms_from (square m) z t)) (place-more 0 (omega arith))
      ∙ sums-from t 1 (omega arith)
      ∙ ap (λ (z : ℕ). dy (four_sum n z) 2) (one-first (length t))
    where
      one-first : (k : ℕ) → 1 + k ≡ suc k
      one-first k = omega arith

-- ---- the accumulators

is : {x y : Float} (z : ℤ) (c : ℕ) → x ≡ y → IsExactly y z c → IsExactly x z c
is z c e v = subst (λ (x : Float). IsExactly x z c) (sym e) v

module _ (l : List Float) (b : InBounds l) where
  count-is : (mean_sums l).n ≡ dy (length l) 0
  count-is = ap (λ (s : MeanSums). s.n) (mean_fold mean_start l) ∙ count-whole l (omega arith) ∙ dz_int (pos (length l))

  less-one-is : less (mean_sums l).n one_f ≡ dy (length l - 1) 0
  less-one-is = ap (λ (z : Float). less z one_f) count-is ∙ ap (λ (z : Float). less (dy (length l) 0) z) one-is ∙ dy_sub (length l) 1 0 (omega arith) (omega arith) (lit≤ tt)

  mean_is : middle (mean_sums l).n ≡ dy (length l - 1) 1
  unfolding middle
  mean_is = ap (λ (z : Float). over z two_f) less-one-is ∙ dyadic_half false (length l - 1) 0 (omega arith) (lit≤ tt)

  mean_after : (k : ℕ) → (slope_after l k).xmean ≡ dy (length l - 1) 1
  unfolding slope_start
  mean_after k = ap (λ (s : SlopeSums). s.xmean) (slope_fold (slope_start (mean_sums l)) (take k l)) ∙ mean_is

  place_after : (k : ℕ) → k ≤ length l → (slope_after l k).n ≡ dy k 0
  unfolding slope_start
  place_after k h =
      let e : length (take k l) ≡ k = length-take-le k l h in
      ap (λ (s : SlopeSums). s.n) (slope_fold (slope_start (mean_sums l)) (take k l)) ∙ count-whole (take k l) (omega arith) ∙ dz_int (pos (length (take k l))) ∙ ap (λ (z : ℕ). dy z 0) e

  divisor_after_lem : (k : ℕ) → 1 ≤ k → k ≤ length l → divisor_after l k ≡ dy (four_sum (length l) k) 2
  unfolding slope_start
  divisor_after_lem k g h =
      let e : length (take k l) ≡ k = length-take-le k l h in
      ap (λ (s : SlopeSums). s.denominator) (slope_fold (slope_start (mean_sums l)) (take k l))
      ∙ sums_are (length l) b.1 (middle (mean_sums l).n) mean_is (take k l) (omega arith) (omega arith)
      ∙ ap (λ (z : ℕ). dy (four_sum (length l) z) 2) e

  difference-after : (i : ℕ) → i < length l → less (slope_after l i).n (slope_after l i).xmean ≡ dz (twice_difference (length l) i) 1
  difference-after i h =
      ap (λ (z : Float). less z (slope_after l i).xmean) (place_after i (omega arith))
      ∙ difference-is (length l) b.1 (slope_after l i).xmean (mean_after i) i h

  square-after : (i : ℕ) (y : Float) → i < length l → square (slope_after l i).xmean (slope_after l i).n y ≡ dy (four_square (length l) i) 2
  square-after i y h =
      ap (λ (z : Float). square (slope_after l i).xmean z y) (place_after i (omega arith))
      ∙ square-is (length l) b.1 (slope_after l i).xmean (mean_after i) i y h

  sum_under : (k : ℕ) → k ≤ length l → four_sum (length l) k < 2 ^ 53
  sum_under k h = let s = sum-small (length l) b.1 k h in omega arith

  partial-is : (k : ℕ) → 1 ≤ k → k ≤ length l → IsExactly (divisor_after l k) (pos (four_sum (length l) k)) 4
  partial-is k g h = is (pos (four_sum (length l) k)) 4 (divisor_after_lem k g h) (dy_val (four_sum (length l) k) 2 (sum_under k h) (lit≤ tt))

  total-is : IsExactly (divisor_after l (length l)) (pos (length l * (length l * length l - 1))) 12
  total-is =
      subst (λ (z : ℕ). HasValue (divisor_after l (length l)) false z 12) (closed_all (length l))
      (value-times 3 (divisor_after l (length l)) false (four_sum (length l) (length l)) 4 (partial-is (length l) (omega arith) (omega arith)))

  -- the divisor that slope_of names is the one that is summed
  named-is : sum_of (terms (square (middle (count_of l))) l) ≡ divisor_after l (length l)
  unfolding square
  named-is =
      let m = middle (count_of l) in
      sym (from_products (square m) (λ x y. mul-fits binary64 (sub binary64 x m) (sub binary64 x m)) l)
      ∙ sums_are (length l) b.1 m (ap (λ (s : MeanSums). middle s.n) (sym (mean_fold mean_start l)) ∙ mean_is) l (omega arith) (omega arith)
      ∙ sym (divisor_after_lem (length l) (omega arith) (omega arith))

  not-zero : eq (divisor_after l (length l)) zero_f ≡ false
  unfolding eq
  not-zero = above (divisor_after l (length l)) (length l * (length l * length l - 1)) (some (length l) b.0) total-is
    where
      some : (n : ℕ) → 2 ≤ n → 0 < n * (n * n - 1)
      some n h = let g : 4 ≤ n * n = mul-le-mul h h in mul-pos (omega arith) (omega arith)

      none : (x a d : ℕ) → 0 < a → 0 < d → x * 12 ≡ a * d → x * 1 ≡ 0 * 1 * d → ⊥
      none x a d h g p q = let k : 0 < a * d = mul-pos h g in omega arith

      above : (x : Float) (a : ℕ) → 0 < a → HasValue x false a 12 → eq x zero_f ≡ false
      above nan a h v = refl
      above (inf s) a h v = refl
      above (fin s m e) a h v = same (level s (m * up e * 1) false (0 * 1 * down e)) false (λ t. absurd (none (m * up e) a (down e) h (down_pos e) v.1 (eqb→eq (m * up e * 1) (0 * 1 * down e) (and_l (eqb (m * up e * 1) (0 * 1 * down e)) (beq s false || eqb (m * up e * 1) 0) t)))) (λ t. absurd t)

slope-divides : (l : List Float) → InBounds l → slope_of l ≡ over (sum_of (terms (cross (middle (count_of l)) (mean_of l)) l)) (divisor_after l (length l))
unfolding slope_of quotient_if
slope-divides [] b = absurd (none b.0)
  where
    none : 2 ≤ 0 → ⊥
    none h = omega arith
slope-divides (x ∷ []) b = absurd (none b.0)
  where
    none : 2 ≤ 1 → ⊥
    none h = omega arith
slope-divides (x ∷ y ∷ t) b =
    let l = x ∷ y ∷ t in
    let a = sum_of (terms (cross (middle (count_of l)) (mean_of l)) l) in
    ap (quotient a) (named-is l b) ∙ ap (λ (t : Bool). quotient_if t a (divisor_after l (length l))) (not-zero l b)

-- ---- the claim

pub exact_divisor : ExactDivisor
exact_divisor =
    record {
      count = λ l b. is (pos (length l)) 1 (count-is l b) (dy_val (length l) 0 (omega arith) (lit≤ tt));
      less_one = λ l b. is (pos (length l - 1)) 1 (less-one-is l b) (dy_val (length l - 1) 0 (omega arith) (lit≤ tt));
      mean_place = λ l b k. is (pos (length l - 1)) 2 (mean_after l b k) (dy_val (length l - 1) 1 (omega arith) (lit≤ tt));
      place = λ l b i h. is (pos i) 1 (place_after l b i (omega arith)) (dy_val i 0 (omega arith) (lit≤ tt));
      difference = λ l b i h. is (twice_difference (length l) i) 2 (difference-after l b i h) (let s = difference-small (length l) b.1 i h in dz_val (twice_difference (length l) i) 1 (omega arith) (lit≤ tt));
      squared = λ l b i h y. is (pos (four_square (length l) i)) 4 (square-after l b i y h) (let s = square-small (length l) b.1 i h in dy_val (four_square (length l) i) 2 (omega arith) (lit≤ tt));
      partial = partial-is;
      total = total-is;
      divides = slope-divides;
    }
