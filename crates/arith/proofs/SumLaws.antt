-- Laws of the sums of specs/Sums.antt. The accumulators, fed the values of a list in order, give what the definitions over the list say
-- (`sum_is`, `mean_is`, `slope-is`, `acceleration-is`, `snr-is`), and the places and counts are the whole numbers that the Rust casts
-- (`count-whole`, `term_at`). Assumes nothing.
use Rattle.std.proofs.Common.{◌≡◌, ℕ, zero, suc, ◌+◌, ◌-◌, ◌*◌, ◌/◌, ◌^◌, ◌<◌, ◌≤◌, min, Bool, true, false, cond, not, ◌&&◌, T, ltb, ◌⊎◌, List, [], ◌∷◌, map, length, get_or, drop, ℤ, pos, sym, refl, ap, ◌∙◌, subst, inl, inr, true≢false, le_trans, le_refl, add-zero, le_of_lt, zero-lt-suc, mul_assoc, lt_of_mul-lt-mul_right, eq-or-lt_of_le, mul-lt-mul_of_pos_right, mul-pos, one-mul, zero-add, zero-mul, mul-one, mul_right_comm, add-one, arith, lit≤, ltb→lt, lt→ltb, nltb→le, drop_of_length-le, drop-cons, le-ltb}
use mathlib.Core.List.{foldl}
use native.Mathlib.Nat.{min-eq_left, min-eq_right, min-le_right}
use lib.Ieee.{Float, nan, inf, fin, Format, binary64, prec, low, emax, up, down, size, round, sum, add, sub, lt, fits, of_int, to_bits, of_bits}
use lib.Ieee.Fits.{up_pos, down_pos, nan-fits, round-fits, sub-fits, mul-fits}
use Rattle.arith.specs.Order.{abs_of}
use lib.Ieee.Bits.{of_bits-to_bits}
use lib.Ieee.Back.{round_whole}
use lib.Ieee.Exact.{HasValue}
use lib.Ieee.Nearest.{div_same}
use Rattle.arith.proofs.FloatValues.{round-own, zero_exp, add_at}
use Rattle.arith.specs.declared.sums.MeanSums.{MeanSums}
use Rattle.arith.specs.declared.sums.SlopeSums.{SlopeSums}
use Rattle.arith.specs.declared.sums.FitSums.{FitSums}
use Rattle.arith.specs.declared.sums.SnrSums.TheVariants.{Bars}
use Rattle.arith.specs.Sums.{zero_f, minus_zero, one_f, two_f, three_f, plus, less, over, sum_of, sum_from_zero, count_from, count_of, terms_from, terms, quotient, mean_of}
use Rattle.arith.specs.Sums.{middle, cross, square, slope_of, x4_of, x3_of, x2_of, x1_of, x2y_of, xy_of, y_of, fit_sums, fit_of, acceleration_of, change_of, last_from, snr_of}
use Rattle.arith.specs.Code.Accumulators.{mean_start, mean_more, mean_end, slope_start, slope_more, slope_end, slope_end_if, fit_start, fit_more, fit_end, fit_end_if, snr_start, snr_more, snr_end}

-- ---- -0.0 is where a sum from its first term may start

-- a value's bits are made of its sign and of its size in the format's smallest values
bits_same : (f : Format) (s : Bool) (m n : ℕ) (e d : ℤ) → m * up e * 2 ^ low f / down e ≡ n * up d * 2 ^ low f / down d → to_bits f (fin s m e) ≡ to_bits f (fin s n d)
unfolding to_bits
bits_same f s m n e d h = ap (λ (z : ℕ). cond s (2 ^ (prec f - 1) * suc (2 * emax f + 1)) 0 + (size z - prec f) * 2 ^ (prec f - 1) + z / 2 ^ (size z - prec f)) h

-- two values that fit, with one sign and one size, are one value
pub value_unique : (f : Format) (x : Float) (s : Bool) (m : ℕ) (e : ℤ) → T (fits f x) → T (fits f (fin s m e)) → HasValue x s (m * up e) (down e) → x ≡ fin s m e
value_unique f nan s m e p q v = absurd v
value_unique f (inf t) s m e p q v = absurd v
value_unique f (fin t n d) s m e p q v =
    let l = 2 ^ low f in
    let h : n * up d * l * down e ≡ m * up e * l * down d =
    mul_right_comm (n * up d) l (down e) ∙ ap (λ (z : ℕ). z * l) v.1 ∙ mul_right_comm (m * up e) (down d) l in
    let b : to_bits f (fin t n d) ≡ to_bits f (fin s m e) =
    ap (λ (u : Bool). to_bits f (fin u n d)) v.0 ∙ bits_same f s n m d e (div_same (n * up d * l) (down d) (m * up e * l) (down e) (down_pos d) (down_pos e) h) in
    sym (of_bits-to_bits f (fin t n d) p) ∙ ap (of_bits f) b ∙ of_bits-to_bits f (fin s m e) q

pub round-zero : (s : Bool) → round binary64 s 0 1 ≡ fin s 0 (pos 0)
unfolding round
round-zero s = refl

-- `round` does not change what fits
pub round_self : (s : Bool) (m : ℕ) (e : ℤ) → T (fits binary64 (fin s m e)) → round binary64 s (m * up e) (down e) ≡ fin s m e
round_self s zero e t =
    let z = zero_exp binary64 s e t in
    ap (λ (d : ℤ). round binary64 s (zero * up d) (down d)) z ∙ round-zero s ∙ ap (λ (d : ℤ). fin s zero d) (sym z)
round_self s (suc m) e t =
    value_unique binary64 (round binary64 s (suc m * up e) (down e)) s (suc m) e (round-fits binary64 s (suc m * up e) (down e)) t (round-own binary64 s (suc m) e (zero-lt-suc m) t)

-- the two ways of `sum` with a first operand of size 0
from_zero_lem : (A B C D E : ℕ) (s : Bool) → A ≡ 0 → B ≡ D → C ≡ E → 0 < D → sum binary64 true A s B C ≡ round binary64 s D E
unfolding sum
from_zero_lem A B C D E true a b c h = ap (λ (z : ℕ). round binary64 true (z + B) C) a ∙ ap (λ (z : ℕ). round binary64 true z C) (zero-add B ∙ b) ∙ ap (λ (z : ℕ). round binary64 true D z) c
from_zero_lem A B C D E false a b c h = go (ltb A B) (lt→ltb A B (less_than A B D a b h)) ∙ ap (λ (z : ℕ). round binary64 false z C) (minus-none A B D a b) ∙ ap (λ (z : ℕ). round binary64 false D z) c
  where
    less_than : (A B D : ℕ) → A ≡ 0 → B ≡ D → 0 < D → A < B
    less_than A B D a b h = omega arith

    minus-none : (A B D : ℕ) → A ≡ 0 → B ≡ D → B - A ≡ D
    minus-none A B D a b = omega arith

    go : (t : Bool) → T t → cond t (round binary64 false (B - A) C) (round binary64 (true && ltb B A) (A - B) C) ≡ round binary64 false (B - A) C
    go true t = refl
    go false t = absurd t

-- -0.0 + x is x
pub plus-minus-zero : (x : Float) → T (fits binary64 x) → plus minus_zero x ≡ x
unfolding add
plus-minus-zero nan t = refl
plus-minus-zero (inf s) t = refl
plus-minus-zero (fin s zero e) t =
    let z = zero_exp binary64 s e t in
    ap (λ (d : ℤ). add binary64 minus_zero (fin s zero d)) z ∙ none s ∙ ap (λ (d : ℤ). fin s zero d) (sym z)
  where
    none : (s : Bool) → add binary64 minus_zero (fin s 0 (pos 0)) ≡ fin s 0 (pos 0)
    none true = refl
    none false = refl
plus-minus-zero (fin s (suc m) e) t =
    from_zero_lem (0 * 1 * down e) (suc m * up e * 1) (1 * down e) (suc m * up e) (down e) s (zero-mul (down e)) (mul-one (suc m * up e)) (one-mul (down e)) (mul-pos (zero-lt-suc m) (up_pos e))
    ∙ round_self s (suc m) e t

-- 0.0 + x is x where x has no minus sign
zero-plus-size : (x : Float) → T (fits binary64 x) → plus zero_f (abs_of x) ≡ abs_of x
unfolding add sum abs_of fits
zero-plus-size nan t = refl
zero-plus-size (inf s) t = refl
zero-plus-size (fin s zero e) t = let z = zero_exp binary64 s e t in ap (λ (d : ℤ). add binary64 zero_f (fin false zero d)) z ∙ ap (λ (d : ℤ). fin false zero d) (sym z)
zero-plus-size (fin s (suc m) e) t =
    ap (λ (z : ℕ). round binary64 false z (1 * down e)) (bare (suc m * up e) (down e))
    ∙ ap (λ (z : ℕ). round binary64 false (suc m * up e) z) (one-mul (down e))
    ∙ round_self false (suc m) e t
  where
    bare : (M D : ℕ) → 0 * 1 * D + M * 1 ≡ M
    bare M D = omega arith

-- so a sum of changes may begin with the first of them
zero-plus-change : (p : Float × Float) → plus zero_f (change_of p) ≡ change_of p
unfolding change_of
zero-plus-change p = zero-plus-size (less p.1 p.0) (sub-fits binary64 p.1 p.0)

pub from_first : (l : List Float) → T (fits binary64 (get_or l 0 nan)) → foldl plus minus_zero l ≡ sum_of l
unfolding sum_of
from_first [] t = refl
from_first (x ∷ l) t = ap (λ (z : Float). foldl plus z l) (plus-minus-zero x t)

-- ---- counts and places are whole numbers, as the Rust's casts of `len()` and of an index

abbrev top : ℕ
top = 9007199254740992

-- one more: up to 2 ^ 53 the next whole number, and from there on the same
one_more : (n : ℕ) → n < top → plus (of_int binary64 (pos n)) one_f ≡ of_int binary64 (pos (n + 1))
unfolding of_int sum
one_more n h = add_at binary64 (round binary64 false n 1) one_f false false n 1 1 (zero-lt-suc 0) (round_whole binary64 false n (up_to n h)) (refl, refl)
  where
    up_to : (n : ℕ) → n < top → n ≤ 2 ^ 53
    up_to n h = omega arith

top_is : of_int binary64 (pos top) ≡ fin false 1 (pos 53)
unfolding of_int round
top_is = refl

at_top : plus (fin false 1 (pos 53)) one_f ≡ fin false 1 (pos 53)
unfolding add sum round
at_top = refl

no_more : plus (of_int binary64 (pos top)) one_f ≡ of_int binary64 (pos top)
no_more = ap (λ (z : Float). plus z one_f) top_is ∙ at_top ∙ sym top_is

count-from : {A : Type 0} (n : ℕ) (l : List A) → n ≤ top → count_from (of_int binary64 (pos n)) l ≡ of_int binary64 (pos (min (n + length l) top))
unfolding count_from
count-from n [] h = ap (λ (z : ℕ). of_int binary64 (pos z)) (still n h)
  where
    still : (n : ℕ) → n ≤ top → n ≡ min (n + 0) top
    still n h = let e : n + 0 ≤ top = omega arith in sym (min-eq_left e ∙ add-zero n)
count-from n (x ∷ l) h = go (eq-or-lt_of_le h) (λ m g. count-from m l g)
  where
    both : (k : ℕ) → min (top + k) top ≡ min (top + suc k) top
    both k = let a : top ≤ top + k = omega arith in let b : top ≤ top + suc k = omega arith in min-eq_right a ∙ sym (min-eq_right b)

    next : (n : ℕ) → n < top → n + 1 ≤ top
    next n k = omega arith

    move : (n k : ℕ) → n + 1 + k ≡ n + suc k
    move n k = omega arith

    go : (n ≡ top) ⊎ (n < top) → ((m : ℕ) → m ≤ top → count_from (of_int binary64 (pos m)) l ≡ of_int binary64 (pos (min (m + length l) top)))
        → count_from (plus (of_int binary64 (pos n)) one_f) l ≡ of_int binary64 (pos (min (n + suc (length l)) top))
    go (inl e) ih =
        ap (λ (z : ℕ). count_from (plus (of_int binary64 (pos z)) one_f) l) e
        ∙ ap (λ (z : Float). count_from z l) no_more
        ∙ ih top (le_refl top)
        ∙ ap (λ (z : ℕ). of_int binary64 (pos z)) (both (length l) ∙ ap (λ (z : ℕ). min (z + suc (length l)) top) (sym e))
    go (inr k) ih =
        ap (λ (z : Float). count_from z l) (one_more n k)
        ∙ ih (n + 1) (next n k)
        ∙ ap (λ (z : ℕ). of_int binary64 (pos (min z top))) (move n (length l))

-- how many values: the whole number, which stays at 2 ^ 53 where there are more
pub count-is : {A : Type 0} (l : List A) → count_of l ≡ of_int binary64 (pos (min (length l) (2 ^ 53)))
unfolding of_int round
count-is l = count-from 0 l (lit≤ tt) ∙ ap (λ (z : ℕ). of_int binary64 (pos (min z top))) (zero-add (length l))

pub count-whole : {A : Type 0} (l : List A) → length l ≤ 2 ^ 53 → count_of l ≡ of_int binary64 (pos (length l))
count-whole l h = count-is l ∙ ap (λ (z : ℕ). of_int binary64 (pos z)) (min-eq_left h)

term_from : (f : Float → Float → Float) (z : Float) (l : List Float) (n i : ℕ) → i < length l → n + i ≤ top
    → get_or (terms_from f (of_int binary64 (pos n)) l) i z ≡ f (of_int binary64 (pos (n + i))) (get_or l i z)
unfolding terms_from
term_from f z [] n i h k = absurd (none i h)
  where
    none : (i : ℕ) → i < 0 → ⊥
    none i h = omega arith
term_from f z (y ∷ l) n zero h k = ap (λ (m : ℕ). f (of_int binary64 (pos m)) y) (sym (add-zero n))
term_from f z (y ∷ l) n (suc i) h k =
    ap (λ (x : Float). get_or (terms_from f x l) i z) (one_more n (below n i k))
    ∙ term_from f z l (n + 1) i (less_than i (length l) h) (subst (λ (m : ℕ). m ≤ top) (move n i) k)
    ∙ ap (λ (m : ℕ). f (of_int binary64 (pos m)) (get_or l i z)) (sym (move n i))
  where
    below : (n i : ℕ) → n + suc i ≤ top → n < top
    below n i k = omega arith

    less_than : (i n : ℕ) → suc i < suc n → i < n
    less_than i n h = omega arith

    move : (n i : ℕ) → n + suc i ≡ n + 1 + i
    move n i = omega arith

-- the term of the i-th value is made of the float of i, as the Rust's `i as f64`
pub term_at : (f : Float → Float → Float) (z : Float) (l : List Float) (i : ℕ) → i < length l → i ≤ 2 ^ 53 → get_or (terms f l) i z ≡ f (of_int binary64 (pos i)) (get_or l i z)
unfolding of_int round
term_at f z l i h k = term_from f z l 0 i h (subst (λ (m : ℕ). m ≤ top) (sym (zero-add i)) k) ∙ ap (λ (m : ℕ). f (of_int binary64 (pos m)) (get_or l i z)) (zero-add i)

-- ---- the test for few values

scaled : (a b d : ℕ) → 0 < d → ltb (a * d) (b * d) ≡ ltb a b
scaled a b d h =
    same (ltb (a * d) (b * d)) (ltb a b)
    (λ t. lt→ltb a b (lt_of_mul-lt-mul_right d (ltb→lt (a * d) (b * d) t)))
    (λ t. lt→ltb (a * d) (b * d) (mul-lt-mul_of_pos_right (ltb→lt a b t) h))
  where
    same : (s t : Bool) → (T s → T t) → (T t → T s) → s ≡ t
    same true true p q = refl
    same true false p q = absurd (p tt)
    same false true p q = absurd (q tt)
    same false false p q = refl

lt-whole : (x y : Float) (a b : ℕ) → HasValue x false a 1 → HasValue y false b 1 → lt x y ≡ ltb a b
unfolding lt
lt-whole nan y a b p q = absurd p
lt-whole (inf s) y a b p q = absurd p
lt-whole (fin true m e) y a b p q = absurd (true≢false p.0)
lt-whole (fin false m e) nan a b p q = absurd q
lt-whole (fin false m e) (inf t) a b p q = absurd q
lt-whole (fin false m e) (fin true n d) a b p q = absurd (true≢false q.0)
lt-whole (fin false m e) (fin false n d) a b p q =
    let x : m * up e * down d ≡ a * (down e * down d) = ap (λ (z : ℕ). z * down d) (sym (mul-one (m * up e)) ∙ p.1) ∙ mul_assoc a (down e) (down d) in
    let y : n * up d * down e ≡ b * (down e * down d) = ap (λ (z : ℕ). z * down e) (sym (mul-one (n * up d)) ∙ q.1) ∙ mul_right_comm b (down d) (down e) ∙ mul_assoc b (down e) (down d) in
    ap (λ (z : ℕ). ltb z (n * up d * down e)) x ∙ ap (λ (z : ℕ). ltb (a * (down e * down d)) z) y ∙ scaled a b (down e * down d) (mul-pos (down_pos e) (down_pos d))

below-min : (k n m : ℕ) → k ≤ m → ltb (min n m) k ≡ ltb n k
below-min k n m g = go (ltb n m) (ltb→lt n m) (nltb→le n m)
  where
    go : (b : Bool) → (T b → n < m) → (T (not b) → m ≤ n) → ltb (min n m) k ≡ ltb n k
    go true a b = ap (λ (z : ℕ). ltb z k) (min-eq_left (le_of_lt (a tt)))
    go false a b = ap (λ (z : ℕ). ltb z k) (min-eq_right (b tt)) ∙ le-ltb m k g ∙ sym (le-ltb n k (le_trans g (b tt)))

-- fewer than k values, for a small k, is a count below k
pub few : {A : Type 0} (l : List A) (k : ℕ) → k ≤ 2 ^ 53 → lt (count_of l) (of_int binary64 (pos k)) ≡ ltb (length l) k
unfolding of_int
few l k h =
    ap (λ (z : Float). lt z (round binary64 false k 1)) (count-is l)
    ∙ lt-whole (round binary64 false (min (length l) (2 ^ 53)) 1) (round binary64 false k 1) (min (length l) (2 ^ 53)) k (round_whole binary64 false (min (length l) (2 ^ 53)) (min-le_right (length l) (2 ^ 53))) (round_whole binary64 false k h)
    ∙ below-min k (length l) (2 ^ 53) h

-- ---- the accumulators after each value of a list in turn

pub mean_fold : (s : MeanSums) (l : List Float) → foldl mean_more s l ≡ record { n = count_from s.n l; sum = foldl plus s.sum l }
unfolding mean_more count_from
mean_fold s [] = refl
mean_fold s (y ∷ l) = mean_fold (mean_more s y) l

pub slope_fold : (s : SlopeSums) (l : List Float)
    → foldl slope_more s l ≡ record { n = count_from s.n l; xmean = s.xmean; ymean = s.ymean; numerator = foldl plus s.numerator (terms_from (cross s.xmean s.ymean) s.n l); denominator = foldl plus s.denominator (terms_from (square s.xmean) s.n l) }
unfolding slope_more count_from terms_from
slope_fold s [] = refl
slope_fold s (y ∷ l) = slope_fold (slope_more s y) l

abbrev fit_from : FitSums → List Float → FitSums
fit_from s l =
    record {
      n = count_from s.n l;
      x4 = foldl plus s.x4 (terms_from x4_of s.n l);
      x3 = foldl plus s.x3 (terms_from x3_of s.n l);
      x2 = foldl plus s.x2 (terms_from x2_of s.n l);
      x = foldl plus s.x (terms_from x1_of s.n l);
      x2y = foldl plus s.x2y (terms_from x2y_of s.n l);
      xy = foldl plus s.xy (terms_from xy_of s.n l);
      y = foldl plus s.y (terms_from y_of s.n l);
    }

fit_fold : (s : FitSums) (l : List Float) → foldl fit_more s l ≡ fit_from s l
unfolding fit_more count_from terms_from
fit_fold s [] = refl
fit_fold s (y ∷ l) = fit_fold (fit_more s y) l

-- from the second bar on
snr_fold : (a c t : Float) (l : List (Float × Float)) → foldl snr_more (Bars a c t) l ≡ Bars a (last_from c l) (foldl plus t (map change_of l))
unfolding snr_more last_from
snr_fold a c t [] = refl
snr_fold a c t (p ∷ l) = snr_fold a p.1 (plus t (change_of p)) l

-- ---- what they give at the end. A sum from its first term asks that this term is a value of f64, as every f64 is.

module _ (l : List Float) (t : T (fits binary64 (get_or l 0 nan))) where
  pub sum_is : (foldl mean_more mean_start l).sum ≡ sum_of l
  sum_is = ap (λ (s : MeanSums). s.sum) (mean_fold mean_start l) ∙ from_first l t

  pub mean_is : mean_end (foldl mean_more mean_start l) ≡ mean_of l
  unfolding mean_end mean_of
  mean_is = ap mean_end (mean_fold mean_start l) ∙ ap (λ (z : Float). over z (count_of l)) (from_first l t)

-- the first term of a sum of products is a product
pub from_products : (f : Float → Float → Float) → ((x y : Float) → T (fits binary64 (f x y))) → (l : List Float) → foldl plus minus_zero (terms f l) ≡ sum_of (terms f l)
unfolding terms_from
from_products f k [] = from_first [] (nan-fits binary64)
from_products f k (y ∷ l) = from_first (terms f (y ∷ l)) (k zero_f y)

two_is : of_int binary64 (pos 2) ≡ two_f
unfolding of_int round
two_is = refl

three-is : of_int binary64 (pos 3) ≡ three_f
unfolding of_int round
three-is = refl

abbrev slope_begun : List Float → SlopeSums
slope_begun l = record { n = zero_f; xmean = middle (count_of l); ymean = mean_of l; numerator = minus_zero; denominator = minus_zero }

slope-begun : (l : List Float) → T (fits binary64 (get_or l 0 nan)) → slope_start (foldl mean_more mean_start l) ≡ slope_begun l
unfolding slope_start
slope-begun l t =
    ap (λ (m : Float). record { n = zero_f; xmean = middle (foldl mean_more mean_start l).n; ymean = m; numerator = minus_zero; denominator = minus_zero }) (mean_is l t)
    ∙ ap (λ (s : MeanSums). record { n = zero_f; xmean = middle s.n; ymean = mean_of l; numerator = minus_zero; denominator = minus_zero }) (mean_fold mean_start l)

-- not fewer than k, by the count
many : {A : Type 0} (l : List A) (k : ℕ) (y : Float) → of_int binary64 (pos k) ≡ y → k ≤ 2 ^ 53 → k ≤ length l → lt (count_of l) y ≡ false
many l k y e h g = ap (λ (z : Float). lt (count_of l) z) (sym e) ∙ few l k h ∙ le-ltb (length l) k g

slope-end : (l : List Float) → 2 ≤ length l
    → slope_end (foldl slope_more (slope_begun l) l) ≡ quotient (sum_of (terms (cross (middle (count_of l)) (mean_of l)) l)) (sum_of (terms (square (middle (count_of l))) l))
unfolding slope_end slope_end_if cross square
slope-end l h =
    let m = middle (count_of l) in
    let v = mean_of l in
    ap slope_end (slope_fold (slope_begun l) l)
    ∙ ap (λ (b : Bool). slope_end_if b (record { n = count_of l; xmean = m; ymean = v; numerator = foldl plus minus_zero (terms (cross m v) l); denominator = foldl plus minus_zero (terms (square m) l) })) (many l 2 two_f two_is (lit≤ tt) h)
    ∙ ap (λ (z : Float). quotient z (foldl plus minus_zero (terms (square m) l))) (from_products (cross m v) (λ x y. mul-fits binary64 (sub binary64 x m) (sub binary64 y v)) l)
    ∙ ap (λ (z : Float). quotient (sum_of (terms (cross m v) l)) z) (from_products (square m) (λ x y. mul-fits binary64 (sub binary64 x m) (sub binary64 x m)) l)

slope-two : (l : List Float) → slope_end (foldl slope_more (slope_begun l) l) ≡ slope_of l
unfolding slope_of slope_end slope_end_if slope_more lt add sum round
slope-two [] = refl
slope-two (x ∷ []) = refl
slope-two (x ∷ y ∷ l) = slope-end (x ∷ y ∷ l) (two-more (length l))
  where
    two-more : (n : ℕ) → 2 ≤ suc (suc n)
    two-more n = omega arith

pub slope-is : (l : List Float) → T (fits binary64 (get_or l 0 nan)) → slope_end (foldl slope_more (slope_start (foldl mean_more mean_start l)) l) ≡ slope_of l
slope-is l t = ap (λ (s : SlopeSums). slope_end (foldl slope_more s l)) (slope-begun l t) ∙ slope-two l

fit_sums_lem : (l : List Float) → foldl fit_more fit_start l ≡ fit_sums l
unfolding fit_sums sum_from_zero
fit_sums_lem l = fit_fold fit_start l

fit_end_lem : (l : List Float) → 3 ≤ length l → fit_end (foldl fit_more fit_start l) ≡ fit_of (fit_sums l)
unfolding fit_end fit_end_if fit_sums
fit_end_lem l h = ap fit_end (fit_sums_lem l) ∙ ap (λ (b : Bool). fit_end_if b (fit_sums l)) (many l 3 three_f three-is (lit≤ tt) h)

pub acceleration-is : (l : List Float) → fit_end (foldl fit_more fit_start l) ≡ acceleration_of l
unfolding acceleration_of fit_end fit_end_if fit_more lt add sum round
acceleration-is [] = refl
acceleration-is (x ∷ []) = refl
acceleration-is (x ∷ y ∷ []) = refl
acceleration-is (x ∷ y ∷ z ∷ l) = fit_end_lem (x ∷ y ∷ z ∷ l) (three-more (length l))
  where
    three-more : (n : ℕ) → 3 ≤ suc (suc (suc n))
    three-more n = omega arith

pub snr-is : (l : List (Float × Float)) → snr_end (foldl snr_more snr_start l) ≡ snr_of l
unfolding snr_of snr_end snr_more sum_from_zero last_from
snr-is [] = refl
snr-is (p ∷ []) = refl
snr-is (p ∷ q ∷ l) =
    ap snr_end (snr_fold p.0 q.1 (plus (plus zero_f (change_of p)) (change_of q)) l)

-- ---- a loop over a list: what is left to take in gives the answer

module _ {A S : Type 0} (f : S → A → S) where
  pub fold_turn : (l : List A) (i : ℕ) (z : A) (s s' e : S) → i < length l → s' ≡ f s (get_or l i z) → foldl f s (drop i l) ≡ e → foldl f s' (drop (i + 1) l) ≡ e
  fold_turn l i z s s' e h q k = rw (add-one, q) (sym (ap (foldl f s) (drop-cons l i z h)) ∙ k)

  pub fold_end : (l : List A) (i : ℕ) (s e : S) → length l ≤ i → foldl f s (drop i l) ≡ e → s ≡ e
  fold_end l i s e h k = sym (ap (foldl f s) (drop_of_length-le l h)) ∙ k
