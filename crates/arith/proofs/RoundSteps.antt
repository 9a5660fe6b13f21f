-- The whole part of a float, and what `half_up` of src/rounding.rt answers. Assumes nothing.
use Rattle.std.proofs.Common.{◌≡◌, ℕ, suc, ◌+◌, ◌*◌, ◌/◌, ◌^◌, ◌<◌, true, false, T, ℤ, pos, sym, refl, ap, ◌∙◌, subst, true≢false, lt_of_lt_of_le, mul-le-mul_right, mul_assoc, mul_comm, div-lt_iff_lt-mul, add-mul, lt_of_mul-lt-mul_right, mul-lt-mul_of_pos_right, one-mul, mul-one, mul_right_comm, mul_left_comm, arith, lit≤, ltb→lt, lt→ltb, pow_mono}
use native.Mathlib.Nat.{div-div-eq-div-mul, add-div_right, min-eq_left, pow-succ'}
use lib.Pow.{le_ones}
use lib.Ieee.{Float, nan, inf, fin, binary64, low, up, down, sum, add, fits, to_unsigned, lt}
use lib.Ieee.Fits.{down_pos}
use lib.Ieee.Exact.{HasValue}
use lib.Ieee.Nearest.{div_same}
use lib.Ieee.Positive.{positive, num, den, den_pos}
use Rattle.arith.specs.Rounding.{half_up}
use Rattle.arith.proofs.FloatValues.{double, add_at, fine, units_of, exact_in}

-- ---- the whole part of a float, as the cast to u64 has it

pub cut_val : (w : ℕ) (z : Float) (a c : ℕ) → 0 < c → HasValue z false a c → a < 2 ^ w * c → to_unsigned w z ≡ a / c
unfolding to_unsigned
cut_val w nan a c C v h = absurd v
cut_val w (inf s) a c C v h = absurd v
cut_val w (fin true m e) a c C v h = absurd (true≢false v.0)
cut_val w (fin false m e) a c C v h =
    let q : m * up e / down e ≡ a / c = div_same (m * up e) (down e) a c (down_pos e) C v.1 in
    let l : a / c < 2 ^ w = (div-lt_iff_lt-mul C).1 h in
    min-eq_left (le_ones w (subst (λ (k : ℕ). k < 2 ^ w) (sym q) l)) ∙ q

-- a value that is not negative lies between -1 and 2 ^ 64 where its fraction does
pub above_minus : (z : Float) (a c : ℕ) → HasValue z false a c → T (lt (fin true 1 (pos 0)) z)
unfolding lt
above_minus nan a c v = absurd v
above_minus (inf s) a c v = absurd v
above_minus (fin true m e) a c v = absurd (true≢false v.0)
above_minus (fin false m e) a c v =
    let p : 0 < down e = down_pos e in
    lt→ltb 0 (1 * down e + m * up e * 1) (omega arith)

pub below_top : (k : ℕ) (z : Float) (a c : ℕ) → 0 < c → HasValue z false a c → a < 2 ^ k * c → T (lt z (fin false 1 (pos k)))
unfolding lt
below_top k nan a c C v h = absurd v
below_top k (inf s) a c C v h = absurd v
below_top k (fin true m e) a c C v h = absurd (true≢false v.0)
below_top k (fin false m e) a c C v h =
    let x : a * down e < 2 ^ k * c * down e = mul-lt-mul_of_pos_right h (down_pos e) in
    let y : m * up e * c < 2 ^ k * down e * c = subst (λ (z : ℕ). z < 2 ^ k * down e * c) (sym v.1) (subst (λ (z : ℕ). a * down e < z) (mul_right_comm (2 ^ k) c (down e)) x) in
    lt→ltb (m * up e * 1) (1 * 2 ^ k * down e) (rw (mul-one, one-mul) (lt_of_mul-lt-mul_right c y))

pub of_below_top : (k m : ℕ) (e : ℤ) → T (lt (fin false m e) (fin false 1 (pos k))) → m * up e < 2 ^ k * down e
unfolding lt
of_below_top k m e t = rw (mul-one, one-mul) at (ltb→lt (m * up e * 1) (1 * 2 ^ k * down e) t)

-- ---- halves

pub half_law : (M D : ℕ) → 0 < D → ((M + M) / D + 1) / 2 ≡ half_up M D
half_law M D h =
    ap (λ (z : ℕ). z / 2) (sym (add-div_right (M + M) h))
    ∙ div-div-eq-div-mul (M + M + D) D 2
    ∙ ap (λ (z : ℕ). (M + M + D) / z) (mul_comm D 2)
    ∙ ap (λ (z : ℕ). (z + D) / (2 * D)) (double M)

near : (M D : ℕ) → M < 2 ^ 52 * D → M + M < 2 ^ 53 * D
near M D h = omega arith

-- x + x is exact for 0 < x < 2 ^ 52
pub twice : (x : Float) → T (positive x) → T (fits binary64 x) → T (lt x (fin false 1 (pos 52))) → HasValue (add binary64 x x) false (num x + num x) (den x)
unfolding sum
twice nan p t h = absurd p
twice (inf s) p t h = absurd p
twice (fin true m e) p t h = absurd p
twice (fin false m e) p t h =
    let k = fine binary64 false m e (ltb→lt 0 m p) t in
    let j = units_of (low binary64) e k.deep in
    let M = m * up e in
    let D = down e in
    let l = 2 ^ low binary64 in
    let one : M * l ≡ m * 2 ^ j.0 * D = mul_assoc m (up e) l ∙ ap (λ (z : ℕ). m * z) j.1 ∙ sym (mul_assoc m (2 ^ j.0) D) in
    let two : (M + M) * l ≡ m * 2 ^ suc j.0 * D =
    add-mul M M l ∙ ap (λ (z : ℕ). z + z) one ∙ sym (add-mul (m * 2 ^ j.0) (m * 2 ^ j.0) D)
    ∙ ap (λ (z : ℕ). z * D) (double (m * 2 ^ j.0) ∙ sym (mul_left_comm m 2 (2 ^ j.0)) ∙ ap (λ (z : ℕ). m * z) (sym (pow-succ' 2 j.0))) in
    let u : M < 2 ^ 52 * D = of_below_top 52 m e h in
    let v : M + M < 2 ^ 1024 * D = grow M D u in
    subst (λ (z : Float). HasValue z false (M + M) D) (sym (add_at binary64 (fin false m e) (fin false m e) false false M M D (down_pos e) (refl, refl) (refl, refl)))
    (exact_in binary64 false (M + M) D m (suc j.0) (down_pos e) k.small two v)
  where
    grow : (M D : ℕ) → M < 2 ^ 52 * D → M + M < 2 ^ 1024 * D
    grow M D h = lt_of_lt_of_le (near M D h) (mul-le-mul_right D (pow_mono {i = 53} {j = 1024} (lit≤ tt)))

pub num-below : (k : ℕ) (x : Float) → T (positive x) → T (lt x (fin false 1 (pos k))) → num x < 2 ^ k * den x
num-below k nan p h = absurd p
num-below k (inf s) p h = absurd p
num-below k (fin true m e) p h = absurd p
num-below k (fin false m e) p h = of_below_top k m e h

-- the whole part of x + x
module _ (x : Float) (p : T (positive x)) (t : T (fits binary64 x)) (h : T (lt x (fin false 1 (pos 52)))) where
  wide : (M D : ℕ) → M < 2 ^ 53 * D → M < 2 ^ 64 * D
  wide M D g = omega arith

  pub sum_below : num x + num x < 2 ^ 53 * den x
  sum_below = near (num x) (den x) (num-below 52 x p h)

  pub sum_wide : num x + num x < 2 ^ 64 * den x
  sum_wide = wide (num x + num x) (den x) sum_below

  pub whole_is : to_unsigned 64 (add binary64 x x) ≡ (num x + num x) / den x
  whole_is = cut_val 64 (add binary64 x x) (num x + num x) (den x) (den_pos x) (twice x p t h) sum_wide

  pub whole-small : to_unsigned 64 (add binary64 x x) < 2 ^ 53
  whole-small = subst (λ (z : ℕ). z < 2 ^ 53) (sym whole_is) ((div-lt_iff_lt-mul (den_pos x)).1 sum_below)
