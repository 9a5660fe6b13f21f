-- What the functions of src/rounding.rt answer from `is_finite` to `round`: the tests, the part, and each part's number. Assumes nothing.
use Rattle.std.proofs.Common.{◌≡◌, ℕ, zero, suc, ◌+◌, ◌-◌, ◌*◌, ◌/◌, ◌^◌, ◌<◌, ◌≤◌, Bool, true, false, not, ◌||◌, T, eqb, ltb, ℤ, pos, negsuc, sym, refl, inl, inr, ap, ◌∙◌, subst, lt_of_lt_of_le, lt_of_le_of_lt, mul-le-mul_right, mod-lt, zero-lt-suc, mul_assoc, mul_comm, div-lt_iff_lt-mul, mul-pos, one-mul, div-add-mod', mul-one, arith, eqb→eq, ltb→lt, nltb→le, lt→ltb, pow_pos}
use native.Mathlib.Nat.{mod-one, mod-le, eq_of_mul-eq-mul_right}
use mathlib.Core.Bool.{beq}
use lib.Dec.{not_T}
use lib.Ieee.{Float, nan, inf, fin, binary64, low, up, down, round, sum, add, sub, neg, fits, is_nan, lt, eq}
use lib.Ieee.Fits.{down_pos, and_l, and_i, eq→eqb}
use lib.Ieee.Bits.{cond_no}
use lib.Ieee.Exact.{HasValue}
use lib.Ieee.Scale.{finite}
use lib.Ieee.Back.{whole_unique, round_whole}
use lib.Ieee.Positive.{positive, num, den}
use Rattle.arith.specs.declared.rounding.Part.TheVariants.{Whole, Nearest, Tie}
use Rattle.arith.specs.Order.{abs_of}
use Rattle.arith.specs.Rounding.{half_up, round_away}
use Rattle.arith.specs.RoundingParts.{FallsTo, ToNearest, TiesToAway}
use Rattle.arith.specs.Code.RoundingTests.{IsFraction}
use Rattle.arith.proofs.FloatOrder.{no, contra, or_l, lt-or_ge}
use Rattle.arith.proofs.FromZero.{nought}
use Rattle.std.specs.Float.{NotNan, float_is_finite, float_with_sign, is_sign_negative, round_with, fract}
use lib.Ieee.Scale.{round_same}
use Rattle.arith.proofs.FloatValues.{value-times, add_at, sub_at, fine, units_of, exact_in, round-own, with-round, zero_exp}
use Rattle.arith.proofs.RoundingLaws.{zero-whole, rounded-fits}
use Rattle.arith.proofs.RoundingParts.{left_over, whole-left, near-left, half-left, big_left, whole-near, fraction_below, half-tie, four_parts}
use Rattle.arith.proofs.RoundSteps.{below_top}

-- 2 ^ 52 and one half
abbrev edge : Float
edge = fin false 1 (pos 52)

abbrev pub one_half : Float
one_half = fin false 1 (negsuc 0)

-- ---- tests

-- the test of `if !b`
pub flip : (b c : Bool) → not b ≡ c → b ≡ not c
flip true c e = ap not e
flip false c e = ap not e

-- the library's test and the one of the parts
pub finite-is : (x : Float) → float_is_finite x ≡ finite x
unfolding float_is_finite
finite-is nan = refl
finite-is (inf s) = refl
finite-is (fin s m e) = refl

-- ---- `fraction`

-- what is left over is exact
left-exact : (s : Bool) (m : ℕ) (e : ℤ) → 0 < m → T (fits binary64 (fin s m e)) → HasValue (round binary64 false (left_over m e) (down e)) false (left_over m e) (down e)
left-exact s m (pos k) p t = subst (λ (r : ℕ). HasValue (round binary64 false r 1) false r 1) (sym (mod-one (m * 2 ^ k))) (round_whole binary64 false 0 (omega arith))
left-exact s m (negsuc k) p t =
    let f = fine binary64 s m (negsuc k) p t in
    let j = units_of (low binary64) (negsuc k) f.deep in
    let r = left_over m (negsuc k) in
    let D = 2 ^ suc k in
    exact_in binary64 false r D r j.0 (pow_pos (suc k)) (lt_of_le_of_lt (mod-le (m * 1) D) (subst (λ (z : ℕ). z < 2 ^ 53) (sym (mul-one m)) f.small))
    (ap (λ (z : ℕ). r * z) (sym (one-mul (2 ^ low binary64)) ∙ j.1) ∙ sym (mul_assoc r (2 ^ j.0) D)) (grow r D (2 ^ 1024) (pow_pos 1024) (mod-lt (m * 1) (pow_pos (suc k))))
  where
    grow : (r D z : ℕ) → 0 < z → r < D → r < z * D
    grow r D z p h = lt_of_lt_of_le h (times D z p)
      where
        times : (D z : ℕ) → 0 < z → D ≤ z * D
        times D z p = subst (λ (y : ℕ). y ≤ z * D) (one-mul D) (mul-le-mul_right D p)

-- the whole part taken off the size
taken_off : (m : ℕ) (e : ℤ) (whole : Float) → HasValue whole false (down e * (m * up e / down e)) (down e) → sub binary64 (fin false m e) whole ≡ round binary64 false (left_over m e) (down e)
unfolding sum
taken_off m e whole v =
    let M = m * up e in
    let D = down e in
    let n = M / D in
    let d : D * n + left_over m e ≡ M = ap (λ (z : ℕ). z + left_over m e) (mul_comm D n) ∙ div-add-mod' M D in
    sub_at binary64 (fin false m e) whole false false M (D * n) D (down_pos e) (refl, refl) v
    ∙ cond_no (ltb M (D * n)) (round binary64 true (D * n - M) D) (round binary64 false (M - D * n) D) (not_T (ltb M (D * n)) (λ h. least (D * n) (left_over m e) M d (ltb→lt M (D * n) h)))
    ∙ ap (λ (z : ℕ). round binary64 false z D) (left (D * n) (left_over m e) M d)
  where
    least : (z r M : ℕ) → z + r ≡ M → M < z → ⊥
    least z r M d h = omega arith

    left : (z r M : ℕ) → z + r ≡ M → M - z ≡ r
    left z r M d = omega arith

-- the whole part is a float: below 2 ^ 52 it is small, and from there on it is the size itself
whole_value : (s : Bool) (m : ℕ) (e : ℤ) → 0 < m → T (fits binary64 (fin s m e)) → HasValue (round binary64 false (m * up e / down e) 1) false (down e * (m * up e / down e)) (down e)
unfolding fits
whole_value s m e p t = elim (lt-or_ge (m * up e) (2 ^ 52 * down e)) [
  | inl l ↦ below (m * up e / down e) (down e) (small (m * up e / down e) ((div-lt_iff_lt-mul (down_pos e)).1 l))
  | inr g ↦ own (m * up e) (down e) (m * up e / down e) (down_pos e) (none (m * up e / down e) (m * up e) (down e) (left_over m e) (div-add-mod' (m * up e) (down e)) (big_left s m e t g)) (round-own binary64 false m e p t)
]
  where
    small : (n : ℕ) → n < 2 ^ 52 → n ≤ 2 ^ 53
    small n l = omega arith

    below : (n D : ℕ) → n ≤ 2 ^ 53 → HasValue (round binary64 false n 1) false (D * n) D
    below n D l = subst (HasValue (round binary64 false n 1) false (D * n)) (mul-one D) (value-times D (round binary64 false n 1) false n 1 (round_whole binary64 false n l))

    none : (n a c r : ℕ) → n * c + r ≡ a → r ≡ 0 → c * n ≡ a
    none n a c r h z = omega arith

    own : (M D n : ℕ) → 0 < D → D * n ≡ M → HasValue (round binary64 false M D) false M D → HasValue (round binary64 false n 1) false (D * n) D
    own M D n P h v =
        subst (λ (a : ℕ). HasValue (round binary64 false n 1) false a D) (sym h)
        (subst (λ (x : Float). HasValue x false M D) (round_same binary64 false M D n 1 P (zero-lt-suc 0) (mul-one M ∙ sym h ∙ mul_comm D n)) v)

none-of-zero : HasValue (fract binary64 nought) false 0 1
unfolding round_with sub add neg sum round
none-of-zero = (refl, refl)

pub fraction-is : (x : Float) → T (fits binary64 x) → IsFraction x (fract binary64 (float_with_sign false x))
unfolding float_with_sign round_with
fraction-is nan t = tt
fraction-is (inf s) t = tt
fraction-is (fin s zero e) t = subst (λ (d : ℤ). HasValue (fract binary64 (fin false 0 d)) false (left_over 0 d) (down d)) (sym (zero_exp binary64 s e t)) none-of-zero
fraction-is (fin s (suc m) e) t =
    subst (λ (z : Float). HasValue z false (left_over (suc m) e) (down e)) (sym (taken_off (suc m) e (round binary64 false (suc m * up e / down e) 1) (whole_value s (suc m) e (zero-lt-suc m) t))) (left-exact s (suc m) e (zero-lt-suc m) t)

-- ---- `==` between floats from zero up that are a / c and b / d

-- K / D is a / c, and M / E is b / d: where the left ones are equal, so are the right ones, and with sides exchanged the other way round
cross : (K D M E a c b d : ℕ) → 0 < D * E → K * c ≡ a * D → M * d ≡ b * E → K * E ≡ M * D → a * d ≡ b * c
cross K D M E a c b d P p q h =
    eq_of_mul-eq-mul_right (D * E) P (a * d) (b * c)
    (same (ap (λ (z : ℕ). z * (d * E)) p) (ap (λ (z : ℕ). z * (c * D)) q) (ap (λ (z : ℕ). z * (c * d)) h))
  where
    same : K * c * (d * E) ≡ a * D * (d * E) → M * d * (c * D) ≡ b * E * (c * D) → K * E * (c * d) ≡ M * D * (c * d) → a * d * (D * E) ≡ b * c * (D * E)
    same u v w = omega arith

eq-values : (y z : Float) (a c b d : ℕ) → HasValue y false a c → HasValue z false b d → T (eq y z) → a * d ≡ b * c
unfolding eq
eq-values nan z a c b d p q h = absurd p
eq-values (inf s) z a c b d p q h = absurd p
eq-values (fin s k i) nan a c b d p q h = absurd q
eq-values (fin s k i) (inf t) a c b d p q h = absurd q
eq-values (fin s k i) (fin t m e) a c b d p q h =
    cross (k * up i) (down i) (m * up e) (down e) a c b d (mul-pos (down_pos i) (down_pos e)) p.1 q.1
    (eqb→eq (k * up i * down e) (m * up e * down i) (and_l (eqb (k * up i * down e) (m * up e * down i)) (beq s t || eqb (k * up i * down e) 0) h))

values_eq : (y z : Float) (a c b d : ℕ) → 0 < c → 0 < d → HasValue y false a c → HasValue z false b d → a * d ≡ b * c → T (eq y z)
unfolding eq
values_eq nan z a c b d C D p q h = absurd p
values_eq (inf s) z a c b d C D p q h = absurd p
values_eq (fin s k i) nan a c b d C D p q h = absurd q
values_eq (fin s k i) (inf t) a c b d C D p q h = absurd q
values_eq (fin s k i) (fin t m e) a c b d C D p q h =
    and_i (eqb (k * up i * down e) (m * up e * down i)) (beq s t || eqb (k * up i * down e) 0)
    (eq→eqb (cross a c b d (k * up i) (down i) (m * up e) (down e) (mul-pos C D) (sym p.1) (sym q.1) h))
    (or_l (beq s t) (eqb (k * up i * down e) 0) (rw (p.0, q.0) tt))

-- ---- which part

pub whole_part : (x f : Float) → T (finite x) → IsFraction x f → T (eq f nought) → FallsTo x Whole
whole_part nan f w v h = absurd w
whole_part (inf s) f w v h = absurd w
whole_part (fin s m e) f w v h = whole-left s m e (none (left_over m e) (down e) (eq-values f nought (left_over m e) (down e) 0 1 v (refl, refl) h))
  where
    none : (r c : ℕ) → r * 1 ≡ 0 * c → r ≡ 0
    none r c h = omega arith

pub nearest_part : (x f : Float) → T (finite x) → IsFraction x f → T (not (eq f nought)) → T (not (eq f one_half)) → FallsTo x Nearest
nearest_part nan f w v z h = absurd w
nearest_part (inf s) f w v z h = absurd w
nearest_part (fin s m e) f w v z h =
    near-left s m e (λ g. contra (eq f nought) (values_eq f nought (left_over m e) (down e) 0 1 (down_pos e) (zero-lt-suc 0) v (refl, refl) (none (left_over m e) (down e) g)) z)
    (λ g. contra (eq f one_half) (values_eq f one_half (left_over m e) (down e) 1 2 (down_pos e) (zero-lt-suc 1) v (refl, refl) (g ∙ sym (one-mul (down e)))) h)
  where
    none : (r c : ℕ) → r ≡ 0 → r * 1 ≡ 0 * c
    none r c h = omega arith

pub tie_part : (x f : Float) → T (finite x) → IsFraction x f → T (eq f one_half) → FallsTo x Tie
tie_part nan f w v h = absurd w
tie_part (inf s) f w v h = absurd w
tie_part (fin s m e) f w v h = half-left s m e (eq-values f one_half (left_over m e) (down e) 1 2 v (refl, refl) h ∙ one-mul (down e))

-- ---- the parts' functions

-- what is no whole number is not zero
not-zero : (s : Bool) (m : ℕ) (e : ℤ) → (FallsTo (fin s m e) Whole → ⊥) → 0 < m
not-zero s zero e f = absurd (f (whole-left s 0 e (zero-whole s e)))
not-zero s (suc m) e f = zero-lt-suc m

-- what lies beside the whole numbers: not zero, and below 2 ^ 52
pub record SmallSize (x : Float) : Type 0 where
  pub above : T (positive (abs_of x))
  pub below : T (lt (abs_of x) edge)

small_size : (s : Bool) (m : ℕ) (e : ℤ) → T (fits binary64 (fin s m e)) → (FallsTo (fin s m e) Whole → ⊥) → SmallSize (fin s m e)
unfolding abs_of
small_size s m e t w =
    record {
      above = lt→ltb 0 m (not-zero s m e w);
      below = below_top 52 (fin false m e) (m * up e) (down e) (down_pos e) (refl, refl) (fraction_below s m e t w);
    }

pub near-small : (x : Float) → T (fits binary64 x) → FallsTo x Nearest → SmallSize x
near-small nan t h = absurd h.2
near-small (inf s) t h = absurd h.2
near-small (fin s m e) t h = small_size s m e t (λ (w : FallsTo (fin s m e) Whole). whole-near (m * up e) (down e) w.1 h.1 (down_pos e) w.2.1 h.2.1)

pub near-number : (x : Float) → FallsTo x Nearest → NotNan x
unfolding is_nan
near-number nan h = absurd h.2
near-number (inf s) h = tt
near-number (fin s m e) h = tt

pub tie-number : (x : Float) → FallsTo x Tie → NotNan x
unfolding is_nan
tie-number nan h = absurd h.2
tie-number (inf s) h = tt
tie-number (fin s m e) h = tt

-- what is taken of the size, with the sign of x
abbrev signed : Float → Float → Float
signed x y = float_with_sign (is_sign_negative x) y

pub near-signed : (x : Float) → FallsTo x Nearest → signed x (round binary64 false (half_up (num (abs_of x)) (den (abs_of x))) 1) ≡ round_away x
unfolding round_away abs_of is_sign_negative
near-signed nan h = absurd h.2
near-signed (inf s) h = absurd h.2
near-signed (fin s m e) h = with-round binary64 s false (half_up (m * up e) (down e)) 1

pub tie-signed : (x : Float) → FallsTo x Tie → signed x (add binary64 (abs_of x) one_half) ≡ round_away x
unfolding round_away abs_of is_sign_negative sum
tie-signed nan h = absurd h.2
tie-signed (inf s) h = absurd h.2
tie-signed (fin s m e) h =
    let n = h.1 in
    ap (float_with_sign s) (add_at binary64 (fin false m e) one_half false false (2 * n + 1) 1 2 (zero-lt-suc 1) (refl, h.2.1) (refl, refl) ∙ round_same binary64 false (2 * n + 1 + 1) 2 (n + 1) 1 (zero-lt-suc 1) (zero-lt-suc 0) (twofold n))
    ∙ with-round binary64 s false (n + 1) 1
    ∙ ap (λ (z : ℕ). round binary64 s z 1) (sym (half-tie (m * up e) (down e) n (down_pos e) h.2.1))
  where
    twofold : (n : ℕ) → (2 * n + 1 + 1) * 1 ≡ (n + 1) * 2
    twofold n = omega arith

-- ---- `round`

pub nearest-is : (x r : Float) → T (fits binary64 x) → T (fits binary64 r) → FallsTo x Nearest → ToNearest x r → r ≡ round_away x
nearest-is x r t u h f = whole_unique binary64 r (round_away x) h.0 h.1 u (rounded-fits x) (f h.0 h.1 h.2) (four_parts.nearest x t h.0 h.1 h.2)

pub tie-is : (x r : Float) → T (fits binary64 x) → T (fits binary64 r) → FallsTo x Tie → TiesToAway x r → r ≡ round_away x
tie-is x r t u h f = whole_unique binary64 r (round_away x) h.0 (h.1 + 1) u (rounded-fits x) (f h.0 h.1 h.2) (four_parts.tie x t h.0 h.1 h.2)

-- from 2 ^ 52 up, by the comparison of sizes
pub far-le : (m : ℕ) (e : ℤ) → ltb (m * up e * 1) (1 * 2 ^ 52 * down e) ≡ false → 2 ^ 52 * down e ≤ m * up e
far-le m e h = rw (mul-one, one-mul) at (nltb→le (m * up e * 1) (1 * 2 ^ 52 * down e) (no (ltb (m * up e * 1) (1 * 2 ^ 52 * down e)) h))
