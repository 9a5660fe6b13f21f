-- Operations on floats by the fractions that they equal, with signs, and what a format holds exactly.
-- `HasValue x s a c` says that x is finite, has the sign s, and is a / c in size. Assumes nothing.
use Rattle.std.proofs.Common.{◌≡◌, ℕ, zero, suc, ◌+◌, ◌-◌, ◌*◌, ◌%◌, ◌^◌, ◌<◌, ◌≤◌, Bool, true, false, cond, not, ◌&&◌, T, eqb, ltb, leb, ℤ, pos, negsuc, sym, refl, ap, ◌∙◌, subst, le_of_suc-le-suc, lt_irrefl, zero-lt-suc, mul_assoc, mul_comm, add-mul, lt_of_mul-lt-mul_right, mul-lt-mul_of_pos_right, mul-pos, one-mul, lt_of_not-le, zero-mul, mul-one, mul_right_comm, not-le_of_lt, mul_left_comm, arith, eqb→eq, ltb→lt, lt→ltb, leb→le, pow_pos, pow-add}
use native.Mathlib.Nat.{mul-mul-mul_comm, mul-sub, pow-succ'}
use Rattle.std.specs.Float.{float_with_sign}
use lib.Dec.{eqb-suc-zero}
use lib.Pow.{pow-lt}
use lib.Ieee.{Float, nan, inf, fin, Format, prec, emax, low, up, down, odd, units, round, sum, add, sub, mul, div, neg, unlike, fits}
use lib.Ieee.Fits.{up_pos, down_pos, and_l, and_r, round_is}
use Rattle.arith.proofs.Tests.{same}
use lib.Ieee.Exact.{HasValue, round_exact}
use lib.Ieee.Scale.{round_same}

pub double : (a : ℕ) → a + a ≡ 2 * a
double a = omega arith

-- ---- a sum, by any two fractions with one denominator that its terms equal

-- A / D = a / c and B / D = b / c
module _ (A B D a b c : ℕ) (D+ : 0 < D) (c+ : 0 < c) (p : A * c ≡ a * D) (q : B * c ≡ b * D) where
  same-lt : ltb A B ≡ ltb a b
  same-lt =
      same (ltb A B) (ltb a b)
      (λ t. lt→ltb a b (lt_of_mul-lt-mul_right D (subst (λ (z : ℕ). z < b * D) p (subst (λ (z : ℕ). A * c < z) q (mul-lt-mul_of_pos_right (ltb→lt A B t) c+)))))
      (λ t. lt→ltb A B (lt_of_mul-lt-mul_right c (subst (λ (z : ℕ). z < B * c) (sym p) (subst (λ (z : ℕ). a * D < z) (sym q) (mul-lt-mul_of_pos_right (ltb→lt a b t) D+)))))

  same-plus : (A + B) * c ≡ (a + b) * D
  same-plus = add-mul A B c ∙ ap (λ (z : ℕ). z + B * c) p ∙ ap (λ (z : ℕ). a * D + z) q ∙ sym (add-mul a b D)

  same-minus : (A - B) * c ≡ (a - b) * D
  same-minus =
      mul_comm (A - B) c ∙ mul-sub c A B ∙ ap (λ (z : ℕ). z - c * B) (mul_comm c A ∙ p ∙ mul_comm a D) ∙ ap (λ (z : ℕ). D * a - z) (mul_comm c B ∙ q ∙ mul_comm b D) ∙ sym (mul-sub D a b)
      ∙ mul_comm D (a - b)

module _ (f : Format) (A B D a b c : ℕ) (D+ : 0 < D) (c+ : 0 < c) (p : A * c ≡ a * D) (q : B * c ≡ b * D) where
  like : (s : Bool) → round f s (A + B) D ≡ round f s (a + b) c
  like s = round_same f s (A + B) D (a + b) c D+ c+ (same-plus A B D a b c D+ c+ p q)

  differ : (s t : Bool) → cond (ltb A B) (round f t (B - A) D) (round f (s && ltb B A) (A - B) D) ≡ cond (ltb a b) (round f t (b - a) c) (round f (s && ltb b a) (a - b) c)
  differ s t =
      rw (same-lt A B D a b c D+ c+ p q, same-lt B A D b a c D+ c+ q p)
      (ap (λ (z : Float). cond (ltb a b) z (round f (s && ltb b a) (A - B) D)) (round_same f t (B - A) D (b - a) c D+ c+ (same-minus B A D b a c D+ c+ q p))
      ∙ ap (λ (z : Float). cond (ltb a b) (round f t (b - a) c) z) (round_same f (s && ltb b a) (A - B) D (a - b) c D+ c+ (same-minus A B D a b c D+ c+ p q)))

  same_sum : (s t : Bool) → sum f s A t B D ≡ sum f s a t b c
  unfolding sum
  same_sum true true = like true
  same_sum false false = like false
  same_sum true false = differ true false
  same_sum false true = differ false true

pub add_at : (f : Format) (x y : Float) (s t : Bool) (a b c : ℕ) → 0 < c → HasValue x s a c → HasValue y t b c → add f x y ≡ sum f s a t b c
unfolding add
add_at f nan y s t a b c C p q = absurd p
add_at f (inf u) y s t a b c C p q = absurd p
add_at f (fin u m e) nan s t a b c C p q = absurd q
add_at f (fin u m e) (inf v) s t a b c C p q = absurd q
add_at f (fin u m e) (fin v n d) s t a b c C p q =
    rw (p.0, q.0)
    (same_sum f (m * up e * down d) (n * up d * down e) (down e * down d) a b c (mul-pos (down_pos e) (down_pos d)) C
    (mul_right_comm (m * up e) (down d) c ∙ ap (λ (z : ℕ). z * down d) p.1 ∙ mul_assoc a (down e) (down d))
    (mul_right_comm (n * up d) (down e) c ∙ ap (λ (z : ℕ). z * down e) q.1 ∙ mul_right_comm b (down d) (down e) ∙ mul_assoc b (down e) (down d)) s t)

-- the same number over k times the denominator
pub value-times : (k : ℕ) (x : Float) (s : Bool) (a c : ℕ) → HasValue x s a c → HasValue x s (k * a) (k * c)
value-times k nan s a c p = p
value-times k (inf u) s a c p = p
value-times k (fin u m e) s a c p = (p.0, mul_left_comm (m * up e) k c ∙ ap (λ (z : ℕ). k * z) p.1 ∙ sym (mul_assoc k a (down e)))

neg_value : (x : Float) (s : Bool) (a c : ℕ) → HasValue x s a c → HasValue (neg x) (not s) a c
unfolding neg
neg_value nan s a c p = p
neg_value (inf u) s a c p = p
neg_value (fin u m e) s a c p = (ap not p.0, p.1)

pub sub_at : (f : Format) (x y : Float) (s t : Bool) (a b c : ℕ) → 0 < c → HasValue x s a c → HasValue y t b c → sub f x y ≡ sum f s a (not t) b c
unfolding sub
sub_at f x y s t a b c C p q = add_at f x (neg y) s (not t) a b c C p (neg_value y t b c q)

-- ---- a product and a quotient, by any fractions that the two values equal

pub mul_at : (f : Format) (x y : Float) (s t : Bool) (a c b d : ℕ) → 0 < c → 0 < d → HasValue x s a c → HasValue y t b d → mul f x y ≡ round f (unlike s t) (a * b) (c * d)
unfolding mul
mul_at f nan y s t a c b d C D p q = absurd p
mul_at f (inf u) y s t a c b d C D p q = absurd p
mul_at f (fin u m e) nan s t a c b d C D p q = absurd q
mul_at f (fin u m e) (inf v) s t a c b d C D p q = absurd q
mul_at f (fin u m e) (fin v n g) s t a c b d C D p q =
    rw (p.0, q.0)
    (round_same f (unlike s t) (m * up e * (n * up g)) (down e * down g) (a * b) (c * d) (mul-pos (down_pos e) (down_pos g)) (mul-pos C D)
    (mul-mul-mul_comm (m * up e) (n * up g) c d ∙ ap (λ (z : ℕ). z * (n * up g * d)) p.1 ∙ ap (λ (z : ℕ). a * down e * z) q.1 ∙ mul-mul-mul_comm a (down e) b (down g)))

pub div-at : (f : Format) (x y : Float) (s t : Bool) (a c b d : ℕ) → 0 < c → 0 < d → 0 < b → HasValue x s a c → HasValue y t b d → div f x y ≡ round f (unlike s t) (a * d) (b * c)
unfolding div
div-at f nan y s t a c b d C D B p q = absurd p
div-at f (inf u) y s t a c b d C D B p q = absurd p
div-at f (fin u m e) nan s t a c b d C D B p q = absurd q
div-at f (fin u m e) (inf v) s t a c b d C D B p q = absurd q
div-at f (fin u m e) (fin v zero g) s t a c b d C D B p q = absurd (lt_irrefl 0 (subst (λ (z : ℕ). 0 < z) (sym q.1 ∙ none (up g) d) (mul-pos B (down_pos g))))
  where
    none : (u d : ℕ) → 0 * u * d ≡ 0
    none u d = ap (λ (z : ℕ). z * d) (zero-mul u) ∙ zero-mul d
div-at f (fin u m e) (fin v (suc n) g) s t a c b d C D B p q =
    rw (p.0, q.0, eqb-suc-zero n)
    (round_same f (unlike s t) (m * up e * down g) (suc n * up g * down e) (a * d) (b * c) (mul-pos (mul-pos (zero-lt-suc n) (up_pos g)) (down_pos e)) (mul-pos B C)
    (cross (m * up e) (down g) b c a (down e) (suc n * up g) d p.1 q.1))
  where
    cross : (M G b c a E N d : ℕ) → M * c ≡ a * E → N * d ≡ b * G → M * G * (b * c) ≡ a * d * (N * E)
    cross M G b c a E N d h k =
        ap (λ (z : ℕ). M * G * z) (mul_comm b c) ∙ mul-mul-mul_comm M G c b ∙ ap (λ (z : ℕ). z * (G * b)) h ∙ ap (λ (z : ℕ). a * E * z) (mul_comm G b ∙ sym k ∙ mul_comm N d)
        ∙ mul-mul-mul_comm a E d N ∙ ap (λ (z : ℕ). a * d * z) (mul_comm E N)

-- ---- what fits is a whole number of the format's smallest values

pub units_of : (l : ℕ) (e : ℤ) → down e ≤ 2 ^ l → (j : ℕ) × (up e * 2 ^ l ≡ 2 ^ j * down e)
units_of l (pos k) h = (k + l, sym (pow-add 2 k l) ∙ sym (mul-one (2 ^ (k + l))))
units_of l (negsuc k) h =
    let g : suc k ≤ l = low_exp (suc k) l h in
    (l - suc k, one-mul (2 ^ l) ∙ ap (λ (z : ℕ). 2 ^ z) (again l (suc k) g) ∙ pow-add 2 (l - suc k) (suc k))
  where
    again : (a b : ℕ) → b ≤ a → a ≡ a - b + b
    again a b g = omega arith

    low_exp : (a b : ℕ) → 2 ^ a ≤ 2 ^ b → a ≤ b
    low_exp a b g = le_of_suc-le-suc (lt_of_not-le (λ (n : suc b ≤ a). not-le_of_lt (pow-lt n) g))

-- what `fits` says of a value that is not zero
pub record Fine (f : Format) (m : ℕ) (e : ℤ) : Type 0 where
  pub odd : m % 2 ≡ 1
  pub small : m < 2 ^ prec f
  pub deep : down e ≤ 2 ^ low f
  pub under : m * up e < 2 ^ suc (emax f) * down e

pub fine : (f : Format) (s : Bool) (m : ℕ) (e : ℤ) → 0 < m → T (fits f (fin s m e)) → Fine f m e
unfolding fits
fine f s zero e p t = absurd (lt_irrefl 0 p)
fine f s (suc m) e p t =
    let o = eqb (suc m % 2) 1 in
    let b = ltb (suc m) (2 ^ prec f) in
    let d = leb (down e) (2 ^ low f) in
    let u = ltb (suc m * up e) (2 ^ suc (emax f) * down e) in
    let t1 = and_l (o && b && d) u t in
    let t2 = and_l (o && b) d t1 in
    record {
      odd = eqb→eq (suc m % 2) 1 (and_l o b t2);
      small = ltb→lt (suc m) (2 ^ prec f) (and_r o b t2);
      deep = leb→le (down e) (2 ^ low f) (and_r (o && b) d t1);
      under = ltb→lt (suc m * up e) (2 ^ suc (emax f) * down e) (and_r (o && b && d) u t);
    }

-- ---- a fraction that is q * 2 ^ j smallest values and below 2 ^ (emax + 1) is not changed by `round`
pub exact_in : (f : Format) (s : Bool) (a c q j : ℕ) → 0 < c → q < 2 ^ prec f → a * 2 ^ low f ≡ q * 2 ^ j * c → a < 2 ^ suc (emax f) * c → HasValue (round f s a c) s a c
exact_in f s a c q j C small h under =
    let l = 2 ^ low f in
    let t = 2 ^ suc (emax f) in
    let u : a * l < t * c * l = mul-lt-mul_of_pos_right under (pow_pos (low f)) in
    let v : t * c * l ≡ 2 ^ (low f + suc (emax f)) * c = mul_right_comm t c l ∙ ap (λ (z : ℕ). z * c) (mul_comm t l ∙ sym (pow-add 2 (low f) (suc (emax f)))) in
    round_exact f s a c q j C small (lt_of_mul-lt-mul_right c (subst (λ (z : ℕ). z < 2 ^ (low f + suc (emax f)) * c) h (subst (λ (z : ℕ). a * l < z) v u))) h

-- a value that fits, rounded, has its value
pub round-own : (f : Format) (s : Bool) (m : ℕ) (e : ℤ) → 0 < m → T (fits f (fin s m e)) → HasValue (round f s (m * up e) (down e)) s (m * up e) (down e)
round-own f s m e p t =
    let k = fine f s m e p t in
    let j = units_of (low f) e k.deep in
    exact_in f s (m * up e) (down e) m j.0 (down_pos e) k.small
    (mul_assoc m (up e) (2 ^ low f) ∙ ap (λ (z : ℕ). m * z) j.1 ∙ sym (mul_assoc m (2 ^ j.0) (down e))) k.under

-- ---- the sign goes through `round`

neg-odd : (d : ℕ) (s : Bool) (q k l : ℕ) → neg (odd d s q k l) ≡ odd d (not s) q k l
unfolding neg odd
neg-odd d s zero k l = refl
neg-odd d s (suc q) k l = refl

neg_units : (f : Format) (s : Bool) (q k : ℕ) → neg (units f s q k) ≡ units f (not s) q k
unfolding neg units
neg_units f s q k = go (ltb (q * 2 ^ k) (2 ^ (low f + suc (emax f))))
  where
    go : (b : Bool) → neg (cond b (odd (suc (prec f)) s q k (low f)) (inf s)) ≡ cond b (odd (suc (prec f)) (not s) q k (low f)) (inf (not s))
    go true = neg-odd (suc (prec f)) s q k (low f)
    go false = refl

pub neg-round : (f : Format) (s : Bool) (a c : ℕ) → neg (round f s a c) ≡ round f (not s) a c
neg-round f s a c = ap neg (round_is f s a c) ∙ neg_units f s _ _ ∙ sym (round_is f (not s) a c)

-- .. and a sign that is put on afterwards replaces it
with-odd : (t : Bool) (d : ℕ) (s : Bool) (q k l : ℕ) → float_with_sign t (odd d s q k l) ≡ odd d t q k l
unfolding float_with_sign odd
with-odd t d s zero k l = refl
with-odd t d s (suc q) k l = refl

with_units : (f : Format) (t s : Bool) (q k : ℕ) → float_with_sign t (units f s q k) ≡ units f t q k
unfolding float_with_sign units
with_units f t s q k = go (ltb (q * 2 ^ k) (2 ^ (low f + suc (emax f))))
  where
    go : (b : Bool) → float_with_sign t (cond b (odd (suc (prec f)) s q k (low f)) (inf s)) ≡ cond b (odd (suc (prec f)) t q k (low f)) (inf t)
    go true = with-odd t (suc (prec f)) s q k (low f)
    go false = refl

pub with-round : (f : Format) (t s : Bool) (a c : ℕ) → float_with_sign t (round f s a c) ≡ round f t a c
with-round f t s a c = ap (float_with_sign t) (round_is f s a c) ∙ with_units f t s _ _ ∙ sym (round_is f t a c)

-- the exponent of a zero that fits is 0
two_up : (p : ℕ) → 0 < p → 2 * p ≡ 1 → ⊥
two_up p h e = omega arith

pub zero_exp : (f : Format) (s : Bool) (e : ℤ) → T (fits f (fin s zero e)) → e ≡ pos 0
unfolding fits
zero_exp f s e t = flat e (eqb→eq (up e * down e) 1 t)
  where
    flat : (e : ℤ) → up e * down e ≡ 1 → e ≡ pos 0
    flat (pos zero) h = refl
    flat (pos (suc k)) h = absurd (two_up (2 ^ k) (pow_pos k) (sym (pow-succ' 2 k) ∙ sym (mul-one (2 ^ suc k)) ∙ h))
    flat (negsuc k) h = absurd (two_up (2 ^ k) (pow_pos k) (sym (pow-succ' 2 k) ∙ sym (one-mul (2 ^ suc k)) ∙ h))
