-- Where float arithmetic is exact. A multiple of 1 / 2 ^ k below 2 ^ 53 of them is a float: whole numbers (k = 0), halves (k = 1), quarters (k = 2) and so on.
-- Such floats add, subtract, multiply and halve as the numbers do: the result is the float of the exact result, and equal to it while that too is
-- below 2 ^ 53 of its own parts (`dyadic_val`). Stated once, over k. Assumes nothing.
use Rattle.std.proofs.Common.{◌≡◌, ℕ, zero, suc, ◌+◌, ◌-◌, ◌*◌, ◌^◌, ◌<◌, ◌≤◌, Bool, true, false, cond, not, T, ltb, ℤ, pos, negsuc, ◌+ℤ◌, ◌-ℤ◌, ◌*ℤ◌, nat_abs, sym, refl, ap, ◌∙◌, subst, le_trans, lt_of_lt_of_le, add-zero, zero-lt-suc, mul_assoc, mul_comm, mul-le-mul_left, mul-one, not-le_of_lt, add-one, arith, lit≤, ltb→lt, lt→ltb, nltb→le, pow_pos, pow_mono, pow-add}
use native.Mathlib.Nat.{pow-succ', sub-zero}
use lib.IntN.{sub_ℕ, +ℤ_idr}
use lib.Signed.{non_neg}
use lib.Dec.{not_T}
use lib.Ieee.{Float, fin, binary64, round, sum, add, sub, neg, mul, div, unlike, of_int}
use lib.Ieee.Bits.{is_true, cond_no}
use lib.Ieee.Exact.{HasValue}
use lib.Ieee.Scale.{round_same}
use Rattle.arith.proofs.FloatValues.{exact_in, add_at, sub_at, mul_at, div-at, neg-round}

-- ---- with a sign and a size

-- the float a / 2 ^ k with the sign s
abbrev pub dyadic : Bool → ℕ → ℕ → Float
dyadic s a k = round binary64 s a (2 ^ k)

-- it is that number exactly
pub dyadic_val : (s : Bool) (a k : ℕ) → a < 2 ^ 53 → k ≤ 1074 → HasValue (dyadic s a k) s a (2 ^ k)
dyadic_val s a k h l =
    exact_in binary64 s a (2 ^ k) a (1074 - k) (pow_pos k) h
    (ap (λ (z : ℕ). a * z) (ap (λ (z : ℕ). 2 ^ z) (back 1074 k l) ∙ pow-add 2 (1074 - k) k) ∙ sym (mul_assoc a (2 ^ (1074 - k)) (2 ^ k)))
    (lt_of_lt_of_le h (le_trans (pow_mono {i = 53} {j = 1024} (lit≤ tt)) (subst (λ (z : ℕ). z ≤ 2 ^ 1024 * 2 ^ k) (mul-one (2 ^ 1024)) (mul-le-mul_left (2 ^ 1024) (pow_pos k)))))
  where
    back : (a b : ℕ) → b ≤ a → a ≡ a - b + b
    back a b h = omega arith

-- the same number over 2 ^ (k + j)
pub dyadic_lift : (s : Bool) (a j k : ℕ) → dyadic s a k ≡ dyadic s (a * 2 ^ j) (k + j)
dyadic_lift s a j k =
    round_same binary64 s a (2 ^ k) (a * 2 ^ j) (2 ^ (k + j)) (pow_pos k) (pow_pos (k + j))
    (ap (λ (z : ℕ). a * z) (pow-add 2 k j ∙ mul_comm (2 ^ k) (2 ^ j)) ∙ sym (mul_assoc a (2 ^ j) (2 ^ k)))

pub dyadic_neg : (s : Bool) (a k : ℕ) → neg (dyadic s a k) ≡ dyadic (not s) a k
dyadic_neg s a k = neg-round binary64 s a (2 ^ k)

pub dyadic_mul : (s t : Bool) (a j b k : ℕ) → a < 2 ^ 53 → b < 2 ^ 53 → j ≤ 1074 → k ≤ 1074 → mul binary64 (dyadic s a j) (dyadic t b k) ≡ dyadic (unlike s t) (a * b) (j + k)
dyadic_mul s t a j b k h g l m =
    mul_at binary64 (dyadic s a j) (dyadic t b k) s t a (2 ^ j) b (2 ^ k) (pow_pos j) (pow_pos k) (dyadic_val s a j h l) (dyadic_val t b k g m)
    ∙ ap (λ (z : ℕ). round binary64 (unlike s t) (a * b) z) (sym (pow-add 2 j k))

-- divided by 2
pub dyadic_half : (s : Bool) (a k : ℕ) → a < 2 ^ 53 → k ≤ 1074 → div binary64 (dyadic s a k) (fin false 1 (pos 1)) ≡ dyadic s a (k + 1)
dyadic_half s a k h l =
    div-at binary64 (dyadic s a k) (fin false 1 (pos 1)) s false a (2 ^ k) 2 1 (pow_pos k) (zero-lt-suc 0) (zero-lt-suc 1) (dyadic_val s a k h l) (refl, refl)
    ∙ ap (λ (z : Bool). round binary64 z (a * 1) (2 * 2 ^ k)) (plain s)
    ∙ ap (λ (z : ℕ). round binary64 s z (2 * 2 ^ k)) (mul-one a)
    ∙ ap (λ (z : ℕ). round binary64 s a z) (sym (pow-succ' 2 k) ∙ ap (λ (z : ℕ). 2 ^ z) (sym (add-one k)))
  where
    plain : (s : Bool) → unlike s false ≡ s
    plain true = refl
    plain false = refl

-- ---- as an integer over 2 ^ k. Zero is plus zero, as a sum or a difference of floats that comes to nothing is.

abbrev pub dz : ℤ → ℕ → Float
dz (pos a) k = dyadic false a k
dz (negsuc a) k = dyadic true (suc a) k

pub dz_val : (x : ℤ) (k : ℕ) → nat_abs x < 2 ^ 53 → k ≤ 1074 → HasValue (dz x k) (not (non_neg x)) (nat_abs x) (2 ^ k)
dz_val (pos a) k h l = dyadic_val false a k h l
dz_val (negsuc a) k h l = dyadic_val true (suc a) k h l

-- an integer as a float
pub dz_int : (x : ℤ) → of_int binary64 x ≡ dz x 0
unfolding of_int
dz_int (pos a) = refl
dz_int (negsuc a) = refl

-- the sign of a sum goes with the larger size
pick_pos_neg : (a b k : ℕ) → sum binary64 false a true (suc b) (2 ^ k) ≡ dz (sub_ℕ a (suc b)) k
unfolding sum
pick_pos_neg a b k = go (ltb a (suc b)) (ltb→lt a (suc b))
  where
    down-one : (a b : ℕ) → a < suc b → suc b - a ≡ suc (suc b - suc a)
    down-one a b h = omega arith

    go : (t : Bool) → (T t → a < suc b) → cond t (dyadic true (suc b - a) k) (dyadic false (a - suc b) k) ≡ dz (cond t (negsuc (suc b - suc a)) (pos (a - suc b))) k
    go true f = ap (λ (z : ℕ). dyadic true z k) (down-one a b (f tt))
    go false f = refl

pick_neg_pos : (a b k : ℕ) → sum binary64 true (suc a) false b (2 ^ k) ≡ dz (sub_ℕ b (suc a)) k
unfolding sum
pick_neg_pos a b k = go (ltb (suc a) b) (ltb b (suc a)) (ltb→lt (suc a) b) (ltb→lt b (suc a)) (nltb→le (suc a) b) (nltb→le b (suc a))
  where
    both : (a b : ℕ) → suc a < b → b < suc a → ⊥
    both a b h g = omega arith

    down-one : (a b : ℕ) → b < suc a → suc a - b ≡ suc (suc a - suc b)
    down-one a b h = omega arith

    none : (a b : ℕ) → b ≤ suc a → suc a ≤ b → suc a - b ≡ b - suc a
    none a b h g = omega arith

    go : (t u : Bool) → (T t → suc a < b) → (T u → b < suc a) → (T (not t) → b ≤ suc a) → (T (not u) → suc a ≤ b)
        → cond t (dyadic false (b - suc a) k) (dyadic u (suc a - b) k) ≡ dz (cond u (negsuc (suc a - suc b)) (pos (b - suc a))) k
    go true true f g h i = absurd (both a b (f tt) (g tt))
    go true false f g h i = refl
    go false true f g h i = ap (λ (z : ℕ). dyadic true z k) (down-one a b (g tt))
    go false false f g h i = ap (λ (z : ℕ). dyadic false z k) (none a b (h tt) (i tt))

pub dz_add : (x y : ℤ) (k : ℕ) → nat_abs x < 2 ^ 53 → nat_abs y < 2 ^ 53 → k ≤ 1074 → add binary64 (dz x k) (dz y k) ≡ dz (x +ℤ y) k
unfolding sum
dz_add (pos a) (pos b) k h g l = add_at binary64 (dyadic false a k) (dyadic false b k) false false a b (2 ^ k) (pow_pos k) (dyadic_val false a k h l) (dyadic_val false b k g l)
dz_add (pos a) (negsuc b) k h g l =
    add_at binary64 (dyadic false a k) (dyadic true (suc b) k) false true a (suc b) (2 ^ k) (pow_pos k) (dyadic_val false a k h l) (dyadic_val true (suc b) k g l) ∙ pick_pos_neg a b k
dz_add (negsuc a) (pos b) k h g l =
    add_at binary64 (dyadic true (suc a) k) (dyadic false b k) true false (suc a) b (2 ^ k) (pow_pos k) (dyadic_val true (suc a) k h l) (dyadic_val false b k g l) ∙ pick_neg_pos a b k
dz_add (negsuc a) (negsuc b) k h g l =
    add_at binary64 (dyadic true (suc a) k) (dyadic true (suc b) k) true true (suc a) (suc b) (2 ^ k) (pow_pos k) (dyadic_val true (suc a) k h l) (dyadic_val true (suc b) k g l)
    ∙ ap (λ (z : ℕ). dyadic true z k) (sucs a b)
  where
    sucs : (a b : ℕ) → suc a + suc b ≡ suc (suc (a + b))
    sucs a b = omega arith

-- less zero, which is to add minus zero
less_zero : (x : ℤ) (k : ℕ) → nat_abs x < 2 ^ 53 → k ≤ 1074 → add binary64 (dz x k) (dyadic true 0 k) ≡ dz x k
unfolding sum
less_zero (pos a) k h l =
    add_at binary64 (dyadic false a k) (dyadic true 0 k) false true a 0 (2 ^ k) (pow_pos k) (dyadic_val false a k h l) (dyadic_val true 0 k (pow_pos 53) l) ∙ go (ltb a 0) (ltb→lt a 0)
  where
    none : (a : ℕ) → a < 0 → ⊥
    none a h = omega arith

    go : (t : Bool) → (T t → a < 0) → cond t (dyadic true (0 - a) k) (dyadic false (a - 0) k) ≡ dyadic false a k
    go true f = absurd (none a (f tt))
    go false f = ap (λ (z : ℕ). dyadic false z k) (sub-zero a)
less_zero (negsuc a) k h l =
    add_at binary64 (dyadic true (suc a) k) (dyadic true 0 k) true true (suc a) 0 (2 ^ k) (pow_pos k) (dyadic_val true (suc a) k h l) (dyadic_val true 0 k (pow_pos 53) l)
    ∙ ap (λ (z : ℕ). dyadic true z k) (add-zero (suc a))

pub dz_sub : (x y : ℤ) (k : ℕ) → nat_abs x < 2 ^ 53 → nat_abs y < 2 ^ 53 → k ≤ 1074 → sub binary64 (dz x k) (dz y k) ≡ dz (x -ℤ y) k
unfolding sub
dz_sub x (pos zero) k h g l = ap (add binary64 (dz x k)) (dyadic_neg false 0 k) ∙ less_zero x k h l ∙ ap (λ (z : ℤ). dz z k) (sym (+ℤ_idr x))
dz_sub x (pos (suc b)) k h g l = ap (add binary64 (dz x k)) (dyadic_neg false (suc b) k) ∙ dz_add x (negsuc b) k h g l
dz_sub x (negsuc b) k h g l = ap (add binary64 (dz x k)) (dyadic_neg true (suc b) k) ∙ dz_add x (pos (suc b)) k h g l

-- A square. (A product of two integers would need more: zero times a negative float is minus zero. `dyadic_mul` says it with signs.)
pub dz_square : (x : ℤ) (k : ℕ) → nat_abs x < 2 ^ 53 → k ≤ 1074 → mul binary64 (dz x k) (dz x k) ≡ dz (x *ℤ x) (k + k)
dz_square (pos a) k h l = dyadic_mul false false a k a k h h l l
dz_square (negsuc a) k h l = dyadic_mul true true (suc a) k (suc a) k h h l l

-- ---- from zero up

-- the float a / 2 ^ k
abbrev pub dy : ℕ → ℕ → Float
dy a k = dyadic false a k

pub dy_val : (a k : ℕ) → a < 2 ^ 53 → k ≤ 1074 → HasValue (dy a k) false a (2 ^ k)
dy_val a k h l = dyadic_val false a k h l

pub dy_add : (a b k : ℕ) → a + b < 2 ^ 53 → k ≤ 1074 → add binary64 (dy a k) (dy b k) ≡ dy (a + b) k
dy_add a b k h l = dz_add (pos a) (pos b) k (omega arith) (omega arith) l

pub dy_sub : (a b k : ℕ) → b ≤ a → a < 2 ^ 53 → k ≤ 1074 → sub binary64 (dy a k) (dy b k) ≡ dy (a - b) k
unfolding sum
dy_sub a b k l h m =
    sub_at binary64 (dy a k) (dy b k) false false a b (2 ^ k) (pow_pos k) (dy_val a k h m) (dy_val b k (omega arith) m)
    ∙ cond_no (ltb a b) (dyadic true (b - a) k) (dy (a - b) k) (not_T (ltb a b) (λ t. not-le_of_lt (ltb→lt a b t) l))

pub dy_sub-neg : (a b k : ℕ) → a < b → b < 2 ^ 53 → k ≤ 1074 → sub binary64 (dy a k) (dy b k) ≡ neg (dy (b - a) k)
unfolding sum
dy_sub-neg a b k l h m =
    sub_at binary64 (dy a k) (dy b k) false false a b (2 ^ k) (pow_pos k) (dy_val a k (omega arith) m) (dy_val b k h m)
    ∙ ap (λ (t : Bool). cond t (dyadic true (b - a) k) (dy (a - b) k)) (is_true (ltb a b) (lt→ltb a b l))
    ∙ sym (dyadic_neg false (b - a) k)

pub dy_mul : (a j b k : ℕ) → a < 2 ^ 53 → b < 2 ^ 53 → j ≤ 1074 → k ≤ 1074 → mul binary64 (dy a j) (dy b k) ≡ dy (a * b) (j + k)
dy_mul a j b k h g l m = dyadic_mul false false a j b k h g l m
