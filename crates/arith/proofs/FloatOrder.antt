-- The order of all floats: `lt` is a strict order, total off NaN, and `le` is its weak form. Nothing here asks that a value fits a format.
-- A comparison is a Bool, and T says that it holds. Assumes nothing.
use Rattle.std.proofs.Common.{◌≡◌, ℕ, ◌+◌, ◌*◌, ◌<◌, ◌≤◌, Bool, true, false, not, ◌||◌, T, eqb, ltb, ◌⊎◌, sym, refl, ap, ◌∙◌, subst, inl, inr, lt_irrefl, eq-zero-or-pos, mul-pos, zero-mul, not-le_of_lt, arith, eqb→eq, ltb→lt, lt→ltb, nltb→le}
use lib.Dec.{not_T}
use lib.Ieee.{Float, nan, inf, fin, up, down, lt, eq, le, below, level, is_nan}
use lib.Ieee.Fits.{down_pos, eq→eqb, and_i, and_l, and_r}
use lib.Ieee.Positive.{first_pos, through}

-- ---- tests

-- a test's answer, as a branch of the code gives it
pub yes : (b : Bool) → b ≡ true → T b
yes b e = subst T (sym e) tt

pub no : (b : Bool) → b ≡ false → T (not b)
no b e = subst (λ (z : Bool). T (not z)) (sym e) tt

-- a test passes or fails
pub decide : (b : Bool) → T b ⊎ T (not b)
decide true = inl tt
decide false = inr tt

pub contra : {X : Type 0} (b : Bool) → T b → T (not b) → X
contra true h k = absurd k
contra false h k = absurd h

pub or_l : (a b : Bool) → T a → T (a || b)
or_l true b h = tt
or_l false b h = elim h [ ]

pub or_r : (a b : Bool) → T b → T (a || b)
or_r true b h = tt
or_r false b h = h

pub or-e : (a b : Bool) → T (a || b) → T a ⊎ T b
or-e true b h = inl tt
or-e false b h = inr h

-- ---- fractions

pub lt-or_ge : (a b : ℕ) → (a < b) ⊎ (b ≤ a)
lt-or_ge a b = elim (decide (ltb a b)) [ inl h ↦ inl (ltb→lt a b h) | inr h ↦ inr (nltb→le a b h) ]

-- x / p < z / r and y / q ≤ x / p give y / q < z / r
co : (x p y q z r : ℕ) → 0 < q → x * r < z * p → y * p ≤ x * q → y * r < z * q
co x p y q z r Q h k = elim (lt-or_ge (y * r) (z * q)) [ inl l ↦ l | inr l ↦ absurd (not-le_of_lt h (through z y x r q p Q l k)) ]

scale : (z p q : ℕ) → 0 < z * p → 0 < q → 0 < z * q
scale z p q h Q = mul-pos (first_pos z p h) Q

none_of : (x r : ℕ) → x ≡ 0 → x * r ≡ 0
none_of x r e = ap (◌* r) e ∙ zero-mul r

-- x / p < z / r splits at y / q, with signs
co_signs : (s u t : Bool) (x p y q z r : ℕ) → 0 < p → 0 < q → 0 < r → T (below s (x * r) u (z * p)) → T (below s (x * q) t (y * p)) ⊎ T (below t (y * r) u (z * q))
co_signs false false false x p y q z r P Q R h =
    elim (lt-or_ge (x * q) (y * p)) [ inl l ↦ inl (lt→ltb _ _ l) | inr l ↦ inr (lt→ltb _ _ (co x p y q z r Q (ltb→lt _ _ h) l)) ]
co_signs false false true x p y q z r P Q R h =
    let h' = ltb→lt (x * r) (z * p) h in
    let Z = scale z p q (omega arith) Q in
    inr (lt→ltb 0 (y * r + z * q) (omega arith))
co_signs false true t x p y q z r P Q R h = absurd h
co_signs true false false x p y q z r P Q R h =
    elim (eq-zero-or-pos x) [
      | inr X ↦ let k = mul-pos X Q in inl (lt→ltb 0 (x * q + y * p) (omega arith))
      | inl x0 ↦ elim (eq-zero-or-pos y) [
        | inr Y ↦ let k = mul-pos Y P in inl (lt→ltb 0 (x * q + y * p) (omega arith))
        | inl y0 ↦
            let h' = ltb→lt 0 (x * r + z * p) h in
            let Z = scale z p q (omega (arith, none_of x r x0)) Q in
            inr (lt→ltb (y * r) (z * q) (omega (arith, none_of y r y0)))
      ]
    ]
co_signs true false true x p y q z r P Q R h =
    let h' = ltb→lt 0 (x * r + z * p) h in
    elim (lt-or_ge (y * p) (x * q)) [
      | inl l ↦ inl (lt→ltb _ _ l)
      | inr l ↦ elim (eq-zero-or-pos x) [
        | inr X ↦
            let k = mul-pos X Q in
            let Y = scale y p r (omega arith) R in
            inr (lt→ltb 0 (y * r + z * q) (omega arith))
        | inl x0 ↦
            let Z = scale z p q (omega (arith, none_of x r x0)) Q in
            inr (lt→ltb 0 (y * r + z * q) (omega arith))
      ]
    ]
co_signs true true false x p y q z r P Q R h =
    let h' = ltb→lt (z * p) (x * r) h in
    let X = scale x r q (omega arith) Q in
    inl (lt→ltb 0 (x * q + y * p) (omega arith))
co_signs true true true x p y q z r P Q R h =
    elim (lt-or_ge (z * q) (y * r)) [ inl l ↦ inr (lt→ltb _ _ l) | inr l ↦ inl (lt→ltb _ _ (co z r y q x p Q (ltb→lt _ _ h) l)) ]

-- ---- the order of floats

-- x is no NaN
abbrev pub Number : Float → Type 0
Number nan = ⊥
Number (inf s) = Unit {0}
Number (fin s m e) = Unit {0}

pub nan-or : (x : Float) → (x ≡ nan) ⊎ Number x
nan-or nan = inl refl
nan-or (inf s) = inr tt
nan-or (fin s m e) = inr tt

pub number_of : (x : Float) → T (not (is_nan x)) → Number x
unfolding is_nan
number_of nan h = h
number_of (inf s) h = tt
number_of (fin s m e) h = tt

pub not-nan : (x : Float) → Number x → is_nan x ≡ false
unfolding is_nan
not-nan nan n = absurd n
not-nan (inf s) n = refl
not-nan (fin s m e) n = refl

-- a comparison that holds has a number on both sides
pub lt-left : (x y : Float) → T (lt x y) → Number x
unfolding lt
lt-left nan y h = h
lt-left (inf s) y h = tt
lt-left (fin s m e) y h = tt

pub lt-right : (x y : Float) → T (lt x y) → Number y
unfolding lt
lt-right nan nan h = h
lt-right (inf s) nan h = h
lt-right (fin s m e) nan h = h
lt-right x (inf t) h = tt
lt-right x (fin t n d) h = tt

-- x < z splits at every number y
pub lt_split : (x y z : Float) → Number y → T (lt x z) → T (lt x y) ⊎ T (lt y z)
unfolding lt
lt_split nan y z n h = absurd h
lt_split (inf s) nan z n h = absurd n
lt_split (inf true) (inf true) (inf u) n h = inr h
lt_split (inf true) (inf true) (fin u k c) n h = inr tt
lt_split (inf true) (inf false) z n h = inl tt
lt_split (inf true) (fin t j d) z n h = inl tt
lt_split (inf true) (inf true) nan n h = absurd h
lt_split (inf false) (inf t) nan n h = absurd h
lt_split (inf false) (inf t) (inf u) n h = absurd h
lt_split (inf false) (inf t) (fin u k c) n h = absurd h
lt_split (inf false) (fin t j d) nan n h = absurd h
lt_split (inf false) (fin t j d) (inf u) n h = absurd h
lt_split (inf false) (fin t j d) (fin u k c) n h = absurd h
lt_split (fin s m e) nan z n h = absurd n
lt_split (fin s m e) (inf t) nan n h = absurd h
lt_split (fin s m e) (inf true) (inf u) n h = inr h
lt_split (fin s m e) (inf true) (fin u k c) n h = inr tt
lt_split (fin s m e) (inf false) (inf u) n h = inl tt
lt_split (fin s m e) (inf false) (fin u k c) n h = inl tt
lt_split (fin s m e) (fin t j d) nan n h = absurd h
lt_split (fin s m e) (fin t j d) (inf u) n h = inr h
lt_split (fin s m e) (fin t j d) (fin u k c) n h =
    co_signs s u t (m * up e) (down e) (j * up d) (down d) (k * up c) (down c) (down_pos e) (down_pos d) (down_pos c) h

below-not : (s t : Bool) (a b : ℕ) → T (below s a t b) → T (below t b s a) → ⊥
below-not false false a b h k = lt_irrefl a (omega (arith, ltb→lt a b h, ltb→lt b a k))
below-not false true a b h k = h
below-not true false a b h k = k
below-not true true a b h k = lt_irrefl a (omega (arith, ltb→lt b a h, ltb→lt a b k))

pub lt_asym : (x y : Float) → T (lt x y) → T (lt y x) → ⊥
unfolding lt
lt_asym nan y h k = h
lt_asym (inf s) nan h k = h
lt_asym (inf true) (inf true) h k = h
lt_asym (inf true) (inf false) h k = k
lt_asym (inf false) (inf t) h k = h
lt_asym (inf true) (fin t n d) h k = k
lt_asym (inf false) (fin t n d) h k = h
lt_asym (fin s m e) nan h k = h
lt_asym (fin s m e) (inf true) h k = h
lt_asym (fin s m e) (inf false) h k = k
lt_asym (fin s m e) (fin t n d) h k = below-not s t (m * up e * down d) (n * up d * down e) h k

pub lt_irrefl_float : (x : Float) → T (lt x x) → ⊥
lt_irrefl_float x h = lt_asym x x h h

pub lt_trans : (x y z : Float) → T (lt x y) → T (lt y z) → T (lt x z)
lt_trans x y z h k = elim (lt_split x z y (lt-right y z k) h) [ inl l ↦ l | inr l ↦ absurd (lt_asym y z k l) ]

-- x ≤ y < z, where x ≤ y is said by its test's failing
pub not-lt-lt : (x y z : Float) → Number x → T (not (lt y x)) → T (lt y z) → T (lt x z)
not-lt-lt x y z n h k = elim (lt_split y x z n k) [ inl l ↦ contra (lt y x) l h | inr l ↦ l ]

-- of two numbers the one is below, or they are equal, or it is above
level_of : (s t : Bool) (a b : ℕ) → T (not (below s a t b)) → T (not (below t b s a)) → T (level s a t b)
level_of false false a b h k = and_i (eqb a b) true (eq→eqb {a = a} {b = b} (omega (arith, nltb→le a b h, nltb→le b a k))) tt
level_of false true a b h k =
    let n = nltb→le 0 (b + a) k in
    and_i (eqb a b) (eqb a 0) (eq→eqb {a = a} {b = b} (omega arith)) (eq→eqb {a = a} {b = 0} (omega arith))
level_of true false a b h k =
    let n = nltb→le 0 (a + b) h in
    and_i (eqb a b) (eqb a 0) (eq→eqb {a = a} {b = b} (omega arith)) (eq→eqb {a = a} {b = 0} (omega arith))
level_of true true a b h k = and_i (eqb a b) true (eq→eqb {a = a} {b = b} (omega (arith, nltb→le a b k, nltb→le b a h))) tt

pub eq_of : (x y : Float) → Number x → Number y → T (not (lt x y)) → T (not (lt y x)) → T (eq x y)
unfolding lt eq
eq_of nan y n o h k = absurd n
eq_of (inf s) nan n o h k = absurd o
eq_of (inf true) (inf true) n o h k = tt
eq_of (inf true) (inf false) n o h k = absurd h
eq_of (inf false) (inf true) n o h k = absurd k
eq_of (inf false) (inf false) n o h k = tt
eq_of (inf true) (fin t j d) n o h k = absurd h
eq_of (inf false) (fin t j d) n o h k = absurd k
eq_of (fin s m e) nan n o h k = absurd o
eq_of (fin s m e) (inf true) n o h k = absurd k
eq_of (fin s m e) (inf false) n o h k = absurd h
eq_of (fin s m e) (fin t j d) n o h k = level_of s t (m * up e * down d) (j * up d * down e) h k

-- two numbers of which y is not above x: y is below x, or they are equal
pub not-lt : (x y : Float) → Number x → Number y → T (not (lt x y)) → T (lt y x) ⊎ T (eq x y)
not-lt x y n o h = elim (decide (lt y x)) [ inl l ↦ inl l | inr l ↦ inr (eq_of x y n o h l) ]

-- of two numbers one is below the other, or they are equal
pub trichotomy : (x y : Float) → Number x → Number y → T (lt x y) ⊎ (T (eq x y) ⊎ T (lt y x))
trichotomy x y n o = elim (decide (lt x y)) [ inl l ↦ inl l | inr h ↦ elim (not-lt x y n o h) [ inl l ↦ inr (inr l) | inr e ↦ inr (inl e) ] ]

-- ---- equal floats

pub eq-left : (x y : Float) → T (eq x y) → Number x
unfolding eq
eq-left nan y h = h
eq-left (inf s) y h = tt
eq-left (fin s m e) y h = tt

pub eq-right : (x y : Float) → T (eq x y) → Number y
unfolding eq
eq-right nan nan h = h
eq-right (inf s) nan h = h
eq-right (fin s m e) nan h = h
eq-right x (inf t) h = tt
eq-right x (fin t n d) h = tt

level_sym : (s t : Bool) (a b : ℕ) → T (level s a t b) → T (level t b s a)
level_sym false false a b h = and_i (eqb b a) true (eq→eqb {a = b} {b = a} (sym (eqb→eq a b (and_l (eqb a b) true h)))) tt
level_sym true true a b h = and_i (eqb b a) true (eq→eqb {a = b} {b = a} (sym (eqb→eq a b (and_l (eqb a b) true h)))) tt
level_sym false true a b h =
    let e : a ≡ b = eqb→eq a b (and_l (eqb a b) (eqb a 0) h) in
    let z : a ≡ 0 = eqb→eq a 0 (and_r (eqb a b) (eqb a 0) h) in
    and_i (eqb b a) (eqb b 0) (eq→eqb {a = b} {b = a} (omega arith)) (eq→eqb {a = b} {b = 0} (omega arith))
level_sym true false a b h =
    let e : a ≡ b = eqb→eq a b (and_l (eqb a b) (eqb a 0) h) in
    let z : a ≡ 0 = eqb→eq a 0 (and_r (eqb a b) (eqb a 0) h) in
    and_i (eqb b a) (eqb b 0) (eq→eqb {a = b} {b = a} (omega arith)) (eq→eqb {a = b} {b = 0} (omega arith))

pub eq_sym : (x y : Float) → T (eq x y) → T (eq y x)
unfolding eq
eq_sym nan y h = absurd h
eq_sym (inf s) nan h = absurd h
eq_sym (inf true) (inf true) h = tt
eq_sym (inf true) (inf false) h = absurd h
eq_sym (inf false) (inf true) h = absurd h
eq_sym (inf false) (inf false) h = tt
eq_sym (inf s) (fin t n d) h = absurd h
eq_sym (fin s m e) nan h = absurd h
eq_sym (fin s m e) (inf t) h = absurd h
eq_sym (fin s m e) (fin t n d) h = level_sym s t (m * up e * down d) (n * up d * down e) h

level_not : (s t : Bool) (a b : ℕ) → T (level s a t b) → T (below t b s a) → ⊥
level_not false false a b h k = let e : a ≡ b = eqb→eq a b (and_l (eqb a b) true h) in let l = ltb→lt b a k in omega arith
level_not false true a b h k =
    let e : a ≡ b = eqb→eq a b (and_l (eqb a b) (eqb a 0) h) in
    let z : a ≡ 0 = eqb→eq a 0 (and_r (eqb a b) (eqb a 0) h) in
    let l = ltb→lt 0 (b + a) k in
    omega arith
level_not true false a b h k = k
level_not true true a b h k = let e : a ≡ b = eqb→eq a b (and_l (eqb a b) true h) in let l = ltb→lt a b k in omega arith

pub eq_not_lt : (x y : Float) → T (eq x y) → T (lt y x) → ⊥
unfolding lt eq
eq_not_lt nan y h k = h
eq_not_lt (inf s) nan h k = h
eq_not_lt (inf true) (inf true) h k = k
eq_not_lt (inf true) (inf false) h k = h
eq_not_lt (inf false) (inf true) h k = h
eq_not_lt (inf false) (inf false) h k = k
eq_not_lt (inf s) (fin t n d) h k = h
eq_not_lt (fin s m e) nan h k = h
eq_not_lt (fin s m e) (inf t) h k = h
eq_not_lt (fin s m e) (fin t n d) h k = level_not s t (m * up e * down d) (n * up d * down e) h k

-- x is at most y: two numbers, and y is not below x
pub record AtMost (x y : Float) : Type 0 where
  pub left : Number x
  pub right : Number y
  pub test : T (not (lt y x))

pub at_most : (x y : Float) → T (le x y) → AtMost x y
unfolding le
at_most x y h = elim (or-e (lt x y) (eq x y) h) [
  | inl l ↦ record { left = lt-left x y l; right = lt-right x y l; test = not_T (lt y x) (λ k. lt_asym x y l k) }
  | inr e ↦ record { left = eq-left x y e; right = eq-right x y e; test = not_T (lt y x) (λ k. eq_not_lt x y e k) }
]

pub le_of : (x y : Float) → AtMost x y → T (le x y)
unfolding le
le_of x y a = elim (decide (lt x y)) [ inl l ↦ or_l (lt x y) (eq x y) l | inr n ↦ or_r (lt x y) (eq x y) (eq_of x y a.left a.right n a.test) ]

pub most_trans : (x y z : Float) → AtMost x y → AtMost y z → AtMost x z
most_trans x y z a b =
    record {
      left = a.left;
      right = b.right;
      test = not_T (lt z x) (λ k. elim (lt_split z y x a.right k) [ inl l ↦ contra (lt z y) l b.test | inr l ↦ contra (lt y x) l a.test ]);
    }

pub most_refl : (x : Float) → Number x → AtMost x x
most_refl x n = record { left = n; right = n; test = not_T (lt x x) (λ k. lt_asym x x k k) }

pub most-lt : (x y : Float) → T (lt x y) → AtMost x y
most-lt x y h = record { left = lt-left x y h; right = lt-right x y h; test = not_T (lt y x) (λ k. lt_asym x y h k) }

-- ---- at most, as the test `le`

pub le_left : (x y : Float) → T (le x y) → Number x
le_left x y h = (at_most x y h).left

pub le_right : (x y : Float) → T (le x y) → Number y
le_right x y h = (at_most x y h).right

-- x at most y: y is not below x
pub le_not_lt : (x y : Float) → T (le x y) → T (not (lt y x))
le_not_lt x y h = (at_most x y h).test

-- of two numbers, not below is at least
pub not-lt-le : (x y : Float) → Number x → Number y → T (not (lt x y)) → T (le y x)
not-lt-le x y n o h = le_of y x (record { left = o; right = n; test = h })

pub lt-le : (x y : Float) → T (lt x y) → T (le x y)
lt-le x y h = le_of x y (most-lt x y h)

pub eq-le : (x y : Float) → T (eq x y) → T (le x y)
unfolding le
eq-le x y h = or_r (lt x y) (eq x y) h

pub le_refl : (x : Float) → Number x → T (le x x)
le_refl x n = le_of x x (most_refl x n)

pub le_trans : (x y z : Float) → T (le x y) → T (le y z) → T (le x z)
le_trans x y z h k = le_of x z (most_trans x y z (at_most x y h) (at_most y z k))

pub le_lt_trans : (x y z : Float) → T (le x y) → T (lt y z) → T (lt x z)
le_lt_trans x y z h k = not-lt-lt x y z (le_left x y h) (le_not_lt x y h) k

pub lt-le_trans : (x y z : Float) → T (lt x y) → T (le y z) → T (lt x z)
lt-le_trans x y z h k = elim (lt_split x z y (le_right y z k) h) [ inl l ↦ l | inr l ↦ contra (lt z y) l (le_not_lt y z k) ]

-- at most and not below is equal
pub le-not-lt-eq : (x y : Float) → T (le x y) → T (not (lt x y)) → T (eq x y)
le-not-lt-eq x y h k = eq_of x y (le_left x y h) (le_right x y h) k (le_not_lt x y h)

pub le_antisym : (x y : Float) → T (le x y) → T (le y x) → T (eq x y)
le_antisym x y h k = le-not-lt-eq x y h (le_not_lt y x k)

-- at most is below or equal
pub le_cases : (x y : Float) → T (le x y) → T (lt x y) ⊎ T (eq x y)
unfolding le
le_cases x y h = or-e (lt x y) (eq x y) h

-- of two numbers one is at most the other
pub le_total : (x y : Float) → Number x → Number y → T (le x y) ⊎ T (le y x)
le_total x y n o = elim (decide (lt x y)) [ inl l ↦ inl (lt-le x y l) | inr h ↦ inr (not-lt-le x y n o h) ]

pub eq_refl : (x : Float) → Number x → T (eq x x)
eq_refl x n = le_antisym x x (le_refl x n) (le_refl x n)

pub eq_trans : (x y z : Float) → T (eq x y) → T (eq y z) → T (eq x z)
eq_trans x y z h k = le_antisym x z (le_trans x y z (eq-le x y h) (eq-le y z k)) (le_trans z y x (eq-le z y (eq_sym y z k)) (eq-le y x (eq_sym x y h)))
