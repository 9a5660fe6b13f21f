-- The larger and the smaller of two floats: the test by which `max` and `min` know NaN, and the bounds that both keep. Assumes nothing.
use Rattle.std.proofs.Common.{◌≡◌, ◌*◌, Bool, true, false, cond, not, ◌&&◌, ◌||◌, T, eqb, sym, refl, ap, ◌∙◌, inl, inr}
use lib.Dec.{eqb_refl}
use lib.Ieee.{Float, nan, inf, fin, up, down, lt, le, ne, is_nan}
use lib.Ieee.Bits.{is_true, cond_no}
use Rattle.arith.specs.Order.{max_of, min_of}
use Rattle.arith.proofs.FloatOrder.{Number, not-nan, nan-or, decide, lt-left, lt-right, lt-le, le_refl, not-lt-le, le_trans, lt-le_trans, le_lt_trans, le_left, le_right}

-- only NaN differs from itself
pub nan_test : (x : Float) → is_nan x ≡ ne x x
unfolding is_nan ne
nan_test nan = refl
nan_test (inf true) = refl
nan_test (inf false) = refl
nan_test (fin true m e) = ap (λ (b : Bool). not (b && true)) (sym (is_true (eqb (m * up e * down e) (m * up e * down e)) (eqb_refl (m * up e * down e))))
nan_test (fin false m e) = ap (λ (b : Bool). not (b && true)) (sym (is_true (eqb (m * up e * down e) (m * up e * down e)) (eqb_refl (m * up e * down e))))

-- ---- which of the two it is

-- off NaN the larger is y where x < y, and x otherwise; the smaller is y where y < x, and x otherwise
pub max-number : (x y : Float) → Number x → max_of x y ≡ cond (lt x y) y x
unfolding max_of
max-number x y n = ap (λ (b : Bool). cond (b || lt x y) y x) (not-nan x n)

pub min-number : (x y : Float) → Number x → min_of x y ≡ cond (lt y x) y x
unfolding min_of
min-number x y n = ap (λ (b : Bool). cond (b || lt y x) y x) (not-nan x n)

-- NaN on one side gives the other side
pub max-nan-left : (y : Float) → max_of nan y ≡ y
unfolding max_of
max-nan-left y = refl

pub min-nan-left : (y : Float) → min_of nan y ≡ y
unfolding min_of
min-nan-left y = refl

pub max-nan-right : (x : Float) → max_of x nan ≡ x
unfolding max_of
max-nan-right nan = refl
max-nan-right (inf s) = refl
max-nan-right (fin s m e) = refl

pub min-nan-right : (x : Float) → min_of x nan ≡ x
unfolding min_of
min-nan-right nan = refl
min-nan-right (inf s) = refl
min-nan-right (fin s m e) = refl

-- the same by the test's answer
pub max-second : (x y : Float) → T (lt x y) → max_of x y ≡ y
max-second x y h = max-number x y (lt-left x y h) ∙ ap (λ (b : Bool). cond b y x) (is_true (lt x y) h)

pub max-first : (x y : Float) → Number x → T (not (lt x y)) → max_of x y ≡ x
max-first x y n h = max-number x y n ∙ cond_no (lt x y) y x h

pub min-second : (x y : Float) → T (lt y x) → min_of x y ≡ y
min-second x y h = min-number x y (lt-right y x h) ∙ ap (λ (b : Bool). cond b y x) (is_true (lt y x) h)

pub min-first : (x y : Float) → Number x → T (not (lt y x)) → min_of x y ≡ x
min-first x y n h = min-number x y n ∙ cond_no (lt y x) y x h

picked : (P : Float → Type 0) (b : Bool) (x y : Float) → P x → P y → P (cond b y x)
picked P true x y p q = q
picked P false x y p q = p

-- what holds of both holds of the larger and of the smaller
pub max-is : (P : Float → Type 0) (x y : Float) → P x → P y → P (max_of x y)
unfolding max_of
max-is P x y p q = picked P (is_nan x || lt x y) x y p q

pub min-is : (P : Float → Type 0) (x y : Float) → P x → P y → P (min_of x y)
unfolding min_of
min-is P x y p q = picked P (is_nan x || lt y x) x y p q

-- ---- bounds

-- a number on either side is at most the larger, whatever stands on the other side
pub le_max_left : (x y : Float) → Number x → T (le x (max_of x y))
le_max_left x y n = elim (decide (lt x y)) [ inl h ↦ rw (max-second x y h) (lt-le x y h) | inr h ↦ rw (max-first x y n h) (le_refl x n) ]

pub le_max_right : (x y : Float) → Number y → T (le y (max_of x y))
le_max_right x y n = elim (nan-or x) [
  | inl e ↦ rw (e, max-nan-left y) (le_refl y n)
  | inr m ↦ elim (decide (lt x y)) [ inl h ↦ rw (max-second x y h) (le_refl y n) | inr h ↦ rw (max-first x y m h) (not-lt-le x y m n h) ]
]

-- and the smaller is at most each number
pub min_le_left : (x y : Float) → Number x → T (le (min_of x y) x)
min_le_left x y n = elim (decide (lt y x)) [ inl h ↦ rw (min-second x y h) (lt-le y x h) | inr h ↦ rw (min-first x y n h) (le_refl x n) ]

pub min_le_right : (x y : Float) → Number y → T (le (min_of x y) y)
min_le_right x y n = elim (nan-or x) [
  | inl e ↦ rw (e, min-nan-left y) (le_refl y n)
  | inr m ↦ elim (decide (lt y x)) [ inl h ↦ rw (min-second x y h) (le_refl y n) | inr h ↦ rw (min-first x y m h) (not-lt-le y x n m h) ]
]

module _ (x y z : Float) where
  -- what bounds both bounds the larger and the smaller
  pub max-lt : T (lt x z) → T (lt y z) → T (lt (max_of x y) z)
  max-lt h k = max-is (λ w. T (lt w z)) x y h k

  pub max-le : T (le x z) → T (le y z) → T (le (max_of x y) z)
  max-le h k = max-is (λ w. T (le w z)) x y h k

  pub lt-min : T (lt z x) → T (lt z y) → T (lt z (min_of x y))
  lt-min h k = min-is (λ w. T (lt z w)) x y h k

  pub le-min : T (le z x) → T (le z y) → T (le z (min_of x y))
  le-min h k = min-is (λ w. T (le z w)) x y h k

  -- what is below one side is below the larger, and what is above one side is above the smaller
  pub lt-max-left : T (lt z x) → T (lt z (max_of x y))
  lt-max-left h = lt-le_trans z x (max_of x y) h (le_max_left x y (lt-right z x h))

  pub lt-max-right : T (lt z y) → T (lt z (max_of x y))
  lt-max-right h = lt-le_trans z y (max_of x y) h (le_max_right x y (lt-right z y h))

  pub min-lt-left : T (lt x z) → T (lt (min_of x y) z)
  min-lt-left h = le_lt_trans (min_of x y) x z (min_le_left x y (lt-left x z h)) h

  pub min-lt-right : T (lt y z) → T (lt (min_of x y) z)
  min-lt-right h = le_lt_trans (min_of x y) y z (min_le_right x y (lt-left y z h)) h

-- the larger of two is at most the larger of two that they are at most, and so with the smaller
pub max-most : (l m h k : Float) → T (le l h) → T (le m k) → T (le (max_of l m) (max_of h k))
max-most l m h k a b =
    max-le l m (max_of h k) (le_trans l h (max_of h k) a (le_max_left h k (le_right l h a))) (le_trans m k (max_of h k) b (le_max_right h k (le_right m k b)))

pub min-most : (l m h k : Float) → T (le l h) → T (le m k) → T (le (min_of l m) (min_of h k))
min-most l m h k a b =
    le-min h k (min_of l m) (le_trans (min_of l m) l h (min_le_left l m (le_left l h a)) a) (le_trans (min_of l m) m k (min_le_right l m (le_left m k b)) b)
