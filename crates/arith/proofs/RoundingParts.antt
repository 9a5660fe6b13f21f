-- The four parts of whole rounding: the proof of `FourParts` of specs/RoundingParts.antt. Assumes nothing.
use Rattle.std.proofs.Common.{◌≡◌, ℕ, zero, suc, ◌+◌, ◌*◌, ◌/◌, ◌%◌, ◌^◌, ◌<◌, ◌≤◌, Bool, T, eqb, ℤ, sym, refl, ap, ◌∙◌, subst, inl, inr, le_of_lt, mod-lt, zero-lt-suc, div-lt_iff_lt-mul, lt_of_mul-lt-mul_right, div-add-mod', le-div_iff_mul-le, mul-one, arith, eqb→eq}
use native.Mathlib.Nat.{eq_of_mul-eq-mul_right}
use lib.Ieee.{Float, nan, inf, fin, binary64, up, down, round, fits}
use lib.Ieee.Fits.{down_pos, eq→eqb}
use lib.Ieee.Exact.{HasValue}
use lib.Ieee.Back.{round_whole}
use Rattle.arith.specs.declared.rounding.Part.{Part}
use Rattle.arith.specs.declared.rounding.Part.TheVariants.{NotFinite, Whole, Nearest, Tie}
use Rattle.arith.specs.Rounding.{half_up, round_away}
use Rattle.arith.specs.RoundingParts.{IsNotFinite, IsWhole, Near, IsNear, FallsTo, ToNearest, TiesToAway, FourParts}
use Rattle.arith.proofs.FloatOrder.{decide, contra, lt-or_ge}
use Rattle.arith.proofs.RoundingLaws.{of_value, zero-whole, whole-stays, big_whole, half-up-near}

-- ---- a / c among the whole numbers

-- from n on and below n + 1 its whole part is n
pub cut-at : (a c n : ℕ) → 0 < c → n * c ≤ a → a < suc n * c → a / c ≡ n
cut-at a c n C l u = between (a / c) n ((div-lt_iff_lt-mul C).1 u) ((le-div_iff_mul-le C).1 l)
  where
    between : (k n : ℕ) → k < suc n → n ≤ k → k ≡ n
    between k n h g = omega arith

-- from n - 1/2 on and below n + 1/2 it goes to n
half_is : (a c n : ℕ) → 0 < c → 2 * (n * c) ≤ 2 * a + c → 2 * a < 2 * (n * c) + c → half_up a c ≡ n
half_is a c n C l u = cut-at (2 * a + c) (2 * c) n (omega arith) (omega arith) (omega arith)

half-near : (a c n : ℕ) → 0 < c → Near a c n → half_up a c ≡ n
half-near a c n C h = half_is a c n C (le_of_lt h.1) h.2

pub half-tie : (a c n : ℕ) → 0 < c → a * 2 ≡ (2 * n + 1) * c → half_up a c ≡ n + 1
half-tie a c n C h = half_is a c (n + 1) C (omega arith) (omega arith)

pub half-whole : (a c n : ℕ) → 0 < c → a * 1 ≡ n * c → half_up a c ≡ n
half-whole a c n C h = half_is a c n C (omega arith) (omega arith)

-- of a whole number, near one and halfway it is only one
pub whole-near : (a c n k : ℕ) → 0 < c → a * 1 ≡ n * c → Near a c k → ⊥
whole-near a c n k C h g =
    g.0 (sym (mul-one a) ∙ h ∙ ap (λ (z : ℕ). z * c) (sym (half-whole a c n C h) ∙ half-near a c k C g))

pub whole_halfway : (a c n k : ℕ) → 0 < c → a * 1 ≡ n * c → a * 2 ≡ (2 * k + 1) * c → ⊥
whole_halfway a c n k C h g = parity n k (eq_of_mul-eq-mul_right c C (2 * n) (2 * k + 1) (omega arith))
  where
    parity : (n k : ℕ) → 2 * n ≡ 2 * k + 1 → ⊥
    parity n k e = omega arith

pub near_halfway : (a c n k : ℕ) → 0 < c → Near a c n → a * 2 ≡ (2 * k + 1) * c → ⊥
near_halfway a c n k C h g =
    let u : 2 * (n * c) < 2 * a + c = h.1 in
    let v : 2 * a < 2 * (n * c) + c = h.2 in
    apart n k (lt_of_mul-lt-mul_right c (upper a c n k u g)) (lt_of_mul-lt-mul_right c (lower a c n k v g))
  where
    upper : (a c n k : ℕ) → 2 * (n * c) < 2 * a + c → a * 2 ≡ (2 * k + 1) * c → n * c < suc k * c
    upper a c n k u g = omega arith

    lower : (a c n k : ℕ) → 2 * a < 2 * (n * c) + c → a * 2 ≡ (2 * k + 1) * c → k * c < n * c
    lower a c n k v g = omega arith

    apart : (n k : ℕ) → n < suc k → k < n → ⊥
    apart n k u v = omega arith

-- ---- every float falls to exactly one part

-- by what is left of a finite size where its whole part is taken off: nothing, something other than one half, one half
abbrev pub left_over : ℕ → ℤ → ℕ
left_over m e = m * up e % down e

pub whole-left : (s : Bool) (m : ℕ) (e : ℤ) → left_over m e ≡ 0 → FallsTo (fin s m e) Whole
whole-left s m e h = (s, m * up e / down e, (refl, clear (m * up e / down e) (m * up e) (down e) (left_over m e) (div-add-mod' (m * up e) (down e)) h))
  where
    clear : (n a c r : ℕ) → n * c + r ≡ a → r ≡ 0 → a * 1 ≡ n * c
    clear n a c r h z = omega arith

pub near-left : (s : Bool) (m : ℕ) (e : ℤ) → (left_over m e ≡ 0 → ⊥) → (left_over m e * 2 ≡ down e → ⊥) → FallsTo (fin s m e) Nearest
near-left s m e z t =
    let g = side (m * up e) (down e) (m * up e / down e) (left_over m e) (div-add-mod' (m * up e) (down e)) (mod-lt (m * up e) (down_pos e)) z t in
    (s, g.0, (refl, g.1))
  where
    none : (n a c r : ℕ) → n * c + r ≡ a → (r ≡ 0 → ⊥) → a ≡ n * c → ⊥
    none n a c r h z e = z (omega arith)

    more : (n a c r : ℕ) → n * c + r ≡ a → r < c → a ≡ suc n * c → ⊥
    more n a c r h l e = omega arith

    side : (a c n r : ℕ) → n * c + r ≡ a → r < c → (r ≡ 0 → ⊥) → (r * 2 ≡ c → ⊥) → (k : ℕ) × Near a c k
    side a c n r h l z t = elim (lt-or_ge (r * 2) c) [
      | inl g ↦ (n, (none n a c r h z, over a c n r h z, omega arith))
      | inr g ↦ elim (lt-or_ge c (r * 2)) [ inl k ↦ (suc n, (more n a c r h l, omega arith, omega arith)) | inr k ↦ absurd (t (omega arith)) ]
    ]
      where
        over : (a c n r : ℕ) → n * c + r ≡ a → (r ≡ 0 → ⊥) → 2 * (n * c) < 2 * a + c
        over a c n r h z = omega arith

pub half-left : (s : Bool) (m : ℕ) (e : ℤ) → left_over m e * 2 ≡ down e → FallsTo (fin s m e) Tie
half-left s m e h = (s, m * up e / down e, (refl, halfway (m * up e / down e) (m * up e) (down e) (left_over m e) (div-add-mod' (m * up e) (down e)) h))
  where
    halfway : (n a c r : ℕ) → n * c + r ≡ a → r * 2 ≡ c → a * 2 ≡ (2 * n + 1) * c
    halfway n a c r h t = omega arith

cover : (x : Float) → (p : Part) × FallsTo x p
cover nan = (NotFinite, tt)
cover (inf s) = (NotFinite, tt)
cover (fin s m e) = elim (decide (eqb (left_over m e) 0)) [
  | inl h ↦ (Whole, whole-left s m e (eqb→eq (left_over m e) 0 h))
  | inr z ↦ elim (decide (eqb (left_over m e * 2) (down e))) [
    | inl h ↦ (Tie, half-left s m e (eqb→eq (left_over m e * 2) (down e) h))
    | inr t ↦ (Nearest, near-left s m e (λ h. contra (eqb (left_over m e) 0) (eq→eqb h) z) (λ h. contra (eqb (left_over m e * 2) (down e)) (eq→eqb h) t))
  ]
]

-- a NaN and an infinity fall to no other part
not-finite-only : (x : Float) (p : Part) → IsNotFinite x → FallsTo x p → p ≡ NotFinite
not-finite-only (fin s m e) p f g = absurd f
not-finite-only nan NotFinite f g = refl
not-finite-only nan Whole f g = absurd g.2
not-finite-only nan Nearest f g = absurd g.2
not-finite-only nan Tie f g = absurd g.2
not-finite-only (inf s) NotFinite f g = refl
not-finite-only (inf s) Whole f g = absurd g.2
not-finite-only (inf s) Nearest f g = absurd g.2
not-finite-only (inf s) Tie f g = absurd g.2

only_one : (x : Float) (p q : Part) → FallsTo x p → FallsTo x q → p ≡ q
only_one nan p q f g = not-finite-only nan p tt f ∙ sym (not-finite-only nan q tt g)
only_one (inf s) p q f g = not-finite-only (inf s) p tt f ∙ sym (not-finite-only (inf s) q tt g)
only_one (fin s m e) NotFinite q f g = absurd f
only_one (fin s m e) Whole NotFinite f g = absurd g
only_one (fin s m e) Whole Whole f g = refl
only_one (fin s m e) Whole Nearest f g = absurd (whole-near (m * up e) (down e) f.1 g.1 (down_pos e) f.2.1 g.2.1)
only_one (fin s m e) Whole Tie f g = absurd (whole_halfway (m * up e) (down e) f.1 g.1 (down_pos e) f.2.1 g.2.1)
only_one (fin s m e) Nearest NotFinite f g = absurd g
only_one (fin s m e) Nearest Whole f g = absurd (whole-near (m * up e) (down e) g.1 f.1 (down_pos e) g.2.1 f.2.1)
only_one (fin s m e) Nearest Nearest f g = refl
only_one (fin s m e) Nearest Tie f g = absurd (near_halfway (m * up e) (down e) f.1 g.1 (down_pos e) f.2.1 g.2.1)
only_one (fin s m e) Tie NotFinite f g = absurd g
only_one (fin s m e) Tie Whole f g = absurd (whole_halfway (m * up e) (down e) g.1 f.1 (down_pos e) g.2.1 f.2.1)
only_one (fin s m e) Tie Nearest f g = absurd (near_halfway (m * up e) (down e) g.1 f.1 (down_pos e) g.2.1 f.2.1)
only_one (fin s m e) Tie Tie f g = refl

-- ---- the result in each part

not_finite : (x : Float) → IsNotFinite x → round_away x ≡ x
unfolding round_away
not_finite nan f = refl
not_finite (inf s) f = refl
not_finite (fin s m e) f = absurd f

whole : (x : Float) → T (fits binary64 x) → (s : Bool) (n : ℕ) → IsWhole x s n → round_away x ≡ x
whole x t s n h = whole-stays x t (of_value x s n h)

-- from 2 ^ 52 on nothing is left
pub big_left : (s : Bool) (m : ℕ) (e : ℤ) → T (fits binary64 (fin s m e)) → 2 ^ 52 * down e ≤ m * up e → left_over m e ≡ 0
big_left s zero e t g = zero-whole s e
big_left s (suc m) e t g = big_whole s (suc m) e (zero-lt-suc m) t g

-- so what is no whole number lies below
pub fraction_below : (s : Bool) (m : ℕ) (e : ℤ) → T (fits binary64 (fin s m e)) → (FallsTo (fin s m e) Whole → ⊥) → m * up e < 2 ^ 52 * down e
fraction_below s m e t f = elim (lt-or_ge (m * up e) (2 ^ 52 * down e)) [ inl l ↦ l | inr g ↦ absurd (f (whole-left s m e (big_left s m e t g))) ]

-- what is no whole number goes to the float n, exactly, where `half_up` says n
pub goes_to : (s : Bool) (m : ℕ) (e : ℤ) → T (fits binary64 (fin s m e)) → (FallsTo (fin s m e) Whole → ⊥) → (n : ℕ) → half_up (m * up e) (down e) ≡ n → IsWhole (round_away (fin s m e)) s n
unfolding round_away
goes_to s m e t f n h =
    let a = m * up e in
    let c = down e in
    let l : 2 * (n * c) ≤ 2 * a + c = subst (λ (z : ℕ). 2 * (z * c) ≤ 2 * a + c) h (half-up-near a c (down_pos e)).0 in
    subst (λ (z : ℕ). HasValue (round binary64 s z 1) s n 1) (sym h) (round_whole binary64 s n (small n (lt_of_mul-lt-mul_right c (least a c n (fraction_below s m e t f) l))))
  where
    least : (a c n : ℕ) → a < 2 ^ 52 * c → 2 * (n * c) ≤ 2 * a + c → n * c < (2 ^ 52 + 1) * c
    least a c n l h = omega arith

    small : (n : ℕ) → n < 2 ^ 52 + 1 → n ≤ 2 ^ 53
    small n h = omega arith

nearest : (x : Float) → T (fits binary64 x) → ToNearest x (round_away x)
nearest nan t s n h = absurd h
nearest (inf u) t s n h = absurd h
nearest (fin u m e) t s n h =
    subst (λ (v : Bool). IsWhole (round_away (fin u m e)) v n) h.0
    (goes_to u m e t (λ (w : FallsTo (fin u m e) Whole). whole-near (m * up e) (down e) w.1 n (down_pos e) w.2.1 h.1) n (half-near (m * up e) (down e) n (down_pos e) h.1))

one-nearest : (x : Float) (s t : Bool) (n k : ℕ) → IsNear x s n → IsNear x t k → (s ≡ t) × (n ≡ k)
one-nearest nan s t n k f g = absurd f
one-nearest (inf u) s t n k f g = absurd f
one-nearest (fin u m e) s t n k f g =
    (sym f.0 ∙ g.0, sym (half-near (m * up e) (down e) n (down_pos e) f.1) ∙ half-near (m * up e) (down e) k (down_pos e) g.1)

tie : (x : Float) → T (fits binary64 x) → TiesToAway x (round_away x)
tie nan t s n h = absurd h
tie (inf u) t s n h = absurd h
tie (fin u m e) t s n h =
    subst (λ (v : Bool). IsWhole (round_away (fin u m e)) v (n + 1)) h.0
    (goes_to u m e t (λ (w : FallsTo (fin u m e) Whole). whole_halfway (m * up e) (down e) w.1 n (down_pos e) w.2.1 h.1) (n + 1) (half-tie (m * up e) (down e) n (down_pos e) h.1))

pub four_parts : FourParts
four_parts =
    record {
      cover = cover;
      only_one = only_one;
      not_finite = not_finite;
      whole = whole;
      nearest = nearest;
      one-nearest = one-nearest;
      tie = tie;
    }
