-- Whole rounding and powers of ten: laws of `round_away`, `half_up` and `ten_to` of specs/Rounding.antt. Assumes nothing.
use Rattle.std.proofs.Common.{◌≡◌, ℕ, zero, suc, ◌+◌, ◌*◌, ◌/◌, ◌%◌, ◌^◌, ◌<◌, ◌≤◌, Bool, false, T, List, [], ◌∷◌, get_or, ℤ, pos, negsuc, sym, refl, ap, ◌∙◌, subst, inl, inr, le_trans, le_of_lt, add-zero, mod-lt, zero-lt-suc, div-lt_iff_lt-mul, div-add-mod', zero-mul, mul-one, mul_left_comm, arith, lit≤, pow_pos}
use native.Mathlib.Nat.{mod-one, mul-mod_left, min-eq_left, pow-succ', pow-le-pow_right}
use lib.Ieee.{Float, nan, inf, fin, binary64, up, down, round, fits, of_int}
use lib.Ieee.Fits.{down_pos, round-fits, nan-fits, inf-fits}
use lib.Ieee.Exact.{HasValue}
use lib.Ieee.Back.{whole_unique, round_whole}
use Rattle.arith.specs.Rounding.{half_up, round_away, ten_to}
use Rattle.arith.proofs.FloatOrder.{lt-or_ge}
use Rattle.arith.proofs.FloatValues.{double, fine, round-own, zero_exp}
use Rattle.arith.proofs.SumLaws.{round-zero}

twice_pos : (c : ℕ) → 0 < c → 0 < 2 * c
twice_pos c p = omega arith

-- ---- whole numbers

-- x has no fraction
abbrev pub Whole : Float → Type 0
Whole nan = Unit {0}
Whole (inf s) = Unit {0}
Whole (fin s m e) = m * up e % down e ≡ 0

pub of_value : (x : Float) (s : Bool) (n : ℕ) → HasValue x s n 1 → Whole x
of_value nan s n v = tt
of_value (inf t) s n v = tt
of_value (fin t m e) s n v = ap (λ (z : ℕ). z % down e) (sym (mul-one (m * up e)) ∙ v.1) ∙ mul-mod_left n (down e)

pub zero-whole : (s : Bool) (e : ℤ) → Whole (fin s zero e)
zero-whole s e = ap (λ (z : ℕ). z % down e) (zero-mul (up e) ∙ sym (zero-mul (down e))) ∙ mul-mod_left 0 (down e)

upward : (s : Bool) (m k : ℕ) → 0 < m → T (fits binary64 (fin s m (pos k))) → round binary64 s (half_up (m * 2 ^ k) 1) 1 ≡ fin s m (pos k)
upward s m k p t =
    let v = round-own binary64 s m (pos k) p t in
    ap (λ (z : ℕ). round binary64 s z 1) (odd-half (m * 2 ^ k))
    ∙ whole_unique binary64 (round binary64 s (m * 2 ^ k) 1) (fin s m (pos k)) s (m * 2 ^ k) (round-fits binary64 s (m * 2 ^ k) 1) t v (refl, refl)
  where
    odd-half : (a : ℕ) → (2 * a + 1) / 2 ≡ a
    odd-half a = omega arith

-- both zeros stay
pub zero-stays : (s : Bool) (e : ℤ) → T (fits binary64 (fin s zero e)) → round_away (fin s zero e) ≡ fin s zero e
unfolding round_away
zero-stays s e t =
    let z = zero_exp binary64 s e t in
    ap (λ (d : ℤ). round binary64 s (half_up (zero * up d) (down d)) 1) z ∙ round-zero s ∙ ap (λ (d : ℤ). fin s zero d) (sym z)

-- a whole number rounds to itself
pub whole-stays : (x : Float) → T (fits binary64 x) → Whole x → round_away x ≡ x
unfolding round_away
whole-stays nan t w = refl
whole-stays (inf s) t w = refl
whole-stays (fin s zero e) t w = zero-stays s e t
whole-stays (fin s (suc m) (pos k)) t w = upward s (suc m) k (zero-lt-suc m) t
whole-stays (fin s (suc m) (negsuc k)) t w =
    absurd (clash (suc m) (2 ^ k) (fine binary64 s (suc m) (negsuc k) (zero-lt-suc m) t).odd (subst (λ (z : ℕ). suc m % z ≡ 0) (pow-succ' 2 k) (subst (λ (z : ℕ). z % 2 ^ suc k ≡ 0) (mul-one (suc m)) w)))
  where
    even : (m z : ℕ) → z + z + 0 ≡ m → m % 2 ≡ 1 → ⊥
    even m z e o = omega arith

    clash : (m q : ℕ) → m % 2 ≡ 1 → m % (2 * q) ≡ 0 → ⊥
    clash m q o w = even m (m / (2 * q) * q) (split (m / (2 * q)) q m (ap (λ (z : ℕ). m / (2 * q) * (2 * q) + z) (sym w) ∙ div-add-mod' m (2 * q))) o
      where
        split : (r q m : ℕ) → r * (2 * q) + 0 ≡ m → r * q + r * q + 0 ≡ m
        split r q m h = ap (λ (z : ℕ). z + 0) (double (r * q) ∙ sym (mul_left_comm r 2 q)) ∙ h

-- from 2 ^ 52 on every value is whole
pub big_whole : (s : Bool) (m : ℕ) (e : ℤ) → 0 < m → T (fits binary64 (fin s m e)) → 2 ^ 52 * down e ≤ m * up e → Whole (fin s m e)
big_whole s m (pos k) p t h = mod-one (m * 2 ^ k)
big_whole s m (negsuc k) p t h =
    let b = (fine binary64 s m (negsuc k) p t).small in
    absurd (clash (2 ^ k) m (pow_pos k) b (subst (λ (z : ℕ). 2 ^ 52 * z ≤ m) (pow-succ' 2 k) (subst (λ (z : ℕ). 2 ^ 52 * 2 ^ suc k ≤ z) (mul-one m) h)))
  where
    clash : (a m : ℕ) → 0 < a → m < 2 ^ 53 → 2 ^ 52 * (2 * a) ≤ m → ⊥
    clash a m A b g = omega arith

pub big_stays : (s : Bool) (m : ℕ) (e : ℤ) → 0 < m → T (fits binary64 (fin s m e)) → 2 ^ 52 * down e ≤ m * up e → round_away (fin s m e) ≡ fin s m e
big_stays s m e p t h = whole-stays (fin s m e) t (big_whole s m e p t h)

-- rounding gives a whole number
pub rounded-whole : (x : Float) → T (fits binary64 x) → Whole (round_away x)
unfolding round_away
rounded-whole nan t = tt
rounded-whole (inf s) t = tt
rounded-whole (fin s zero e) t = subst Whole (sym (zero-stays s e t)) (zero-whole s e)
rounded-whole (fin s (suc m) e) t = elim (lt-or_ge (suc m * up e) (2 ^ 52 * down e)) [
  | inl l ↦ of_value (round binary64 s (half_up (suc m * up e) (down e)) 1) s (half_up (suc m * up e) (down e)) (round_whole binary64 s (half_up (suc m * up e) (down e)) (small (suc m * up e) (down e) (down_pos e) l))
  | inr g ↦ subst Whole (sym (big_stays s (suc m) e (zero-lt-suc m) t g)) (big_whole s (suc m) e (zero-lt-suc m) t g)
]
  where
    near : (M D : ℕ) → 0 < D → M < 2 ^ 52 * D → 2 * M + D < 2 ^ 53 * (2 * D)
    near M D p l = omega arith

    small : (M D : ℕ) → 0 < D → M < 2 ^ 52 * D → half_up M D ≤ 2 ^ 53
    small M D p l = le_of_lt ((div-lt_iff_lt-mul (twice_pos D p)).1 (near M D p l))

pub rounded-fits : (x : Float) → T (fits binary64 (round_away x))
unfolding round_away
rounded-fits nan = nan-fits binary64
rounded-fits (inf s) = inf-fits binary64 s
rounded-fits (fin s m e) = round-fits binary64 s (half_up (m * up e) (down e)) 1

-- rounding twice is rounding once
pub round-twice : (x : Float) → T (fits binary64 x) → round_away (round_away x) ≡ round_away x
round-twice x t = whole-stays (round_away x) (rounded-fits x) (rounded-whole x t)

-- ---- the nearest

-- `half_up a c` is a whole number h with h - 1/2 ≤ a / c < h + 1/2: the nearest, and of two equally near the larger
pub half-up-near : (a c : ℕ) → 0 < c → (2 * (half_up a c * c) ≤ 2 * a + c) × (2 * a < 2 * (half_up a c * c) + c)
half-up-near a c p = ends (half_up a c * c) a c ((2 * a + c) % (2 * c)) (sym (mul_left_comm (half_up a c) 2 c)) (div-add-mod' (2 * a + c) (2 * c)) (mod-lt (2 * a + c) (twice_pos c p))
  where
    ends : (z a c r : ℕ) → 2 * z ≡ half_up a c * (2 * c) → half_up a c * (2 * c) + r ≡ 2 * a + c → r < 2 * c → (2 * z ≤ 2 * a + c) × (2 * a < 2 * z + c)
    ends z a c r h g l = (omega arith, omega arith)

-- ---- powers of ten

-- `ten_to d` is 10 ^ d exactly, up to d = 6
pub ten-exact : (d : ℕ) → d ≤ 6 → HasValue (ten_to d) false (10 ^ d) 1
unfolding ten_to of_int
ten-exact d h = rw (min-eq_left h) (round_whole binary64 false (10 ^ d) (le_trans (pow-le-pow_right (zero-lt-suc 9) h) (lit≤ {m = 10 ^ 6} {n = 2 ^ 53} tt)))

-- the table: n powers from 10 ^ i on
abbrev pub powers_from : ℕ → ℕ → List Float
powers_from i zero = []
powers_from i (suc n) = of_int binary64 (pos (10 ^ i)) ∷ powers_from (suc i) n

pub power_at : (i n k : ℕ) (z : Float) → k < n → get_or (powers_from i n) k z ≡ of_int binary64 (pos (10 ^ (i + k)))
power_at i zero k z h = absurd (omega arith)
power_at i (suc n) zero z h = ap (λ (j : ℕ). of_int binary64 (pos (10 ^ j))) (sym (add-zero i))
power_at i (suc n) (suc k) z h = power_at (suc i) n k z (omega arith) ∙ ap (λ (j : ℕ). of_int binary64 (pos (10 ^ j))) (shifted i k)
  where
    shifted : (i k : ℕ) → suc i + k ≡ i + suc k
    shifted i k = omega arith
