-- A written number's value by one division: the proof of `OneDivision` of specs/Claims.antt. Assumes nothing.
use mathlib.Core.Path.{◌≡◌, refl, sym, ap, ◌∙◌, subst}
use Prim.Native.Nat.{ℕ, zero, suc, ◌+◌, ◌*◌, ◌^◌, ◌≤◌, ◌<◌}
use native.Mathlib.Nat.{mul-one, mul-mul-mul_comm, pow-succ', le_trans, le_of_lt, lt_of_le_of_lt, pow-le-pow_right, one-le-pow, zero-lt-suc, add-zero}
use native.Mathlib.Omega.{arith}
use mathlib.Core.Bool.{Bool, true, false, not, ◌&&◌, cond}
use mathlib.Core.List.{List, [], ◌∷◌}
use lib.ListN.{get_or}
use borrow.Author.Tests.{eq-eqb, ne_eqb}
use lib.Dec.{eqb, lit≤, lit<}
use lib.Pow.{pow-add}
use lib.IntN.{ℤ, pos, neg_ℤ, ◌-ℤ◌, +ℤ_idl}
use mir.Syntax.{w64}
use mir.Val.{SFits}
use lib.Ieee.{Float, binary64, round, of_int, div, neg}
use lib.Ieee.Exact.{HasValue}
use lib.Ieee.Back.{round_whole}
use Rattle.arith.proofs.Tests.{and_false, both_true}
use Rattle.arith.proofs.FloatValues.{div-at, neg-round, exact_in}
use Rattle.csv_text.specs.Values.{nearest_of}
use Rattle.csv_text.specs.Claims.{as_float, OneDivision}

whole : (n : ℕ) → n < 10 ^ 15 → HasValue (as_float n) false n 1
unfolding of_int
whole n h = round_whole binary64 false n (le_trans (le_of_lt h) (lit≤ {m = 10 ^ 15} {n = 2 ^ 53} tt))

-- 10^k is 5^k times 2^k, and 5^22 is below 2^53
ten-is : (k : ℕ) → 10 ^ k ≡ 5 ^ k * 2 ^ k
ten-is zero = refl
ten-is (suc k) = pow-succ' 10 k ∙ ap (λ (z : ℕ). 10 * z) (ten-is k) ∙ mul-mul-mul_comm 5 2 (5 ^ k) (2 ^ k) ∙ ap (λ (z : ℕ). z * (2 * 2 ^ k)) (sym (pow-succ' 5 k)) ∙ ap (λ (z : ℕ). 5 ^ suc k * z) (sym (pow-succ' 2 k))

power : (k : ℕ) → k ≤ 22 → HasValue (as_float (10 ^ k)) false (10 ^ k) 1
unfolding of_int
power k h =
    exact_in binary64 false (10 ^ k) 1 (5 ^ k) (k + 1074) (zero-lt-suc 0)
    (lt_of_le_of_lt (pow-le-pow_right (zero-lt-suc 4) h) (lit< {m = 5 ^ 22} {n = 2 ^ 53} tt))
    (ap (λ (z : ℕ). z * 2 ^ 1074) (ten-is k) ∙ shift (5 ^ k) (2 ^ k) (2 ^ 1074) ∙ ap (λ (z : ℕ). 5 ^ k * z * 1) (sym (pow-add 2 k 1074)))
    (lt_of_le_of_lt (pow-le-pow_right (zero-lt-suc 9) h) (lit< {m = 10 ^ 22} {n = 2 ^ 1024 * 1} tt))
  where
    shift : (a b c : ℕ) → a * b * c ≡ a * (b * c) * 1
    shift a b c = omega arith

quotient-plus : (n k : ℕ) → n < 10 ^ 15 → k ≤ 22 → div binary64 (as_float n) (as_float (10 ^ k)) ≡ round binary64 false n (10 ^ k)
quotient-plus n k h l =
    div-at binary64 (as_float n) (as_float (10 ^ k)) false false n 1 (10 ^ k) 1 (zero-lt-suc 0) (zero-lt-suc 0) (one-le-pow k 10 (zero-lt-suc 9)) (whole n h) (power k l)
    ∙ ap (λ (z : ℕ). round binary64 false z (10 ^ k * 1)) (mul-one n)
    ∙ ap (λ (z : ℕ). round binary64 false n z) (mul-one (10 ^ k))

quotient : (minus : Bool) (n k : ℕ) → n < 10 ^ 15 → k ≤ 22
    → nearest_of minus n k ≡ cond (minus && not (eqb n 0)) (neg (div binary64 (as_float n) (as_float (10 ^ k)))) (div binary64 (as_float n) (as_float (10 ^ k)))
unfolding nearest_of
quotient minus n k h l = go (minus && not (eqb n 0))
  where
    go : (s : Bool) → round binary64 s n (10 ^ k) ≡ cond s (neg (div binary64 (as_float n) (as_float (10 ^ k)))) (div binary64 (as_float n) (as_float (10 ^ k)))
    go true = sym (ap neg (quotient-plus n k h l) ∙ neg-round binary64 false n (10 ^ k))
    go false = sym (quotient-plus n k h l)

pub one_division : OneDivision
one_division = record { whole = whole; power = power; quotient = quotient }

-- ---- as the code divides

module _ (minus : Bool) (n k : ℕ) (x : Float) (h : n < 10 ^ 15) (l : k ≤ 22) (e : x ≡ as_float (10 ^ k)) where
  divided : (s : Bool) → (minus && not (eqb n 0)) ≡ s → cond s (neg (div binary64 (as_float n) x)) (div binary64 (as_float n) x) ≡ nearest_of minus n k
  divided s q =
      ap (λ (y : Float). cond s (neg (div binary64 (as_float n) y)) (div binary64 (as_float n) y)) e
      ∙ ap (λ (z : Bool). cond z (neg (div binary64 (as_float n) (as_float (10 ^ k)))) (div binary64 (as_float n) (as_float (10 ^ k)))) (sym q)
      ∙ sym (quotient minus n k h l)

  pub value-minus : minus ≡ true → (n ≡ 0 → ⊥) → neg (div binary64 (as_float n) x) ≡ nearest_of minus n k
  value-minus m z = divided true (both_true m (ap not (ne_eqb n 0 z)))

  pub value-zero : n ≡ 0 → div binary64 (as_float n) x ≡ nearest_of minus n k
  value-zero z = divided false (ap (λ (b : Bool). minus && not b) (eq-eqb n 0 z) ∙ and_false minus)

  pub value-plus : minus ≡ false → div binary64 (as_float n) x ≡ nearest_of minus n k
  value-plus m = divided false (ap (λ (b : Bool). b && not (eqb n 0)) m)

-- ---- the table of powers

-- n of them from 10^i on
abbrev pub powers_from : ℕ → ℕ → List Float
powers_from i zero = []
powers_from i (suc n) = as_float (10 ^ i) ∷ powers_from (suc i) n

pub power_at : (i n k : ℕ) (z : Float) → k < n → get_or (powers_from i n) k z ≡ as_float (10 ^ (i + k))
power_at i zero k z h = absurd (omega arith)
power_at i (suc n) zero z h = ap (λ (j : ℕ). as_float (10 ^ j)) (sym (add-zero i))
power_at i (suc n) (suc k) z h = power_at (suc i) n k z (omega arith) ∙ ap (λ (j : ℕ). as_float (10 ^ j)) (shifted i k)
  where
    shifted : (i k : ℕ) → suc i + k ≡ i + suc k
    shifted i k = omega arith

-- ---- whole seconds

pub minus_is : (n : ℕ) → pos 0 -ℤ pos n ≡ neg_ℤ (pos n)
minus_is n = +ℤ_idl (neg_ℤ (pos n))

pub minus-fits : (n : ℕ) → n < 10 ^ 15 → SFits w64 (pos 0 -ℤ pos n)
minus-fits n h = subst (λ (z : ℤ). SFits w64 z) (sym (minus_is n)) (go n h)
  where
    go : (n : ℕ) → n < 10 ^ 15 → SFits w64 (neg_ℤ (pos n))
    go zero h = record { sfits = omega arith }
    go (suc n) h = record { sfits = omega arith }
