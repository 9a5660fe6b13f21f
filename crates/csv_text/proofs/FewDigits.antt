-- Question 19 by the whole number that the digits make: at most 15 without the leading zeros where it is below 10^15. Assumes nothing.
use mathlib.Core.Path.{◌≡◌, refl, sym, ap, ◌∙◌, subst}
use Prim.Native.Nat.{ℕ, ◌+◌, ◌-◌, ◌*◌, ◌^◌, ◌≤◌, ◌<◌}
use native.Mathlib.Nat.{min-eq_left, min-eq_right, le_trans, lt_of_lt_of_le, le_of_lt, pow-succ', pow-le-pow_right, zero-lt-suc, mul-le-mul_left, mul-le-mul_right, one-mul, lt_irrefl, not-le_of_lt}
use native.Mathlib.Omega.{arith}
use mathlib.Core.Logic.{inl, inr}
use mathlib.Core.Bool.{Bool, true, false, not, cond}
use mathlib.Core.List.{List, [], ◌∷◌, ◌++◌}
use lib.ListN.{length}
use lib.Dec.{T, leb, ltb, eqb, leb→le, ltb→lt, lt→ltb, eqb→eq, T_not, lit<, lit≤}
use lib.Ieee.Fits.{and_l, and_r}
use borrow.Author.Tests.{le-leb}
use Rattle.arith.proofs.Tests.{same, holds}
use Rattle.arith.proofs.FloatOrder.{lt-or_ge}
use Rattle.bars.specs.Lists.{fold_left, skip_while}
use Rattle.csv_text.specs.Written.{is_digit, Digits}
use Rattle.csv_text.specs.Values.{tenfold, whole_number, significant}
use Rattle.csv_text.specs.Code.Numerals.{at_most, with_digit}

-- ---- a digit

pub digit_bounds : (d : ℕ) → T (is_digit d) → (48 ≤ d) × (d ≤ 57)
unfolding is_digit
digit_bounds d h = (leb→le 48 d (and_l (leb 48 d) (leb d 57) h), leb→le d 57 (and_r (leb 48 d) (leb d 57) h))

-- ---- the whole number of n and digits behind it

-- n * 10^k ≤ x < (n + 1) * 10^k, where k is how many there are
pub fold_bounds : (ds : List ℕ) (n : ℕ) → Digits ds → (n * 10 ^ length ds ≤ fold_left tenfold n ds) × (fold_left tenfold n ds < (n + 1) * 10 ^ length ds)
unfolding fold_left
fold_bounds [] n a = (omega arith, omega arith)
fold_bounds (d ∷ ds) n a =
    let b = digit_bounds d a.0 in
    let r = fold_bounds ds (tenfold n d) a.1 in
    let x = fold_left tenfold (tenfold n d) ds in
    subst (λ (q : ℕ). (n * q ≤ x) × (x < (n + 1) * q)) (sym (pow-succ' 10 (length ds)))
    (le_trans (low n (d - 48) (10 ^ length ds)) r.0, lt_of_lt_of_le r.1 (high n (d - 48) (10 ^ length ds) (omega arith)))
  where
    low : (n e p : ℕ) → n * (10 * p) ≤ (n * 10 + e) * p
    low n e p = omega arith

    high : (n e p : ℕ) → e ≤ 9 → (n * 10 + e + 1) * p ≤ (n + 1) * (10 * p)
    high n e p h = subst (λ (z : ℕ). (n * 10 + e + 1) * p ≤ z) (tens n p) (mul-le-mul_right p (next n e h))
      where
        next : (n e : ℕ) → e ≤ 9 → n * 10 + e + 1 ≤ (n + 1) * 10
        next n e h = omega arith

        tens : (n p : ℕ) → (n + 1) * 10 * p ≡ (n + 1) * (10 * p)
        tens n p = omega arith

-- leading zeros make nothing of it
pub significant-same : (ds : List ℕ) → whole_number (significant ds) ≡ whole_number ds
unfolding whole_number significant skip_while fold_left
significant-same [] = refl
significant-same (d ∷ ds) = go (eqb d 48) (eqb→eq d 48) (significant-same ds)
  where
    go : (b : Bool) → (T b → d ≡ 48) → whole_number (significant ds) ≡ whole_number ds → whole_number (cond b (significant ds) (d ∷ ds)) ≡ whole_number (d ∷ ds)
    go true f e = e ∙ ap (λ (z : ℕ). fold_left tenfold (tenfold 0 z) ds) (sym (f tt))
    go false f e = refl

-- and without them the first digit is not zero
abbrev NoZero : List ℕ → Type 0
NoZero [] = Unit {0}
NoZero (d ∷ l) = (48 < d) × (d ≤ 57) × Digits l

significant-first : (ds : List ℕ) → Digits ds → NoZero (significant ds)
unfolding significant skip_while
significant-first [] a = tt
significant-first (d ∷ ds) a = go (eqb d 48) (eq→eqb' d) (digit_bounds d a.0) (significant-first ds a.1)
  where
    eq→eqb' : (d : ℕ) → T (not (eqb d 48)) → d ≡ 48 → ⊥
    eq→eqb' d n e = T_not (eqb d 48) n (subst (λ (z : ℕ). T (eqb z 48)) (sym e) tt)

    above : (d : ℕ) → 48 ≤ d → (d ≡ 48 → ⊥) → 48 < d
    above d h n = omega arith

    go : (b : Bool) → (T (not b) → d ≡ 48 → ⊥) → (48 ≤ d) × (d ≤ 57) → NoZero (significant ds) → NoZero (cond b (significant ds) (d ∷ ds))
    go true f h e = e
    go false f h e = (above d h.0 (f tt), h.1, a.1)

-- so their number tells whether the whole number is below 10^15
few-below : (l : List ℕ) → NoZero l → length l ≤ 15 → whole_number l < 1000000000000000
unfolding whole_number fold_left
few-below [] z h = lit< tt
few-below (d ∷ l) z h =
    below (d - 48) (10 ^ length l) (fold_left tenfold (tenfold 0 d) l) (omega arith) (pow-le-pow_right (zero-lt-suc 9) {i = length l} {j = 14} (omega arith)) (fold_bounds l (tenfold 0 d) z.2).1
  where
    below : (e p x : ℕ) → e ≤ 9 → p ≤ 100000000000000 → x < (0 * 10 + e + 1) * p → x < 1000000000000000
    below e p x h g u = lt_of_lt_of_le u (le_trans (mul-le-mul_right p (small e h)) (mul-le-mul_left 10 g))
      where
        small : (e : ℕ) → e ≤ 9 → 0 * 10 + e + 1 ≤ 10
        small e h = omega arith

many_above : (l : List ℕ) → NoZero l → 15 < length l → 1000000000000000 ≤ whole_number l
unfolding whole_number fold_left
many_above [] z h = absurd (omega arith)
many_above (d ∷ l) z h =
    above (d - 48) (10 ^ length l) (fold_left tenfold (tenfold 0 d) l) (omega arith) (pow-le-pow_right (zero-lt-suc 9) {i = 15} {j = length l} (omega arith)) (fold_bounds l (tenfold 0 d) z.2).0
  where
    above : (e p x : ℕ) → 1 ≤ e → 1000000000000000 ≤ p → (0 * 10 + e) * p ≤ x → 1000000000000000 ≤ x
    above e p x h g u = le_trans g (le_trans (once e p h) u)
      where
        once : (e p : ℕ) → 1 ≤ e → p ≤ (0 * 10 + e) * p
        once e p h = subst (λ (z : ℕ). z ≤ (0 * 10 + e) * p) (one-mul p) (mul-le-mul_right p (up e h))
          where
            up : (e : ℕ) → 1 ≤ e → 1 ≤ 0 * 10 + e
            up e h = omega arith

-- ---- the sum that stops at 10^15

pub capped_below : (n : ℕ) → ltb (at_most n) 1000000000000000 ≡ ltb n 1000000000000000
capped_below n =
    same (ltb (at_most n) 1000000000000000) (ltb n 1000000000000000)
    (λ t. lt→ltb n _ (out (ltb→lt (at_most n) _ t)))
    (λ t. lt→ltb (at_most n) _ (le-lt (ltb→lt n _ t)))
  where
    le-lt : n < 1000000000000000 → at_most n < 1000000000000000
    le-lt h = subst (λ (z : ℕ). z < 1000000000000000) (sym (min-eq_left (le_of_lt h))) h

    out : at_most n < 1000000000000000 → n < 1000000000000000
    out h = elim (lt-or_ge n 1000000000000000) [
      | inl l ↦ l
      | inr g ↦ absurd (lt_irrefl 1000000000000000 (subst (λ (z : ℕ). z < 1000000000000000) (min-eq_right g) h))
    ]

-- a digit more, of a number that stopped
capped_tenfold : (n e : ℕ) → at_most (at_most n * 10 + e) ≡ at_most (n * 10 + e)
capped_tenfold n e = elim (lt-or_ge n 1000000000000000) [
  | inl l ↦ ap (λ (z : ℕ). at_most (z * 10 + e)) (min-eq_left (le_of_lt l))
  | inr g ↦ ap (λ (z : ℕ). at_most (z * 10 + e)) (min-eq_right g) ∙ min-eq_right (top e) ∙ sym (min-eq_right (over n e g))
]
  where
    top : (e : ℕ) → 1000000000000000 ≤ 1000000000000000 * 10 + e
    top e = omega arith

    over : (n e : ℕ) → 1000000000000000 ≤ n → 1000000000000000 ≤ n * 10 + e
    over n e g = omega arith

pub capped_fold : (ds : List ℕ) (n : ℕ) → fold_left with_digit (at_most n) ds ≡ at_most (fold_left tenfold n ds)
unfolding fold_left with_digit
capped_fold [] n = refl
capped_fold (d ∷ ds) n = ap (λ (z : ℕ). fold_left with_digit z ds) (capped_tenfold n (d - 48)) ∙ capped_fold ds (tenfold n d)

pub fold_append : {A B : Type 0} (f : B → A → B) (a b : List A) (s : B) → fold_left f s (a ++ b) ≡ fold_left f (fold_left f s a) b
unfolding fold_left
fold_append f [] b s = refl
fold_append f (x ∷ a) b s = fold_append f a b (f s x)

-- the digits that the code keeps
pub whole_capped : (ds : List ℕ) → fold_left with_digit 0 ds ≡ at_most (whole_number ds)
unfolding whole_number
whole_capped ds = ap (λ (z : ℕ). fold_left with_digit z ds) (sym (min-eq_left (lit≤ {m = 0} {n = 1000000000000000} tt))) ∙ capped_fold ds 0

-- ---- question 19 of one number

pub few-is : (ds : List ℕ) → Digits ds → ltb (at_most (whole_number ds)) 1000000000000000 ≡ leb (length (significant ds)) 15
few-is ds a =
    let z = significant-first ds a in
    capped_below (whole_number ds)
    ∙ same (ltb (whole_number ds) 1000000000000000) (leb (length (significant ds)) 15)
    (λ t. le→leb' (few z (ltb→lt (whole_number ds) _ t)))
    (λ t. lt→ltb (whole_number ds) _ (subst (λ (n : ℕ). n < 1000000000000000) (significant-same ds) (few-below (significant ds) z (leb→le (length (significant ds)) 15 t))))
  where
    le→leb' : length (significant ds) ≤ 15 → T (leb (length (significant ds)) 15)
    le→leb' h = holds (le-leb (length (significant ds)) 15 h)

    few : NoZero (significant ds) → whole_number ds < 1000000000000000 → length (significant ds) ≤ 15
    few z h = elim (lt-or_ge 15 (length (significant ds))) [
      | inl m ↦ absurd (not-le_of_lt h (subst (λ (n : ℕ). 1000000000000000 ≤ n) (significant-same ds) (many_above (significant ds) z m)))
      | inr l ↦ l
    ]
