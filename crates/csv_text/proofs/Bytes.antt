-- Bytes of a text: whether it begins with one, its digits, and what is behind them. Assumes nothing.
use mathlib.Core.Path.{◌≡◌, refl, sym, ap, ◌∙◌}
use Prim.Native.Nat.{ℕ, zero, suc, ◌<◌}
use native.Mathlib.Nat.{zero-lt-suc}
use native.Mathlib.Omega.{arith}
use mathlib.Core.Bool.{Bool, true, false, not, ◌&&◌, cond, true≢false}
use mathlib.Core.List.{List, [], ◌∷◌, ◌++◌}
use lib.ListN.{length, drop}
use lib.Dec.{T, eqb, eqb→eq}
use lib.Ieee.Fits.{and_l, and_r}
use Rattle.arith.proofs.Tests.{yes, no, holds}
use Rattle.bars.specs.Lists.{skip_while}
use Rattle.csv_text.specs.Written.{is_digit, Digits, point_byte}
use Rattle.csv_text.specs.Reading.{begins, behind, digits_at, behind_digits}

-- ---- the first byte

pub begins-is : (b : ℕ) (t : List ℕ) → begins b t ≡ true → t ≡ b ∷ behind t
unfolding begins behind
begins-is b [] e = absurd (true≢false (sym e))
begins-is b (x ∷ l) e = ap (λ (z : ℕ). z ∷ l) (eqb→eq x b (holds e))

pub behind-drop : (t : List ℕ) (i : ℕ) → behind (drop i t) ≡ drop (suc i) t
unfolding behind
behind-drop [] zero = refl
behind-drop [] (suc i) = refl
behind-drop (x ∷ l) zero = refl
behind-drop (x ∷ l) (suc i) = behind-drop l i

-- where a byte is, the text goes on
pub begins-within : (b : ℕ) (t : List ℕ) (i : ℕ) → begins b (drop i t) ≡ true → i < length t
unfolding begins
begins-within b [] zero e = absurd (true≢false (sym e))
begins-within b [] (suc i) e = absurd (true≢false (sym e))
begins-within b (x ∷ l) zero e = zero-lt-suc (length l)
begins-within b (x ∷ l) (suc i) e = let h = begins-within b l i e in omega arith

-- ---- digits

pub digits_split : (t : List ℕ) → t ≡ digits_at t ++ behind_digits t
unfolding digits_at behind_digits skip_while
digits_split [] = refl
digits_split (x ∷ l) = go (is_digit x) (digits_split l)
  where
    go : (b : Bool) → l ≡ digits_at l ++ behind_digits l → x ∷ l ≡ cond b (x ∷ digits_at l) [] ++ cond b (skip_while is_digit l) (x ∷ l)
    go true e = ap {B = List ℕ} (λ r. x ∷ r) e
    go false e = refl

pub digits-all : (t : List ℕ) → Digits (digits_at t)
unfolding digits_at
digits-all [] = tt
digits-all (x ∷ l) = go (is_digit x) (λ h. h) (digits-all l)
  where
    go : (b : Bool) → (T b → T (is_digit x)) → Digits (digits_at l) → Digits (cond b (x ∷ digits_at l) [])
    go true f a = (f tt, a)
    go false f a = tt

-- no digit at the beginning
abbrev pub stops : List ℕ → Bool
stops [] = true
stops (x ∷ l) = not (is_digit x)

-- nor a point
abbrev pub free : List ℕ → Bool
free [] = true
free (x ∷ l) = not (is_digit x) && not (eqb x point_byte)

pub free_stops : (v : List ℕ) → T (free v) → T (stops v)
free_stops [] h = tt
free_stops (x ∷ l) h = and_l (not (is_digit x)) (not (eqb x point_byte)) h

pub free_point : (v : List ℕ) → T (free v) → begins point_byte v ≡ false
unfolding begins
free_point [] h = refl
free_point (x ∷ l) h = no (eqb x point_byte) (and_r (not (is_digit x)) (not (eqb x point_byte)) h)

pub digits-none : (v : List ℕ) → T (stops v) → digits_at v ≡ []
unfolding digits_at
digits-none [] h = refl
digits-none (x ∷ l) h = ap (λ (b : Bool). cond b (x ∷ digits_at l) []) (no (is_digit x) h)

pub behind-none : (v : List ℕ) → T (stops v) → behind_digits v ≡ v
unfolding behind_digits skip_while
behind-none [] h = refl
behind-none (x ∷ l) h = ap (λ (b : Bool). cond b (skip_while is_digit l) (x ∷ l)) (no (is_digit x) h)

pub digits_cons : (x : ℕ) (l : List ℕ) → T (is_digit x) → digits_at (x ∷ l) ≡ x ∷ digits_at l
unfolding digits_at
digits_cons x l h = ap (λ (b : Bool). cond b (x ∷ digits_at l) []) (yes (is_digit x) h)

pub behind_cons : (x : ℕ) (l : List ℕ) → T (is_digit x) → behind_digits (x ∷ l) ≡ behind_digits l
unfolding behind_digits skip_while
behind_cons x l h = ap (λ (b : Bool). cond b (skip_while is_digit l) (x ∷ l)) (yes (is_digit x) h)

-- digits before a text without one are read, all of them
pub digits-back : (ds v : List ℕ) → Digits ds → T (stops v) → digits_at (ds ++ v) ≡ ds
digits-back [] v a h = digits-none v h
digits-back (d ∷ ds) v a h = digits_cons d (ds ++ v) a.0 ∙ ap {B = List ℕ} (λ r. d ∷ r) (digits-back ds v a.1 h)

pub behind-back : (ds v : List ℕ) → Digits ds → T (stops v) → behind_digits (ds ++ v) ≡ v
behind-back [] v a h = behind-none v h
behind-back (d ∷ ds) v a h = behind_cons d (ds ++ v) a.0 ∙ behind-back ds v a.1 h
