-- Tests as propositions, and flags put together. Assumes nothing.
use Rattle.std.proofs.Common.{◌≡◌, Bool, true, false, not, ◌&&◌, T, sym, refl, subst}

pub and_assoc : (a b c : Bool) → (a && (b && c)) ≡ ((a && b) && c)
and_assoc true b c = refl
and_assoc false b c = refl

pub and_true : (a : Bool) → (a && true) ≡ a
and_true true = refl
and_true false = refl

pub and_false : (a : Bool) → (a && false) ≡ false
and_false true = refl
and_false false = refl

pub yes : (a : Bool) → T a → a ≡ true
yes true h = refl
yes false h = absurd h

pub holds : {a : Bool} → a ≡ true → T a
holds e = subst T (sym e) tt

pub no : (a : Bool) → T (not a) → a ≡ false
no true h = absurd h
no false h = refl

pub fails : {a : Bool} → a ≡ false → T (not a)
fails e = subst (λ (b : Bool). T (not b)) (sym e) tt

pub pair : (a b : Bool) → T a → T b → T (a && b)
pair true b h k = k
pair false b h k = h

pub both_true : {a b : Bool} → a ≡ true → b ≡ true → (a && b) ≡ true
both_true e f = rw (e, f)

-- two flags are equal where each holds if the other does
pub same : (a b : Bool) → (T a → T b) → (T b → T a) → a ≡ b
same true true f g = refl
same true false f g = absurd (f tt)
same false true f g = absurd (g tt)
same false false f g = refl
