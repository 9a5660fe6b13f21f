-- Functions of lists that the library lacks. Lists are oldest first. Definitions only.
use Rattle.std.specs.Prelude.{ℕ, ◌+◌, Bool, true, false, ◌&&◌, ◌||◌, cond, List, [], ◌∷◌, ◌++◌, take, drop}
use Rattle.std.proofs.Math.Option.{Option, none, some}

-- the elements that pass
unfoldable pub keep_if : {A : Type 0} → (A → Bool) → List A → List A
keep_if p [] = []
keep_if p (a ∷ l) = let r = keep_if p l in cond (p a) (a ∷ r) r

-- from the first that fails on
unfoldable pub skip_while : {A : Type 0} → (A → Bool) → List A → List A
skip_while p [] = []
skip_while p (a ∷ l) = let r = skip_while p l in cond (p a) r (a ∷ l)

-- from the left
unfoldable pub fold_left : {A B : Type 0} → (B → A → B) → B → List A → B
fold_left f b [] = b
fold_left f b (a ∷ l) = fold_left f (f b a) l

unfoldable pub last : {A : Type 0} → List A → Option A
last [] = none
last (a ∷ []) = some a
last (a ∷ b ∷ l) = last (b ∷ l)

-- all but the last
unfoldable pub init : {A : Type 0} → List A → List A
init [] = []
init (a ∷ []) = []
init (a ∷ b ∷ l) = a ∷ init (b ∷ l)

unfoldable pub join : {A : Type 0} → List (List A) → List A
join [] = []
join (a ∷ l) = a ++ join l

-- d with its n rows from place `at` on replaced by the n rows of s from place `from` on; all other rows of d stay
unfoldable pub copied : {A : Type 0} → List A → ℕ → List A → ℕ → ℕ → List A
copied d at s from n = take at d ++ take n (drop from s) ++ drop (at + n) d

-- whether each element passes
unfoldable pub every : {A : Type 0} → (A → Bool) → List A → Bool
every p [] = true
every p (a ∷ l) = p a && every p l

-- whether an element passes
unfoldable pub some_of : {A : Type 0} → (A → Bool) → List A → Bool
some_of p [] = false
some_of p (a ∷ l) = p a || some_of p l

-- each element has P
abbrev pub All : {A : Type 0} → (A → Type 0) → List A → Type 0
All P [] = Unit {0}
All P (a ∷ l) = P a × All P l
