-- Lists kept and cut by tests.
-- Assumes nothing.
use mathlib.Core.Path.{◌≡◌, refl, ◌∙◌}
use mathlib.Core.Bool.{Bool, true, false, not, cond}
use mathlib.Core.List.{List, [], ◌∷◌, ◌++◌}
use lib.Dec.{T}
use Rattle.bars.specs.Lists.{All, keep_if, skip_while, init}

pub cond_yes : {A : Type 0} (t : Bool) (x y : A) → T t → cond t x y ≡ x
cond_yes true x y h = refl
cond_yes false x y h = absurd h

pub cond_no : {A : Type 0} (t : Bool) (x y : A) → T (not t) → cond t x y ≡ y
cond_no true x y h = absurd h
cond_no false x y h = refl

pub keep_yes : {A : Type 0} (p : A → Bool) (a : A) (l : List A) → T (p a) → keep_if p (a ∷ l) ≡ a ∷ keep_if p l
unfolding keep_if
keep_yes p a l h = cond_yes (p a) (a ∷ keep_if p l) (keep_if p l) h

pub keep_no : {A : Type 0} (p : A → Bool) (a : A) (l : List A) → T (not (p a)) → keep_if p (a ∷ l) ≡ keep_if p l
unfolding keep_if
keep_no p a l h = cond_no (p a) (a ∷ keep_if p l) (keep_if p l) h

pub keep_none : {A : Type 0} (p : A → Bool) (l : List A) → All (λ a. T (not (p a))) l → keep_if p l ≡ []
unfolding keep_if
keep_none p [] h = refl
keep_none p (a ∷ l) h = keep_no p a l h.0 ∙ keep_none p l h.1

pub skip_yes : {A : Type 0} (p : A → Bool) (a : A) (l : List A) → T (p a) → skip_while p (a ∷ l) ≡ skip_while p l
unfolding skip_while
skip_yes p a l h = cond_yes (p a) (skip_while p l) (a ∷ l) h

pub skip_no : {A : Type 0} (p : A → Bool) (a : A) (l : List A) → T (not (p a)) → skip_while p (a ∷ l) ≡ a ∷ l
unfolding skip_while
skip_no p a l h = cond_no (p a) (skip_while p l) (a ∷ l) h

pub All-map : {A : Type 0} {P Q : A → Type 0} (l : List A) → ((a : A) → P a → Q a) → All P l → All Q l
All-map [] f h = tt
All-map (a ∷ l) f h = (f a h.0, All-map l f h.1)

pub All-zip : {A : Type 0} {P Q R : A → Type 0} (l : List A) → ((a : A) → P a → Q a → R a) → All P l → All Q l → All R l
All-zip [] f h k = tt
All-zip (a ∷ l) f h k = (f a h.0 k.0, All-zip l f h.1 k.1)

pub All-append : {A : Type 0} (P : A → Type 0) (l r : List A) → All P l → All P r → All P (l ++ r)
All-append P [] r h k = k
All-append P (a ∷ l) r h k = (h.0, All-append P l r h.1 k)

pub All-left : {A : Type 0} (P : A → Type 0) (l r : List A) → All P (l ++ r) → All P l
All-left P [] r h = tt
All-left P (a ∷ l) r h = (h.0, All-left P l r h.1)

pub All-right : {A : Type 0} (P : A → Type 0) (l r : List A) → All P (l ++ r) → All P r
All-right P [] r h = h
All-right P (a ∷ l) r h = All-right P l r h.1

All_if : {A : Type 0} (P : A → Type 0) (t : Bool) (a : A) (l : List A) → P a → All P l → All P (cond t (a ∷ l) l)
All_if P true a l h k = (h, k)
All_if P false a l h k = k

pub All_keep : {A : Type 0} (P : A → Type 0) (p : A → Bool) (l : List A) → All P l → All P (keep_if p l)
unfolding keep_if
All_keep P p [] h = tt
All_keep P p (a ∷ l) h = All_if P (p a) a (keep_if p l) h.0 (All_keep P p l h.1)

All_skip_if : {A : Type 0} (P : A → Type 0) (t : Bool) (l r : List A) → All P l → All P r → All P (cond t l r)
All_skip_if P true l r h k = h
All_skip_if P false l r h k = k

pub All_skip : {A : Type 0} (P : A → Type 0) (p : A → Bool) (l : List A) → All P l → All P (skip_while p l)
unfolding skip_while
All_skip P p [] h = tt
All_skip P p (a ∷ l) h = All_skip_if P (p a) (skip_while p l) (a ∷ l) (All_skip P p l h.1) h

pub All-init : {A : Type 0} (P : A → Type 0) (l : List A) → All P l → All P (init l)
unfolding init
All-init P [] h = tt
All-init P (a ∷ []) h = tt
All-init P (a ∷ b ∷ l) h = (h.0, All-init P (b ∷ l) h.1)
