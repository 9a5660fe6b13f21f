-- The placed fractals stand at their places, one after another; and what a place says of times where times rise.
-- Assumes nothing.
use Prim.Native.Nat.{ℕ, zero, suc, ◌+◌, ◌≤◌, ◌<◌}
use native.Mathlib.Omega.{arith}
use mathlib.Core.Path.{◌≡◌, refl, ap, sym, ◌∙◌, subst}
use mathlib.Core.Bool.{Bool, true, false, not, ◌&&◌, cond}
use mathlib.Core.List.{List, [], ◌∷◌, map, nil≢cons, head-eq_of_cons-eq}
use mathlib.Core.Option
use mathlib.Core.Option.{Option, none, some, some-injective, none-ne-some}
use lib.ListN.{length, take, drop, length-drop}
use lib.Seq.{drop-nil}
use lib.IntN.{ℤ}
use lib.Signed.{lt_z, le_z}
use lib.Dec.{T}
use Rattle.bars.specs.Bars.{Merged}
use Rattle.bars.specs.Lists.{All, keep_if}
use Rattle.machine.specs.declared.Mark.{Mark}
use Rattle.machine.specs.declared.Mark.TheVariants.{D, G}
use Rattle.machine.specs.Fractals.{Fractal, Placed, same_mark, beyond, fx_of, is_top, is_bottom, check_fx, taken, push_if, pushed, fxs_after, placed_if, placed_by, placed_after}
use Rattle.machine.specs.Strokes.{best_if, best, end_of, start_best}
use Rattle.machine.specs.ByTime.{from}
use Rattle.machine.specs.Rising.{Rising}
use Rattle.bars.proofs.Times as times
use Rattle.machine.proofs.Lists.{keep_yes, keep_none, skip_yes, skip_no, All-map}

abbrev time : Merged → ℤ
time k = k.bar.time

abbrev pub fractal : Placed → Fractal
fractal f = f.fractal

-- ---- the placed fractals are the fractals

placed_if_lem : (t : Bool) (i : ℕ) (f : Fractal) (p : Option Mark) (rest : Option Mark → List Placed) (rest' : Option Mark → List Fractal)
    → ((q : Option Mark) → map fractal (rest q) ≡ rest' q) → map fractal (placed_if t i f p rest) ≡ push_if t f p rest'
unfolding placed_if push_if
placed_if_lem true i f p rest rest' h = ap (f ∷◌) (h (some f.mark))
placed_if_lem false i f p rest rest' h = h p

placed_by_lem : (p : Option Mark) (i : ℕ) (o : Option Fractal) (rest : Option Mark → List Placed) (rest' : Option Mark → List Fractal)
    → ((q : Option Mark) → map fractal (rest q) ≡ rest' q) → map fractal (placed_by p i o rest) ≡ pushed p o rest'
unfolding placed_by pushed
placed_by_lem p i none rest rest' h = h p
placed_by_lem p i (some f) rest rest' h = placed_if_lem (taken p f.mark) i f p rest rest' h

pub placed_are : (p : Option Mark) (i : ℕ) (l : List Merged) → map (λ f. f.fractal) (placed_after p i l) ≡ fxs_after p l
unfolding placed_after fxs_after
placed_are p i [] = refl
placed_are p i (a ∷ []) = refl
placed_are p i (a ∷ b ∷ []) = refl
placed_are p i (a ∷ b ∷ c ∷ l) =
    placed_by_lem p i (check_fx a b c) (λ q. placed_after q (suc i) (b ∷ c ∷ l)) (λ q. fxs_after q (b ∷ c ∷ l)) (λ q. placed_are q (suc i) (b ∷ c ∷ l))

-- ---- where they stand

-- the bars from f's place on begin with f's three
pub record Stands (l : List Merged) (f : Placed) : Type 0 where
  pub after : List Merged
  pub is : drop f.place l ≡ f.fractal.left ∷ f.fractal.mid ∷ f.fractal.right ∷ after
  pub shown : check_fx f.fractal.left f.fractal.mid f.fractal.right ≡ some f.fractal

-- the places of fs rise from lo on, and each has three bars among n
abbrev pub Ascend : ℕ → ℕ → List Placed → Type 0
Ascend lo n [] = Unit {0}
Ascend lo n (f ∷ fs) = lo ≤ f.place × f.place + 2 < n × Ascend (suc f.place) n fs

pub next : (l : List Merged) (i : ℕ) (a : Merged) (r : List Merged) → drop i l ≡ a ∷ r → drop (suc i) l ≡ r
next [] i a r e = absurd (nil≢cons (sym (drop-nil i) ∙ e))
next (x ∷ l) zero a r e = ap (drop 1) e
next (x ∷ l) (suc i) a r e = next l i a r e

pub fits : (l : List Merged) (i : ℕ) (a b c : Merged) (r : List Merged) → drop i l ≡ a ∷ b ∷ c ∷ r → i + 2 < length l
fits l i a b c r e = omega (arith, length-drop i l, ap length e)

-- what holds of each fractal that a window may add and of those of the later windows
if_all : (P : Placed → Type 0) (t : Bool) (i : ℕ) (f : Fractal) (p : Option Mark) (rest : Option Mark → List Placed)
    → P (record { place = i; fractal = f }) → ((q : Option Mark) → All P (rest q)) → All P (placed_if t i f p rest)
unfolding placed_if
if_all P true i f p rest h r = (h, r (some f.mark))
if_all P false i f p rest h r = r p

by_all : (P : Placed → Type 0) (p : Option Mark) (i : ℕ) (o : Option Fractal) (rest : Option Mark → List Placed)
    → ((f : Fractal) → o ≡ some f → P (record { place = i; fractal = f })) → ((q : Option Mark) → All P (rest q)) → All P (placed_by p i o rest)
unfolding placed_by
by_all P p i none rest h r = r p
by_all P p i (some f) rest h r = if_all P (taken p f.mark) i f p rest (h f refl) r

-- a fractal is its window
check_if : (t u : Bool) (a b c : Merged) (f : Fractal)
    → cond t (some (record { mark = G; left = a; mid = b; right = c })) (cond u (some (record { mark = D; left = a; mid = b; right = c })) none) ≡ some f
    → (a ≡ f.left) × (b ≡ f.mid) × (c ≡ f.right)
check_if true u a b c f e =
    let q : record { mark = G; left = a; mid = b; right = c } ≡ f = some-injective _ _ e in
    (ap (λ z. z.left) q, ap (λ z. z.mid) q, ap (λ z. z.right) q)
check_if false true a b c f e =
    let q : record { mark = D; left = a; mid = b; right = c } ≡ f = some-injective _ _ e in
    (ap (λ z. z.left) q, ap (λ z. z.mid) q, ap (λ z. z.right) q)
check_if false false a b c f e = absurd (none-ne-some f e)

pub check_is : (a b c : Merged) (f : Fractal) → check_fx a b c ≡ some f → (a ≡ f.left) × (b ≡ f.mid) × (c ≡ f.right)
unfolding check_fx
check_is a b c f e = check_if (is_top a.bar b.bar c.bar) (is_bottom a.bar b.bar c.bar) a b c f e

stands_here : (l : List Merged) (i : ℕ) (a b c : Merged) (r : List Merged) (f : Fractal) → drop i l ≡ a ∷ b ∷ c ∷ r → check_fx a b c ≡ some f
    → Stands l (record { place = i; fractal = f })
stands_here l i a b c r f e h =
    let w = check_is a b c f h in
    record {
      after = r;
      is = e ∙ (λ k. w.0 k ∷ w.1 k ∷ w.2 k ∷ r);
      shown = sym (λ k. check_fx (w.0 k) (w.1 k) (w.2 k)) ∙ h;
    }

pub placed-stand : (l : List Merged) (p : Option Mark) (i : ℕ) (k : List Merged) → drop i l ≡ k → All (Stands l) (placed_after p i k)
unfolding placed_after
placed-stand l p i [] e = tt
placed-stand l p i (a ∷ []) e = tt
placed-stand l p i (a ∷ b ∷ []) e = tt
placed-stand l p i (a ∷ b ∷ c ∷ k) e =
    by_all (Stands l) p i (check_fx a b c) (λ q. placed_after q (suc i) (b ∷ c ∷ k)) (λ f h. stands_here l i a b c k f e h)
    (λ q. placed-stand l q (suc i) (b ∷ c ∷ k) (next l i a (b ∷ c ∷ k) e))

pub ascend_weaken : (lo lo' n : ℕ) (fs : List Placed) → lo' ≤ lo → Ascend lo n fs → Ascend lo' n fs
ascend_weaken lo lo' n [] h a = tt
ascend_weaken lo lo' n (f ∷ fs) h a = (omega (arith, a.0), a.1, a.2)

ascend_if : (t : Bool) (i n : ℕ) (f : Fractal) (p : Option Mark) (rest : Option Mark → List Placed) → i + 2 < n
    → ((q : Option Mark) → Ascend (suc i) n (rest q)) → Ascend i n (placed_if t i f p rest)
unfolding placed_if
ascend_if true i n f p rest h r = (omega arith, h, r (some f.mark))
ascend_if false i n f p rest h r = ascend_weaken (suc i) i n (rest p) (omega arith) (r p)

ascend_by : (p : Option Mark) (i n : ℕ) (o : Option Fractal) (rest : Option Mark → List Placed) → i + 2 < n
    → ((q : Option Mark) → Ascend (suc i) n (rest q)) → Ascend i n (placed_by p i o rest)
unfolding placed_by
ascend_by p i n none rest h r = ascend_weaken (suc i) i n (rest p) (omega arith) (r p)
ascend_by p i n (some f) rest h r = ascend_if (taken p f.mark) i n f p rest h r

pub placed_ascend : (l : List Merged) (p : Option Mark) (i : ℕ) (k : List Merged) → drop i l ≡ k → Ascend i (length l) (placed_after p i k)
unfolding placed_after
placed_ascend l p i [] e = tt
placed_ascend l p i (a ∷ []) e = tt
placed_ascend l p i (a ∷ b ∷ []) e = tt
placed_ascend l p i (a ∷ b ∷ c ∷ k) e =
    ascend_by p i (length l) (check_fx a b c) (λ q. placed_after q (suc i) (b ∷ c ∷ k)) (fits l i a b c k e)
    (λ q. placed_ascend l q (suc i) (b ∷ c ∷ k) (next l i a (b ∷ c ∷ k) e))

-- those that rise from lo on are all at lo or later
pub ascend_from : (lo n : ℕ) (fs : List Placed) → Ascend lo n fs → All (λ f. lo ≤ f.place) fs
ascend_from lo n [] a = tt
ascend_from lo n (f ∷ fs) a = (a.0, ascend_from lo n fs (ascend_weaken (suc f.place) lo n fs (omega (arith, a.0)) a.2))

-- ---- the best of a list is one of it

-- what holds of what is there, if anything is
abbrev pub Holds : {A : Type 0} → (A → Type 0) → Option A → Type 0
Holds P none = Unit {0}
Holds P (some a) = P a

best_if_lem : {A : Type 0} (P : A → Type 0) (t : Bool) (f b : A) → P f → P b → P (best_if t f b)
unfolding best_if
best_if_lem P true f b h k = h
best_if_lem P false f b h k = k

pub best-all : {A : Type 0} (P : A → Type 0) (at : A → Fractal) (b : A) (l : List A) → P b → All P l → P (best at b l)
unfolding best
best-all P at b [] h a = h
best-all P at b (f ∷ l) h a =
    let t = beyond (at f).mark (fx_of (at f)) (fx_of (at b)) in
    best-all P at (best_if t f b) l (best_if_lem P t f b a.0 h) a.1

pub end-all : {A : Type 0} (P : A → Type 0) (at : A → Fractal) (l : List A) → All P l → Holds P (end_of at l)
unfolding end_of
end-all P at [] a = tt
end-all P at (f ∷ l) a = best-all P at f l a.0 a.1

pub start-all : {A : Type 0} (P : A → Type 0) (at : A → Fractal) (b : A) (l : List A) → P b → All P l → P (start_best at b l)
unfolding start_best
start-all P at b [] h a = h
start-all P at b (f ∷ l) h a =
    let t = same_mark (at b).mark (at f).mark && not (beyond (at b).mark (fx_of (at b)) (fx_of (at f))) in
    start-all P at (best_if t f b) l (best_if_lem P t f b a.0 h) a.1

-- ---- reading a list first changes nothing

best_if_along : {A B : Type 0} (g : A → B) (t : Bool) (f b : A) → g (best_if t f b) ≡ best_if t (g f) (g b)
unfolding best_if
best_if_along g true f b = refl
best_if_along g false f b = refl

pub best_along : {A : Type 0} (at : A → Fractal) (b : A) (l : List A) → at (best at b l) ≡ best (λ f. f) (at b) (map at l)
unfolding best
best_along at b [] = refl
best_along at b (f ∷ l) =
    let t = beyond (at f).mark (fx_of (at f)) (fx_of (at b)) in
    best_along at (best_if t f b) l ∙ ap (λ (z : Fractal). best (λ g. g) z (map at l)) (best_if_along at t f b)

pub end_along : {A : Type 0} (at : A → Fractal) (l : List A) → Option.map at (end_of at l) ≡ end_of (λ f. f) (map at l)
unfolding end_of
end_along at [] = refl
end_along at (f ∷ l) = ap some (best_along at f l)

pub start_along : {A : Type 0} (at : A → Fractal) (a : A) (l : List A) → at (start_best at a l) ≡ start_best (λ f. f) (at a) (map at l)
unfolding start_best
start_along at a [] = refl
start_along at a (f ∷ l) =
    let t = same_mark (at a).mark (at f).mark && not (beyond (at a).mark (fx_of (at a)) (fx_of (at f))) in
    start_along at (best_if t f a) l ∙ ap (λ (z : Fractal). start_best (λ g. g) z (map at l)) (best_if_along at t f a)

keep_if_along : {A B : Type 0} (g : A → B) (t : Bool) (a : A) (k : List A) (m : List B) → map g k ≡ m → map g (cond t (a ∷ k) k) ≡ cond t (g a ∷ m) m
keep_if_along g true a k m e = ap (g a ∷◌) e
keep_if_along g false a k m e = e

pub keep_along : {A B : Type 0} (g : A → B) (p : B → Bool) (l : List A) → map g (keep_if (λ a. p (g a)) l) ≡ keep_if p (map g l)
unfolding keep_if
keep_along g p [] = refl
keep_along g p (a ∷ l) = keep_if_along g (p (g a)) a (keep_if (λ z. p (g z)) l) (keep_if p (map g l)) (keep_along g p l)

-- tests that agree on a list keep the same of it
keep_if-same : {A : Type 0} (t u : Bool) (a : A) (k m : List A) → t ≡ u → k ≡ m → cond t (a ∷ k) k ≡ cond u (a ∷ m) m
keep_if-same t u a k m e h = λ i. cond (e i) (a ∷ h i) (h i)

pub keep_same : {A : Type 0} (p q : A → Bool) (l : List A) → All (λ a. p a ≡ q a) l → keep_if p l ≡ keep_if q l
unfolding keep_if
keep_same p q [] h = refl
keep_same p q (a ∷ l) h = keep_if-same (p a) (q a) a (keep_if p l) (keep_if q l) h.0 (keep_same p q l h.1)

-- ---- where times rise, a place says which bars are earlier

pub All-at : {A : Type 0} (P : A → Type 0) (l : List A) (i : ℕ) (x : A) (r : List A) → All P l → drop i l ≡ x ∷ r → P x
All-at P [] i x r a e = absurd (nil≢cons (sym (drop-nil i) ∙ e))
All-at P (y ∷ l) zero x r a e = subst P (head-eq_of_cons-eq e) a.0
All-at P (y ∷ l) (suc i) x r a e = All-at P l i x r a.1 e

pub rising-drop : (l : List Merged) (i : ℕ) → Rising l → Rising (drop i l)
rising-drop [] zero h = h
rising-drop [] (suc i) h = h
rising-drop (x ∷ l) zero h = h
rising-drop (x ∷ l) (suc i) h = rising-drop l i h.1

-- of two bars, the one at the earlier place is earlier
pub earlier : (l : List Merged) (i j : ℕ) (x y : Merged) (r q : List Merged) → Rising l → i < j → drop i l ≡ x ∷ r → drop j l ≡ y ∷ q → T (lt_z (time x) (time y))
earlier [] i j x y r q h k e f = absurd (nil≢cons (sym (drop-nil i) ∙ e))
earlier (z ∷ l) zero zero x y r q h k e f = absurd (omega arith)
earlier (z ∷ l) zero (suc j) x y r q h k e f = subst (λ w. T (lt_z (time w) (time y))) (head-eq_of_cons-eq e) (All-at (λ w. T (lt_z (time z) (time w))) l j y q h.0 f)
earlier (z ∷ l) (suc i) zero x y r q h k e f = absurd (omega arith)
earlier (z ∷ l) (suc i) (suc j) x y r q h k e f = earlier l i j x y r q h.1 (omega arith) e f

pub not-later : (l : List Merged) (i j : ℕ) (x y : Merged) (r q : List Merged) → Rising l → i ≤ j → drop i l ≡ x ∷ r → drop j l ≡ y ∷ q → T (le_z (time x) (time y))
not-later [] i j x y r q h k e f = absurd (nil≢cons (sym (drop-nil i) ∙ e))
not-later (z ∷ l) zero zero x y r q h k e f =
    let s = sym (head-eq_of_cons-eq e) ∙ head-eq_of_cons-eq f in
    subst (λ w. T (le_z (time x) (time w))) s (times.le_refl (time x))
not-later (z ∷ l) zero (suc j) x y r q h k e f = times.lt-le (time x) (time y) (earlier (z ∷ l) zero (suc j) x y r q h (omega arith) e f)
not-later (z ∷ l) (suc i) zero x y r q h k e f = absurd (omega arith)
not-later (z ∷ l) (suc i) (suc j) x y r q h k e f = not-later l i j x y r q h.1 (omega arith) e f

pub from_skip : (t : ℤ) (x : Merged) (l : List Merged) → T (lt_z (time x) t) → from t (x ∷ l) ≡ from t l
unfolding from
from_skip t x l h = skip_yes (λ k. lt_z k.bar.time t) x l h

pub from_stop : (t : ℤ) (x : Merged) (l : List Merged) → T (le_z t (time x)) → from t (x ∷ l) ≡ x ∷ l
unfolding from
from_stop t x l h = skip_no (λ k. lt_z k.bar.time t) x l (times.le_not_lt (time x) t h)

-- the bars from the time of the bar at place i on are those from place i on
pub from_place : (l : List Merged) (i : ℕ) (x : Merged) (r : List Merged) → Rising l → drop i l ≡ x ∷ r → from (time x) l ≡ drop i l
from_place [] i x r h e = absurd (nil≢cons (sym (drop-nil i) ∙ e))
from_place (y ∷ l) zero x r h e = from_stop (time x) y l (subst (λ k. T (le_z (time k) (time y))) (head-eq_of_cons-eq e) (times.le_refl (time y)))
from_place (y ∷ l) (suc i) x r h e = from_skip (time x) y l (All-at (λ k. T (lt_z (time y) (time k))) l i x r h.0 e) ∙ from_place l i x r h.1 e

-- the bars not later than the bar at place j are the first j + 1
pub up_to_place : (m : List Merged) (j : ℕ) (x : Merged) (r : List Merged) → Rising m → drop j m ≡ x ∷ r → keep_if (λ k. le_z (time k) (time x)) m ≡ take (suc j) m
unfolding keep_if
up_to_place [] j x r h e = refl
up_to_place (y ∷ m) zero x r h e =
    let p : Merged → Bool = λ k. le_z (time k) (time x) in
    let s = head-eq_of_cons-eq e in
    keep_yes p y m (subst (λ k. T (le_z (time y) (time k))) s (times.le_refl (time y)))
    ∙ ap (y ∷◌) (keep_none p m (All-map m (λ k a. times.lt_not_le (time k) (time x) (subst (λ w. T (lt_z (time w) (time k))) s a)) h.0))
up_to_place (y ∷ m) (suc j) x r h e =
    keep_yes (λ k. le_z (time k) (time x)) y m (times.lt-le (time y) (time x) (All-at (λ k. T (lt_z (time y) (time k))) m j x r h.0 e))
    ∙ ap (y ∷◌) (up_to_place m j x r h.1 e)
