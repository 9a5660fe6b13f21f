-- Bars that were merged bar by bar behind those before them, and that no element was lost of: merged again, they come out as they were.
-- Assumes nothing.
use Prim.Native.Nat.{ℕ, zero, suc, ◌≤◌}
use native.Mathlib.Omega.{arith}
use mathlib.Core.Path.{◌≡◌, refl, ap, sym, ◌∙◌, subst}
use mathlib.Core.Bool.{Bool, true, false, ◌&&◌, cond}
use mathlib.Core.List.{List, [], ◌∷◌, ◌++◌, append_assoc}
use mathlib.Core.Logic.{◌⊎◌, inl, inr}
use lib.ListN.{length, take}
use lib.IntN.{ℤ}
use lib.Signed.{le_z}
use lib.Dec.{T}
use lib.Ieee.{lt}
use Rattle.bars.specs.Lists.{All, keep_if, fold_left}
use Rattle.bars.specs.declared.Bar.{Bar}
use Rattle.bars.specs.Bars.{Merged, own}
use Rattle.bars.specs.Merging.{united, contains, merged_up, merged_down, settle, remove_include, merge_in, at_times}
use Rattle.machine.proofs.Lists.{All-left, All-right}
use Rattle.machine.proofs.StrokesBefore.{Two, two-merged}
use Rattle.machine.proofs.NewestLast.{fold_snoc}

-- c was merged of bars that have P, one by one, behind p
pub data Grown (P : Bar → Type 0) (p : List Merged) : Merged → Type 0 where
  first : (c : Merged) (z : Bar) → P z → c ≡ own z → merge_in p z ≡ p ++ c ∷ [] → Grown P p c
  next : (c m : Merged) (z : Bar) → Grown P p m → P z → merge_in (p ++ m ∷ []) z ≡ p ++ c ∷ [] → c.elements ≡ m.elements ++ z.time ∷ [] → Grown P p c

-- c was merged so of k and bars after it, none earlier than k
pub data Over (P : Bar → Type 0) (p : List Merged) (k : Merged) : Merged → Type 0 where
  same : (c : Merged) → c ≡ k → Over P p k c
  more : (c m : Merged) (z : Bar) → Over P p k m → P z → T (le_z k.bar.time z.time) → merge_in (p ++ m ∷ []) z ≡ p ++ c ∷ [] → c.elements ≡ m.elements ++ z.time ∷ [] → Over P p k c

pub grown-over : (P : Bar → Type 0) (p : List Merged) (k c : Merged) → Grown P p k → Over P p k c → Grown P p c
grown-over P p k c g (same c' e) = subst (Grown P p) (sym e) g
grown-over P p k c g (more c' m z o pz t e l) = next c' m z (grown-over P p k m g o) pz e l

-- with another P, for the elements' times
pub grown-map : (P P' : Bar → Type 0) (Q : ℤ → Type 0) (p : List Merged) (c : Merged) → ((z : Bar) → Q z.time → P z → P' z) → All Q c.elements → Grown P p c → Grown P' p c
unfolding own
grown-map P P' Q p c f a (first c' z pz e q) = first c' z (f z (subst (λ k. All Q k.elements) e a).0 pz) e q
grown-map P P' Q p c f a (next c' m z g pz e l) =
    let b = subst (All Q) l a in
    next c' m z (grown-map P P' Q p m f (All-left Q m.elements (z.time ∷ []) b) g) (f z (All-right Q m.elements (z.time ∷ []) b).0 pz) e l

pub over-map : (P P' : Bar → Type 0) (Q : ℤ → Type 0) (p : List Merged) (k c : Merged) → ((z : Bar) → Q z.time → P z → P' z) → All Q c.elements → Over P p k c → Over P' p k c
over-map P P' Q p k c f a (same c' e) = same c' e
over-map P P' Q p k c f a (more c' m z o pz t e l) =
    let b = subst (All Q) l a in
    more c' m z (over-map P P' Q p k m f (All-left Q m.elements (z.time ∷ []) b) o) (f z (All-right Q m.elements (z.time ∷ []) b).0 pz) t e l

-- ---- one more bar in front changes nothing

pub merge_local : (x : Merged) (l : List Merged) (z : Bar) → Two l → merge_in (x ∷ l) z ≡ x ∷ merge_in l z
unfolding merge_in
merge_local x [] z t = absurd t
merge_local x (a ∷ []) z t = absurd t
merge_local x (a ∷ b ∷ l) z t = refl

pub fold_local : (x : Merged) (l : List Merged) (ys : List Bar) → Two l → fold_left merge_in (x ∷ l) ys ≡ x ∷ fold_left merge_in l ys
unfolding fold_left
fold_local x l [] t = refl
fold_local x l (y ∷ ys) t = ap (λ z. fold_left merge_in z ys) (merge_local x l y t) ∙ fold_local x (merge_in l y) ys (keeps_two l y t)
  where
    keeps_two : (l : List Merged) (y : Bar) → Two l → Two (merge_in l y)
    keeps_two [] y t = absurd t
    keeps_two (a ∷ l) y t = two-merged a l y

pub over_local : (P : Bar → Type 0) (x a k c : Merged) → Over P (a ∷ []) k c → Over P (x ∷ a ∷ []) k c
unfolding merge_in
over_local P x a k c (same c' e) = same c' e
over_local P x a k c (more c' m z o pz t e l) = more c' m z (over_local P x a k m o) pz t (ap (x ∷◌) e) l

pub grown_front : (P : Bar → Type 0) (x a c : Merged) → Grown P (x ∷ a ∷ []) c → Grown P (a ∷ []) c
unfolding merge_in
grown_front P x a c (first c' z pz e q) = first c' z pz e (ap (λ k. a ∷ k ∷ []) (sym e))
grown_front P x a c (next c' m z g pz e l) = next c' m z (grown_front P x a m g) pz (tail_of e) l
  where
    tail_of : {u v : List Merged} → x ∷ u ≡ x ∷ v → u ≡ v
    tail_of h = cc

-- ---- the bars are found again by their times

abbrev pub Looks : List Bar → Bar → Type 0
Looks raw z = keep_if (λ b. le_z b.time z.time && le_z z.time b.time) raw ≡ z ∷ []

at-append : (raw : List Bar) (ts us : List ℤ) → at_times raw (ts ++ us) ≡ at_times raw ts ++ at_times raw us
unfolding at_times
at-append raw [] us = refl
at-append raw (t ∷ ts) us = ap (keep_if (λ b. le_z b.time t && le_z t b.time) raw ++◌) (at-append raw ts us) ∙ sym (append_assoc (keep_if (λ b. le_z b.time t && le_z t b.time) raw) (at_times raw ts) (at_times raw us))

at_one : (raw : List Bar) (z : Bar) → Looks raw z → at_times raw (z.time ∷ []) ≡ z ∷ []
unfolding at_times
at_one raw z h = ap (◌++ []) h

pub regrow : (P : Bar → Type 0) (raw : List Bar) (Q : ℤ → Type 0) (p : List Merged) (c : Merged) → ((z : Bar) → Q z.time → P z → Looks raw z) → All Q c.elements → Grown P p c
    → fold_left merge_in p (at_times raw c.elements) ≡ p ++ c ∷ []
unfolding fold_left own
regrow P raw Q p c f a (first c' z pz e q) =
    ap (λ k. fold_left merge_in p (at_times raw k.elements)) e ∙ ap (fold_left merge_in p) (at_one raw z (f z (subst (λ k. All Q k.elements) e a).0 pz)) ∙ q
regrow P raw Q p c f a (next c' m z g pz e l) =
    let b = subst (All Q) l a in
    ap (λ ts. fold_left merge_in p (at_times raw ts)) l
    ∙ ap (fold_left merge_in p) (at-append raw m.elements (z.time ∷ []) ∙ ap (at_times raw m.elements ++◌) (at_one raw z (f z (All-right Q m.elements (z.time ∷ []) b).0 pz)))
    ∙ fold_snoc p (at_times raw m.elements) z
    ∙ ap (λ q. merge_in q z) (regrow P raw Q p m f (All-left Q m.elements (z.time ∷ []) b) g)
    ∙ e

-- ---- what merging one bar in does to the last bar, if nothing is lost

pub take_all : (n : ℕ) (l : List ℤ) → length l ≤ n → take n l ≡ l
take_all zero [] h = refl
take_all zero (t ∷ l) h = absurd (omega arith)
take_all (suc n) [] h = refl
take_all (suc n) (t ∷ l) h = ap (t ∷◌) (take_all n l (omega arith))

pub record Joins (a m : Merged) (z : Bar) : Type 0 where
  pub bar : Merged
  pub is : merge_in (a ∷ m ∷ []) z ≡ a ∷ bar ∷ []
  pub elements : bar.elements ≡ m.elements ++ z.time ∷ []
  pub time : (bar.bar.time ≡ m.bar.time) ⊎ (bar.bar.time ≡ z.time)

pick_time : (c : Bool) (s t : ℤ) → (cond c s t ≡ s) ⊎ (cond c s t ≡ t)
pick_time true s t = inl refl
pick_time false s t = inr refl

settle-joins : (a m : Merged) (z : Bar) (u d i : Bool) → length m.elements ≤ 100 → merge_in (a ∷ m ∷ []) z ≡ a ∷ settle u d i m z → (merge_in (a ∷ m ∷ []) z ≡ a ∷ m ∷ own z ∷ []) ⊎ Joins a m z
unfolding settle merged_up merged_down united
settle-joins a m z true d true h e = inr (record { bar = merged_up m z; is = e; elements = ap (◌++ z.time ∷ []) (take_all 100 m.elements h); time = pick_time (lt z.high m.bar.high) m.bar.time z.time })
settle-joins a m z false true true h e = inr (record { bar = merged_down m z; is = e; elements = ap (◌++ z.time ∷ []) (take_all 100 m.elements h); time = pick_time (lt m.bar.low z.low) m.bar.time z.time })
settle-joins a m z false false true h e = inl e
settle-joins a m z true d false h e = inl e
settle-joins a m z false d false h e = inl e

pub outcome : (a m : Merged) (z : Bar) → length m.elements ≤ 100 → (merge_in (a ∷ m ∷ []) z ≡ a ∷ m ∷ own z ∷ []) ⊎ Joins a m z
unfolding merge_in remove_include
outcome a m z h = settle-joins a m z (lt a.bar.high m.bar.high) (lt m.bar.high a.bar.high) (contains m.bar z) h refl

-- ---- a list of bars each grown behind those before it

-- behind a and b
abbrev pub Trip : (Bar → Type 0) → Merged → Merged → List Merged → Type 0
Trip P a b [] = Unit {0}
Trip P a b (c ∷ l) = Grown P (a ∷ b ∷ []) c × Trip P b c l

abbrev pub Exact : (Bar → Type 0) → List Merged → Type 0
Exact P [] = Unit {0}
Exact P (a ∷ []) = Unit {0}
Exact P (a ∷ b ∷ l) = Grown P (a ∷ []) b × Trip P a b l

abbrev pub Small : Merged → Type 0
Small k = length k.elements ≤ 100

pub trip_merged : (P : Bar → Type 0) (a b c : Merged) (l : List Merged) (z : Bar) → P z → All Small (c ∷ l) → Trip P a b (c ∷ l) → (r : List Merged) × (merge_in (b ∷ c ∷ l) z ≡ b ∷ r) × Trip P a b r
unfolding merge_in
trip_merged P a b c [] z pz s t = elim (outcome b c z s.0) [
  | inl e ↦ (c ∷ own z ∷ [], e, (t.0, (first (own z) z pz refl e, tt)))
  | inr j ↦ (j.bar ∷ [], j.is, (next j.bar c z t.0 pz (ap (a ∷◌) j.is) j.elements, tt))
]
trip_merged P a b c (d ∷ l) z pz s t =
    let r = trip_merged P b c d l z pz s.1 t.1 in
    (c ∷ r.0, ap (b ∷◌) r.1, (t.0, r.2))

pub exact_suffix : (P : Bar → Type 0) (a b : Merged) (l : List Merged) → Exact P (a ∷ b ∷ l) → Exact P (b ∷ l)
exact_suffix P a b [] x = tt
exact_suffix P a b (c ∷ l) x = (grown_front P a b c x.1.0, x.1.1)
