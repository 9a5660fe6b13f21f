-- A step of the strokes keeps the bars in order and the strokes in a chain.
-- Assumes nothing.
use Prim.Native.Nat.{ℕ}
use mathlib.Core.Path.{◌≡◌, refl, ap, sym, ◌∙◌, subst}
use mathlib.Core.Bool.{Bool, true, false, not, ◌&&◌}
use mathlib.Core.List.{List, [], ◌∷◌, ◌++◌, nil≢cons}
use mathlib.Core.Option.{Option, none, some}
use mathlib.Core.Logic.{◌⊎◌, inl, inr}
use lib.IntN.{ℤ}
use Rattle.bars.specs.Lists.{All, init, last}
use Rattle.bars.specs.declared.Bar.{Bar}
use Rattle.bars.specs.Bars.{Merged}
use Rattle.machine.specs.Fractals.{Fractal, same_mark, beyond, fx_of, check_fxs}
use Rattle.machine.specs.Strokes.{Stroke, Found, best_if, start_best}
use Rattle.machine.specs.Feed.{add_found, Moved, add_made, shed_if}
use Rattle.machine.specs.ByTime.{from, stroke_of, check_bi_by_time, cut_at, cut_by_time}
use Rattle.bars.specs.Merging.{merge_in}
use Rattle.machine.proofs.MachineByTime.{joined, break_if, break_last, move_some, move}
use Rattle.machine.specs.Break.{breaks}
use Rattle.machine.proofs.Facts.{Begins}
use Rattle.machine.specs.Rising.{Rising}
use Rattle.machine.proofs.Lists.{All-right}
use Rattle.machine.proofs.FractalWindows.{Window, cut_window, window_shaped}
use Rattle.machine.proofs.MadeStroke.{Facts, facts, MadeFrom, check_outcome}
use Rattle.machine.proofs.MergingKeepsOrder.{Ordered, Upto, Below, ordered_rising, ordered_right, ordered_from, All-from, merge_ordered, upto_merged}
use Rattle.machine.proofs.StrokesChain.{pre, follow, Link, Chain, chain_merged, follow_merged, follow_snoc, chain_put, chain_took, joined_is, made-whole, made_link, last_snoc}
use Rattle.machine.proofs.FewerFractals.{In, in_all, nothing_found}

abbrev time : Merged → ℤ
time k = k.bar.time

-- the bars of the strokes and the unfinished ones in order, none later than n, and the strokes in a chain
pub record Inv (n : ℤ) (bs : List Stroke) (l : List Merged) : Type 0 where
  pub ordered : Ordered (follow bs l)
  pub upto : All (Upto n) (follow bs l)
  pub chain : Chain bs l

follow_ordered : (bs : List Stroke) (l : List Merged) → Ordered (follow bs l) → Ordered l
follow_ordered [] l o = o
follow_ordered (b ∷ bs) l o = follow_ordered bs l (ordered_right (pre b) (follow bs l) o)

pub inv_rising : (n : ℤ) (bs : List Stroke) (l : List Merged) → Inv n bs l → Rising l
inv_rising n bs l i = ordered_rising l (follow_ordered bs l i.ordered)

-- ---- merging

pub inv_merged : (n : ℤ) (bs : List Stroke) (l : List Merged) (b : Bar) → Inv n bs l → Below (follow bs l) b.time → Inv b.time bs (merge_in l b)
inv_merged n bs l b i u =
    let e = follow_merged bs l b i.chain in
    record {
      ordered = subst Ordered (sym e) (merge_ordered (follow bs l) b i.ordered u);
      upto = subst (All (Upto b.time)) (sym e) (upto_merged (follow bs l) b u);
      chain = chain_merged bs l b i.chain;
    }

-- ---- a stroke is put on, or taken off

inv_same : (n : ℤ) (bs cs : List Stroke) (l m : List Merged) → follow cs m ≡ follow bs l → Inv n bs l → Chain cs m → Inv n cs m
inv_same n bs cs l m e i c = record { ordered = subst Ordered (sym e) i.ordered; upto = subst (All (Upto n)) (sym e) i.upto; chain = c }

inv_put : (n : ℤ) (bs : List Stroke) (l m : List Merged) (b : Stroke) → Inv n bs l → pre b ++ m ≡ l → Link b m → Inv n (bs ++ b ∷ []) m
inv_put n bs l m b i e k = inv_same n bs (bs ++ b ∷ []) l m (follow_snoc bs b m ∙ ap (follow bs) e) i (chain_put bs b m (subst (Chain bs) (sym e) i.chain) k)

inv_took : (n : ℤ) (bs : List Stroke) (l : List Merged) (b : Stroke) → Inv n (bs ++ b ∷ []) l → Inv n bs (joined b l)
inv_took n bs l b i =
    let c = chain_took bs b l i.chain in
    let e : joined b l ≡ pre b ++ l = joined_is b l c.1 (inv_rising n (bs ++ b ∷ []) l i) in
    inv_same n (bs ++ b ∷ []) bs l (joined b l) (ap (follow bs) e ∙ sym (follow_snoc bs b l)) i (subst (Chain bs) (sym e) c.0)

-- what a found stroke leaves
abbrev pub After : ℤ → Moved → Type 0
After n m = Inv n m.kept m.left

pub inv_made : (n : ℤ) (bs : List Stroke) (l : List Merged) (f : Fractal) (o : Found) → Begins f l → Inv n bs l → (o ≡ nothing_found l) ⊎ MadeFrom l o → After n (add_made bs o)
unfolding add_made add_found
inv_made n bs l f o h i (inl e) = subst (λ z. After n (add_made bs z)) (sym e) i
inv_made n bs l f o h i (inr m) =
    subst (λ z. After n (add_made bs z)) (sym m.found)
    (inv_put n bs l (from (time m.end.left) l) (stroke_of l (m.start ∷ m.others) m.start m.end) i
    (made-whole l (inv_rising n bs l i) f m.start m.end m.others h m.all m.first)
    (made_link l (inv_rising n bs l i) f m.start m.end m.others h m.all m.first))

-- the unfinished bars begin with the last stroke's end
pub chain_begins : (b : Stroke) (bs : List Stroke) (l : List Merged) → Chain (b ∷ bs) l → (f : Fractal) × Begins f l
chain_begins b [] l c = (b.end, c.0.ends)
chain_begins b (x ∷ bs) l c = chain_begins x bs l c.1

break_if_lem : (t : Bool) (n : ℤ) (m : Moved) (b : Stroke) → last m.kept ≡ some b → After n m → After n (break_if t m b)
unfolding break_if
break_if_lem true n m b h i = inv_took n (init m.kept) m.left b (subst (λ z. Inv n z m.left) (last_snoc m.kept b h) i)
break_if_lem false n m b h i = i

break_last_lem : (n : ℤ) (m : Moved) (o : Option Stroke) → last m.kept ≡ o → After n m → After n (break_last m o)
unfolding break_last
break_last_lem n m none h i = i
break_last_lem n m (some b) h i = break_if_lem (breaks b (last m.left)) n m b h i

-- ---- the first stroke's cut

start_in_if : (t : Bool) (a f : Fractal) (l : List Fractal) → ((x : Fractal) → In (start_best (λ g. g) x l) (x ∷ l)) → In (start_best (λ g. g) (best_if t f a) l) (a ∷ f ∷ l)
unfolding best_if
start_in_if true a f l r = inr (r f)
start_in_if false a f l r = elim (r a) [ inl e ↦ inl e | inr i ↦ inr (inr i) ]

pub start_in : (a : Fractal) (l : List Fractal) → In (start_best (λ g. g) a l) (a ∷ l)
unfolding start_best
start_in a [] = inl refl
start_in a (f ∷ l) = start_in_if (same_mark a.mark f.mark && not (beyond a.mark (fx_of a) (fx_of f))) a f l (λ x. start_in x l)

-- what the cut leaves begins with a fractal, or there is none
cut-at : (l : List Merged) (fs : List Fractal) → Rising l → check_fxs l ≡ fs → Facts l fs → ((cut_at l fs ≡ l) × (check_fxs l ≡ [])) ⊎ ((f : Fractal) × Begins f (cut_at l fs))
unfolding cut_at
cut-at l [] r q F = inl (refl, q)
cut-at l (f ∷ fs) r q F =
    let a = start_best (λ g. g) f fs in
    let w = in_all (λ x. Window x l) a (f ∷ fs) F.windows (start_in f fs) in
    let c = cut_window a l r w in
    inr (a, subst (Begins a) (sym c.from-left) (refl, refl, window_shaped a l w))

pub cut_ordered : (l : List Merged) (fs : List Fractal) → Ordered l → Ordered (cut_at l fs)
unfolding cut_at
cut_ordered l [] o = o
cut_ordered l (f ∷ fs) o = ordered_from _ l o

pub cut_all : (P : Merged → Type 0) (l : List Merged) (fs : List Fractal) → All P l → All P (cut_at l fs)
unfolding cut_at
cut_all P l [] a = a
cut_all P l (f ∷ fs) a = All-from P _ l a

pub inv_unmade : (n : ℤ) (bs : List Stroke) (l : List Merged) (o : Found) → check_fxs l ≡ [] → Inv n bs l → (o ≡ nothing_found l) ⊎ MadeFrom l o → After n (add_made bs o)
unfolding add_made add_found
inv_unmade n bs l o q i (inl e) = subst (λ z. After n (add_made bs z)) (sym e) i
inv_unmade n bs l o q i (inr m) = absurd (nil≢cons (sym q ∙ m.all))

pub first_inv : (n : ℤ) (minimum : ℕ) (l : List Merged) → Inv n [] l → After n (add_made [] (check_bi_by_time minimum (cut_by_time l)))
unfolding cut_by_time
first_inv n minimum l i =
    let j : Inv n [] (cut_by_time l) = record { ordered = cut_ordered l (check_fxs l) i.ordered; upto = cut_all (Upto n) l (check_fxs l) i.upto; chain = tt } in
    elim (cut-at l (check_fxs l) (inv_rising n [] l i) refl (facts l (inv_rising n [] l i))) [
      | inr b ↦ inv_made n [] (cut_by_time l) b.0 (check_bi_by_time minimum (cut_by_time l)) b.1 j (check_outcome minimum (cut_by_time l))
      | inl e ↦ inv_unmade n [] (cut_by_time l) (check_bi_by_time minimum (cut_by_time l)) (ap check_fxs e.0 ∙ e.1) j (check_outcome minimum (cut_by_time l))
    ]

some_inv : (n : ℤ) (minimum : ℕ) (l : List Merged) (bs : List Stroke) → Inv n bs l → After n (move_some minimum l bs)
unfolding move_some
some_inv n minimum l [] i = first_inv n minimum l i
some_inv n minimum l (b ∷ bs) i =
    let f = chain_begins b bs l i.chain in
    let m = add_made (b ∷ bs) (check_bi_by_time minimum l) in
    break_last_lem n m (last m.kept) refl (inv_made n (b ∷ bs) l f.0 (check_bi_by_time minimum l) f.1 i (check_outcome minimum l))

pub move_inv : (n : ℤ) (minimum : ℕ) (l : List Merged) (bs : List Stroke) → Inv n bs l → After n (move minimum l bs)
unfolding move
move_inv n minimum [] bs i = i
move_inv n minimum (a ∷ []) bs i = i
move_inv n minimum (a ∷ b ∷ []) bs i = i
move_inv n minimum (a ∷ b ∷ c ∷ l) bs i = some_inv n minimum (a ∷ b ∷ c ∷ l) bs i

-- ---- the oldest is shed

pub shed_inv : (t : Bool) (n : ℤ) (bs : List Stroke) (l : List Merged) → Inv n bs l → Inv n (shed_if t bs) l
unfolding shed_if
shed_inv true n [] l i = i
shed_inv true n (b ∷ bs) l i =
    record { ordered = ordered_right (pre b) (follow bs l) i.ordered; upto = All-right (Upto n) (pre b) (follow bs l) i.upto; chain = i.chain.1 }
shed_inv false n bs l i = i
