-- Where every accepted bar is later than the one before, neighbouring strokes meet, after every list of calls.
-- Assumes nothing.
use Prim.Native.Nat.{ℕ}
use mathlib.Core.Path.{◌≡◌, refl, ap, sym, subst}
use mathlib.Core.Bool.{Bool, true, false, not, cond}
use mathlib.Core.List.{List, [], ◌∷◌, ◌++◌}
use mathlib.Core.Option.{Option, none, some}
use lib.ListN.{length}
use lib.IntN.{ℤ}
use lib.Signed.{lt_z, le_z}
use lib.Dec.{T, ltb}
use Rattle.bars.specs.Lists.{All, skip_while, last}
use Rattle.bars.specs.declared.Bar.{Bar}
use Rattle.bars.specs.Bars.{Merged}
use Rattle.machine.specs.Fractals.{Fractal, same_mark}
use Rattle.machine.specs.Strokes.{Stroke}
use Rattle.machine.specs.Stand.{State, fresh}
use Rattle.machine.specs.Feed.{Step, Moved, shed_if, raw_with, merged_with, is_later}
use Rattle.bars.specs.Merging.{merge_all, merge_in}
use Rattle.machine.proofs.MachineByTime.{move, drop_early, finish, step_with, step, feed_if, feed, run, AllLater, start}
use Rattle.machine.proofs.Facts.{Begins}
use Rattle.machine.specs.KeptStrokes.{MeetAll}
use Rattle.machine.proofs.Lists.{cond_no, All-map}
use Rattle.machine.proofs.MergingKeepsOrder.{Upto, stamps}
use Rattle.machine.proofs.StrokesChain.{pre, follow, Chain, begins_meets}
use Rattle.machine.proofs.ChainKept.{Inv, inv_merged, move_inv, shed_inv}
use Rattle.bars.proofs.Times as times

-- ---- the newest raw bar

pub last-append : {A : Type 0} (l : List A) (a : A) → last (l ++ a ∷ []) ≡ some a
unfolding last
last-append [] a = refl
last-append (x ∷ []) a = refl
last-append (x ∷ y ∷ l) a = last-append (y ∷ l) a

last_skip_if : {A : Type 0} (t : Bool) (k l : List A) (a : A) → last k ≡ some a → last l ≡ some a → last (cond t k l) ≡ some a
last_skip_if true k l a p q = p
last_skip_if false k l a p q = q

-- what is dropped from the front leaves the last, if that stays
pub last_skip : {A : Type 0} (p : A → Bool) (l : List A) (a : A) → T (not (p a)) → last (skip_while p (l ++ a ∷ [])) ≡ some a
unfolding skip_while last
last_skip p [] a h = ap last (cond_no (p a) [] (a ∷ []) h)
last_skip p (x ∷ l) a h = last_skip_if (p x) (skip_while p (l ++ a ∷ [])) (x ∷ l ++ a ∷ []) a (last_skip p l a h) (last-append (x ∷ l) a)

-- the first bar of bars that begin with a fractal is that fractal's
begins_upto : (n : ℤ) (f : Fractal) (l : List Merged) → Begins f l → All (Upto n) l → T (le_z f.left.bar.time n)
begins_upto n f [] h u = absurd h
begins_upto n f (a ∷ []) h u = absurd h
begins_upto n f (a ∷ k ∷ []) h u = absurd h
begins_upto n f (a ∷ k ∷ c ∷ l) h u = subst (λ z. T (le_z z.bar.time n)) h.0 u.0.0

last-raw : (bs : List Stroke) (l : List Merged) (raw : List Bar) (b : Bar) → Inv b.time bs l → last (drop_early bs (raw ++ b ∷ [])) ≡ some b
unfolding drop_early
last-raw [] l raw b i = last-append raw b
last-raw (x ∷ bs) l raw b i =
    last_skip (λ r. lt_z r.time x.start.left.bar.time) raw b
    (times.le_not_lt b.time x.start.left.bar.time (begins_upto b.time x.start (pre x ++ follow bs l) i.chain.0.starts i.upto))

-- ---- a state between calls

-- nothing was fed, or all is in order up to the newest bar
abbrev pub Stands : Option Bar → List Stroke → List Merged → Type 0
Stands none bs l = (bs ≡ []) × (l ≡ [])
Stands (some r) bs l = Inv r.time bs l

abbrev pub Fine : State → Type 0
Fine s = Stands (last s.raw) s.strokes s.unfinished

pub merged_inv : (o : Option Bar) (bs : List Stroke) (l : List Merged) (b : Bar) → Stands o bs l → T (is_later o b) → Inv b.time bs (merge_in l b)
unfolding is_later
merged_inv none bs l b h t = subst (λ z. Inv b.time z (merge_in l b)) (sym h.0) (subst (λ z. Inv b.time [] (merge_in z b)) (sym h.1) (inv_merged b.time [] [] b (record { ordered = tt; upto = tt; chain = tt }) tt))
merged_inv (some r) bs l b h t =
    inv_merged r.time bs l b h (All-map (follow bs l) (λ k u. All-map (stamps k) (λ v w. times.le_lt_trans v r.time b.time w t) u) h.upto)

pub finish_fine : (most : ℕ) (raw : List Bar) (b : Bar) (m : Moved) → Inv b.time m.kept m.left
    → Fine (finish most (raw ++ b ∷ []) m).state × (last (finish most (raw ++ b ∷ []) m).state.raw ≡ some b)
unfolding finish
finish_fine most raw b m i =
    let bs = shed_if (ltb most (length m.kept)) m.kept in
    let j = shed_inv (ltb most (length m.kept)) b.time m.kept m.left i in
    let q = last-raw bs m.left raw b j in
    (subst (λ o. Stands o bs m.left) (sym q) j, q)

pub step_fine : (minimum most : ℕ) (t : Bool) (s : State) (b : Bar) → Fine s → T t → T (is_later (last s.raw) b)
    → Fine (step_with minimum most t s b).state × (last (step_with minimum most t s b).state.raw ≡ some b)
unfolding step_with raw_with merged_with merge_all
step_fine minimum most true s b f h k =
    finish_fine most s.raw b (move minimum (merge_in s.unfinished b) s.strokes)
    (move_inv b.time minimum (merge_in s.unfinished b) s.strokes (merged_inv (last s.raw) s.strokes s.unfinished b f k))
step_fine minimum most false s b f h k = absurd h

pub feed_fine : (minimum most : ℕ) (t : Bool) (previous : Option Bar) (s : State) (b : Bar) → Fine s → last s.raw ≡ previous → (T t → T (is_later previous b))
    → Fine (feed_if minimum most t s b).state × (last (feed_if minimum most t s b).state.raw ≡ cond t (some b) previous)
unfolding feed_if step
feed_fine minimum most true previous s b f e h =
    let k = subst (λ o. T (is_later o b)) (sym e) (h tt) in
    step_fine minimum most (is_later (last s.raw) b) s b f k k
feed_fine minimum most false previous s b f e h = (f, e)

pub run_fine : (ok : State → Bar → Bool) (minimum most : ℕ) (previous : Option Bar) (s : Step) (bs : List Bar) → Fine s.state → last s.state.raw ≡ previous
    → AllLater ok minimum most previous s.state bs → Fine (run ok minimum most s bs).state
unfolding run feed
run_fine ok minimum most previous s [] f e h = f
run_fine ok minimum most previous s (b ∷ bs) f e h =
    let r = feed_fine minimum most (ok s.state b) previous s.state b f e h.0 in
    run_fine ok minimum most (cond (ok s.state b) (some b) previous) _ bs r.0 r.1 h.1

-- ---- what it gives

chain_meets : (bs : List Stroke) (l : List Merged) → Chain bs l → MeetAll bs
chain_meets [] l c = tt
chain_meets (b ∷ []) l c = tt
chain_meets (b ∷ b' ∷ bs) l c =
    let m = begins_meets b.end b'.start (pre b' ++ follow bs l) c.0.ends c.1.0.starts in
    (m, subst (λ z. T (not (same_mark b.start.mark z))) (sym m.mark) c.0.good.turns, chain_meets (b' ∷ bs) l c.1)

fine_meets : (o : Option Bar) (bs : List Stroke) (l : List Merged) → Stands o bs l → MeetAll bs
fine_meets none bs l h = subst MeetAll (sym h.0) tt
fine_meets (some r) bs l h = chain_meets bs l h.chain

pub start_fine : Fine start.state
unfolding start fresh last
start_fine = (refl, refl)

pub start_none : last start.state.raw ≡ none
unfolding start fresh last
start_none = refl

pub strokes-meet : (ok : State → Bar → Bool) (minimum most : ℕ) (bs : List Bar) → AllLater ok minimum most none start.state bs → MeetAll (run ok minimum most start bs).state.strokes
strokes-meet ok minimum most bs h =
    let s = run ok minimum most start bs in
    fine_meets (last s.state.raw) s.state.strokes s.state.unfinished (run_fine ok minimum most none start bs start_fine start_none h)
