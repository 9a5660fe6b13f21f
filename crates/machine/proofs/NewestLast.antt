-- The newest raw bar is the last element of the last unfinished bar, after every feed that breaks no stroke, and after one that breaks a stroke unless no unfinished bar is from the stroke's last but one bar's time on.
-- Assumes nothing.
use Prim.Native.Nat.{ℕ}
use mathlib.Core.Path.{◌≡◌, refl, ap, sym, ◌∙◌, subst}
use mathlib.Core.Bool.{Bool, true, false, not}
use mathlib.Core.List.{List, [], ◌∷◌, ◌++◌, nil≢cons}
use mathlib.Core.Option.{Option, none, some}
use mathlib.Core.Logic.{◌⊎◌, inl, inr}
use lib.ListN.{length, take}
use lib.IntN.{ℤ}
use lib.Signed.{lt_z}
use lib.Dec.{T, ltb}
use lib.Ieee.{Float, lt}
use Rattle.bars.specs.Lists.{All, skip_while, fold_left, init, last}
use Rattle.bars.specs.declared.Bar.{Bar}
use Rattle.bars.specs.Bars.{Merged, own}
use Rattle.machine.specs.Fractals.{Fractal, check_fxs}
use Rattle.machine.specs.Strokes.{Stroke, Found, start_best}
use Rattle.machine.specs.Feed.{add_found, Moved, Step, add_made, shed_if, raw_with, merged_with, is_later}
use Rattle.machine.specs.Stand.{State, fresh}
use Rattle.bars.specs.Merging.{merge_all, united, contains, merged_up, merged_down, settle, remove_include, merge_in, at_times, again}
use Rattle.machine.specs.ByTime.{from, check_bi_by_time, cut_at, cut_by_time}
use Rattle.machine.proofs.MachineByTime.{joined, break_if, break_last, move_some, move, drop_early, finish, step_with, step, feed_if, feed, plus, run, start, NotEarlier}
use Rattle.machine.specs.Break.{breaks}
use Rattle.machine.specs.Rising.{Rising}
use Rattle.bars.specs.Questions.{question9}
use Rattle.machine.specs.Soundness.{ends_on, closes, newest_in, newest_last}
use Rattle.arith.proofs.FloatOrder.{decide}
use Rattle.machine.proofs.MergingKeepsFractal.{merge_head}
use Rattle.machine.proofs.Places.{from_skip, from_stop}
use Rattle.machine.proofs.FractalWindows.{Window, cut_window}
use Rattle.machine.proofs.MadeStroke.{Facts, facts, MadeFrom, check_outcome}
use Rattle.machine.proofs.MergingKeepsOrder.{Ordered, ordered_rising}
use Rattle.machine.proofs.ChainKept.{start_in, cut_ordered}
use Rattle.machine.proofs.StrokesBefore.{Inv}
use Rattle.machine.proofs.StrokesBeforeKept.{move_inv, shed_inv}
use Rattle.machine.proofs.ReplacedBars.{Fine, Fed, fed, last-raw, step_fine, start_fine}
use Rattle.machine.proofs.StrokesMeet.{last-append}
use Rattle.machine.proofs.ElementsNamed.{same_refl}
use Rattle.machine.proofs.StrokesBeforeKept as steps
use Rattle.bars.proofs.Times as times
use Rattle.machine.proofs.FewerFractals.{in_all, nothing_found}

abbrev time : Merged → ℤ
time k = k.bar.time

-- the last element of the last bar is at t
abbrev pub Ends : ℤ → List Merged → Type 0
Ends t l = T (closes t (last l))

-- ---- right after merging it is

closes-united : (k : Merged) (b : Bar) (t : ℤ) (h l : Float) → T (closes b.time (some (united k b t h l)))
unfolding closes united ends_on
closes-united k b t h l = subst (λ o. T (ends_on b.time o)) (sym (last-append (take 100 k.elements) b.time)) (same_refl b.time)

closes-own : (b : Bar) → T (closes b.time (some (own b)))
unfolding closes own ends_on last
closes-own b = same_refl b.time

settle-ends : (u d i : Bool) (k1 k2 : Merged) (b : Bar) → Ends b.time (k1 ∷ settle u d i k2 b)
unfolding settle merged_up merged_down last
settle-ends true d true k1 k2 b = closes-united k2 b _ _ _
settle-ends false true true k1 k2 b = closes-united k2 b _ _ _
settle-ends false false true k1 k2 b = closes-own b
settle-ends true d false k1 k2 b = closes-own b
settle-ends false d false k1 k2 b = closes-own b

ends_cons : (t : ℤ) (k : Merged) (l : List Merged) (x : Merged) (r : List Merged) → l ≡ x ∷ r → Ends t l → Ends t (k ∷ l)
unfolding last
ends_cons t k l x r e h = subst (λ z. Ends t (k ∷ z)) (sym e) (subst (Ends t) e h)

pub merge_ends : (l : List Merged) (b : Bar) → Ends b.time (merge_in l b)
unfolding merge_in remove_include last
merge_ends [] b = closes-own b
merge_ends (k1 ∷ []) b = closes-own b
merge_ends (k1 ∷ k2 ∷ []) b = settle-ends (lt k1.bar.high k2.bar.high) (lt k2.bar.high k1.bar.high) (contains k2.bar b) k1 k2 b
merge_ends (k1 ∷ k2 ∷ k3 ∷ l) b = let m = merge_head k2 k3 l b in ends_cons b.time k1 (merge_in (k2 ∷ k3 ∷ l) b) k2 m.0 m.1 (merge_ends (k2 ∷ k3 ∷ l) b)

pub fold_snoc : (l : List Merged) (ys : List Bar) (b : Bar) → fold_left merge_in l (ys ++ b ∷ []) ≡ merge_in (fold_left merge_in l ys) b
unfolding fold_left
fold_snoc l [] b = refl
fold_snoc l (y ∷ ys) b = fold_snoc (merge_in l y) ys b

again-ends : (p : List Merged) (raw : List Bar) (o : Option Merged) (b : Bar) → Ends b.time (fold_left merge_in p (again raw o b))
unfolding again fold_left
again-ends p raw none b = merge_ends p b
again-ends p raw (some k) b = subst (Ends b.time) (sym (fold_snoc p (at_times raw (init k.elements)) b)) (merge_ends (fold_left merge_in p (at_times raw (init k.elements))) b)

pub fed-ends : (t : Bool) (s : State) (b : Bar) → Ends b.time (merged_with t s b)
unfolding merged_with merge_all
fed-ends true s b = merge_ends s.unfinished b
fed-ends false s b = again-ends (init s.unfinished) s.raw (last s.unfinished) b

-- ---- what is cut off in front leaves the last bar, if anything is left

from-last_if : (t : ℤ) (k j : Merged) (l : List Merged) (x : Merged) (r : List Merged) → T (lt_z (time k) t) ⊎ T (not (lt_z (time k) t)) → (from t (j ∷ l) ≡ x ∷ r → last (x ∷ r) ≡ last (j ∷ l))
    → from t (k ∷ j ∷ l) ≡ x ∷ r → last (x ∷ r) ≡ last (k ∷ j ∷ l)
unfolding last
from-last_if t k j l x r (inl h) f e = f (sym (from_skip t k (j ∷ l) h) ∙ e)
from-last_if t k j l x r (inr h) f e = ap last (sym e ∙ from_stop t k (j ∷ l) (times.not-lt-le (time k) t h))

from-last-one : (t : ℤ) (k x : Merged) (r : List Merged) → T (lt_z (time k) t) ⊎ T (not (lt_z (time k) t)) → from t (k ∷ []) ≡ x ∷ r → last (x ∷ r) ≡ last (k ∷ [])
unfolding from skip_while
from-last-one t k x r (inl h) e = absurd (nil≢cons (sym (from_skip t k [] h) ∙ e))
from-last-one t k x r (inr h) e = ap last (sym e ∙ from_stop t k [] (times.not-lt-le (time k) t h))

pub from_last : (t : ℤ) (l : List Merged) (x : Merged) (r : List Merged) → from t l ≡ x ∷ r → last (x ∷ r) ≡ last l
unfolding from skip_while
from_last t [] x r e = absurd (nil≢cons e)
from_last t (k ∷ []) x r e = from-last-one t k x r (decide (lt_z (time k) t)) e
from_last t (k ∷ j ∷ l) x r e = from-last_if t k j l x r (decide (lt_z (time k) t)) (from_last t (j ∷ l) x r) e

from-ends : (n t : ℤ) (l : List Merged) (x : Merged) (r : List Merged) → from t l ≡ x ∷ r → Ends n l → Ends n (from t l)
from-ends n t l x r e h = subst (λ z. T (closes n z)) (sym (ap last e ∙ from_last t l x r e)) h

cut-ends : (n : ℤ) (l : List Merged) (fs : List Fractal) → Rising l → Facts l fs → Ends n l → Ends n (cut_at l fs)
unfolding cut_at
cut-ends n l [] r F h = h
cut-ends n l (f ∷ fs) r F h =
    let a = start_best (λ g. g) f fs in
    let c = cut_window a l r (in_all (λ x. Window x l) a (f ∷ fs) F.windows (start_in f fs)) in
    from-ends n (time a.left) l a.left (a.mid ∷ a.right ∷ c.after) c.from-left h

made_ends : (n : ℤ) (bs : List Stroke) (l : List Merged) (f : Found) → Ordered l → (f ≡ nothing_found l) ⊎ MadeFrom l f → Ends n l → Ends n (add_made bs f).left
unfolding add_made add_found
made_ends n bs l f o (inl e) h = subst (λ z. Ends n (add_made bs z).left) (sym e) h
made_ends n bs l f o (inr m) h =
    let e = steps.rest-is l o m.start m.end m.others m.all m.first in
    subst (λ z. Ends n (add_made bs z).left) (sym m.found) (from-ends n (time m.end.left) l m.end.left _ e h)

last-behind : (p q : List Merged) (x : Merged) (r : List Merged) → q ≡ x ∷ r → last (p ++ q) ≡ last q
unfolding last
last-behind [] q x r e = refl
last-behind (a ∷ []) q x r e = subst (λ z. last (a ∷ z) ≡ last z) (sym e) refl
last-behind (a ∷ b ∷ p) q x r e = last-behind (b ∷ p) q x r e

joined-ends : (n : ℤ) (s : Stroke) (l : List Merged) (x : Merged) (r : List Merged) → from (time s.end.mid) l ≡ x ∷ r → Ends n l → Ends n (joined s l)
unfolding joined
joined-ends n s l x r e h = subst (λ z. T (closes n z)) (sym (last-behind (init (init s.bars)) (from (time s.end.mid) l) x r e)) (from-ends n (time s.end.mid) l x r e h)

-- ---- a step of the strokes

-- the last stroke breaks and no unfinished bar is from its last but one bar's time on
pub record Lost (m : Moved) : Type 0 where
  pub stroke : Stroke
  pub last' : last m.kept ≡ some stroke
  pub breaks' : T (breaks stroke (last m.left))
  pub nothing : from (time stroke.end.mid) m.left ≡ []

tail_of : (l : List Merged) → (l ≡ []) ⊎ ((x : Merged) × (r : List Merged) × (l ≡ x ∷ r))
tail_of [] = inl refl
tail_of (x ∷ r) = inr (x, r, refl)

break_ends : (n : ℤ) (t : Bool) (m : Moved) (b : Stroke) → last m.kept ≡ some b → (T t → T (breaks b (last m.left))) → Ends n m.left → Ends n (break_if t m b).left ⊎ Lost m
unfolding break_if
break_ends n true m b k q h = elim (tail_of (from (time b.end.mid) m.left)) [
  | inl e ↦ inr (record { stroke = b; last' = k; breaks' = q tt; nothing = e })
  | inr e ↦ inl (joined-ends n b m.left e.0 e.1 e.2 h)
]
break_ends n false m b k q h = inl h

break_last-ends : (n : ℤ) (m : Moved) (o : Option Stroke) → last m.kept ≡ o → Ends n m.left → Ends n (break_last m o).left ⊎ Lost m
unfolding break_last
break_last-ends n m none k h = inl h
break_last-ends n m (some b) k h = break_ends n (breaks b (last m.left)) m b k (λ t. t) h

-- where a stroke was kept, the step after a stroke that may be made, and before one that may break
abbrev pub between : ℕ → List Merged → Stroke → List Stroke → Moved
between minimum l b bs = add_made (b ∷ bs) (check_bi_by_time minimum l)

-- what may be lost in a step
abbrev pub MayLose : ℕ → List Merged → List Stroke → Type 0
MayLose minimum l [] = ⊥
MayLose minimum l (b ∷ bs) = Lost (between minimum l b bs)

some-ends : (n : ℤ) (minimum : ℕ) (l : List Merged) (bs : List Stroke) → Ordered l → Ordered (cut_by_time l) → Ends n l → Ends n (move_some minimum l bs).left ⊎ MayLose minimum l bs
unfolding move_some cut_by_time
some-ends n minimum l [] o c h = inl (made_ends n [] (cut_by_time l) (check_bi_by_time minimum (cut_by_time l)) c (check_outcome minimum (cut_by_time l)) (cut-ends n l (check_fxs l) (ordered_rising l o) (facts l (ordered_rising l o)) h))
some-ends n minimum l (b ∷ bs) o c h =
    let m = between minimum l b bs in
    break_last-ends n m (last m.kept) refl (made_ends n (b ∷ bs) l (check_bi_by_time minimum l) o (check_outcome minimum l) h)

pub move-ends : (n : ℤ) (minimum : ℕ) (l : List Merged) (bs : List Stroke) → Ordered l → Ordered (cut_by_time l) → Ends n l → Ends n (move minimum l bs).left ⊎ MayLose minimum l bs
unfolding move
move-ends n minimum [] bs o c h = inl h
move-ends n minimum (x ∷ []) bs o c h = inl h
move-ends n minimum (x ∷ y ∷ []) bs o c h = inl h
move-ends n minimum (x ∷ y ∷ z ∷ l) bs o c h = some-ends n minimum (x ∷ y ∷ z ∷ l) bs o c h

-- ---- where nothing is from t on, all is before t

none_if : (t : ℤ) (k : Merged) (l : List Merged) → T (lt_z (time k) t) ⊎ T (not (lt_z (time k) t)) → (from t l ≡ [] → All (λ x. T (lt_z (time x) t)) l) → from t (k ∷ l) ≡ [] → All (λ x. T (lt_z (time x) t)) (k ∷ l)
none_if t k l (inl h) f e = (h, f (sym (from_skip t k l h) ∙ e))
none_if t k l (inr h) f e = absurd (nil≢cons (sym e ∙ from_stop t k l (times.not-lt-le (time k) t h)))

pub from-none : (t : ℤ) (l : List Merged) → from t l ≡ [] → All (λ x. T (lt_z (time x) t)) l
from-none t [] e = tt
from-none t (k ∷ l) e = none_if t k l (decide (lt_z (time k) t)) (from-none t l) e

-- ---- a feed

finish-newest : (most : ℕ) (raw old : List Bar) (b : Bar) (m : Moved) → raw ≡ old ++ b ∷ [] → Inv b.time m.kept m.left → Ends b.time m.left → T (newest_last (finish most raw m).state)
unfolding finish newest_last newest_in
finish-newest most raw old b m e i h =
    let t = ltb most (length m.kept) in
    let bs = shed_if t m.kept in
    let j = shed_inv t b.time m.kept m.left i in
    let q : last (drop_early bs raw) ≡ some b = ap (λ z. last (drop_early bs z)) e ∙ last-raw bs old b j.early in
    subst (λ o. T (newest_in o m.left)) (sym q) h

-- after an accepted bar the clause holds, or a stroke was broken and the tail lost
pub step-newest : (minimum most : ℕ) (t : Bool) (s : State) (b : Bar) → Fed b s.strokes (merged_with t s b) (raw_with t s b) → (MayLose minimum (merged_with t s b) s.strokes → ⊥)
    → T (newest_last (step_with minimum most t s b).state)
unfolding step_with cut_by_time
step-newest minimum most t s b d safe =
    let l = merged_with t s b in
    elim (move-ends b.time minimum l s.strokes d.inv.ordered (cut_ordered l (check_fxs l) d.inv.ordered) (fed-ends t s b)) [
      | inl h ↦ finish-newest most (raw_with t s b) d.old b (move minimum l s.strokes) d.is (move_inv b.time minimum l s.strokes d.inv) h
      | inr x ↦ absurd (safe x)
    ]

-- no accepted bar breaks a stroke whose tail is lost
abbrev pub NoneLost : (State → Bar → Bool) → ℕ → ℕ → State → List Bar → Type 0
NoneLost ok minimum most s [] = Unit {0}
NoneLost ok minimum most s (b ∷ bs) =
    (T (ok s b) → MayLose minimum (merged_with (is_later (last s.raw) b) s b) s.strokes → ⊥) × NoneLost ok minimum most (feed ok minimum most s b).state bs

feed-newest : (minimum most : ℕ) (t : Bool) (s : State) (b : Bar) → Fine s → (T t → T (question9 (last s.raw) b)) → (T t → MayLose minimum (merged_with (is_later (last s.raw) b) s b) s.strokes → ⊥)
    → T (newest_last s) → Fine (feed_if minimum most t s b).state × T (newest_last (feed_if minimum most t s b).state)
unfolding feed_if step
feed-newest minimum most true s b f h safe n =
    let l = is_later (last s.raw) b in
    let d = fed l s b f (λ x. x) (λ x. x) (h tt) in
    (step_fine minimum most l s b d, step-newest minimum most l s b d (safe tt))
feed-newest minimum most false s b f h safe n = (f, n)

run-newest : (ok : State → Bar → Bool) → NotEarlier ok → (minimum most : ℕ) (s : Step) (bs : List Bar) → Fine s.state → NoneLost ok minimum most s.state bs → T (newest_last s.state)
    → T (newest_last (run ok minimum most s bs).state)
unfolding run feed
run-newest ok h minimum most s [] f safe n = n
run-newest ok h minimum most s (b ∷ bs) f safe n =
    let r = feed-newest minimum most (ok s.state b) s.state b f (h s.state b) safe.0 n in
    run-newest ok h minimum most (record { state = (feed ok minimum most s.state b).state; events = plus s.events (feed ok minimum most s.state b).events }) bs r.0 safe.1 r.1

start-newest : T (newest_last start.state)
unfolding start fresh newest_last newest_in last
start-newest = tt

-- every list of feed calls in which no tail is lost
pub reached_newest : (ok : State → Bar → Bool) → NotEarlier ok → (minimum most : ℕ) (bs : List Bar) → NoneLost ok minimum most start.state bs → T (newest_last (run ok minimum most start bs).state)
reached_newest ok h minimum most bs safe = run-newest ok h minimum most start bs start_fine safe start-newest
