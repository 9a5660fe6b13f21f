-- No element of an unfinished bar is earlier than a kept stroke's first merged bar, and none of a later stroke's bars is.
-- Assumes nothing.
use Prim.Native.Nat.{ℕ}
use mathlib.Core.Path.{◌≡◌, sym, ◌∙◌, subst}
use mathlib.Core.Bool.{Bool, true, false}
use mathlib.Core.List.{List, [], ◌∷◌, ◌++◌, head-eq_of_cons-eq}
use lib.ListN.{length}
use lib.IntN.{ℤ}
use lib.Signed.{le_z}
use lib.Dec.{T, ltb}
use Rattle.bars.specs.Lists.{All, init, last}
use Rattle.bars.specs.declared.Bar.{Bar}
use Rattle.bars.specs.Bars.{Merged}
use Rattle.bars.specs.Merging.{merge_all, at_times, again}
use Rattle.bars.specs.Questions.{question9}
use Rattle.machine.specs.Fractals.{Fractal}
use Rattle.machine.specs.Strokes.{Stroke, Found}
use Rattle.machine.specs.ByTime.{stroke_of}
use Rattle.machine.specs.Stand.{State, fresh}
use Rattle.machine.specs.Feed.{Step, shed_if, merged_with, raw_with, is_later}
use Rattle.machine.proofs.MachineByTime.{joined, move, finish, step_with, step, feed_if, feed, plus, run, start, NotEarlier}
use Rattle.machine.proofs.Lists.{All-map, All-append, All-right, All-init}
use Rattle.machine.proofs.FractalWindows.{Cut}
use Rattle.machine.proofs.MadeStroke.{MadeFrom}
use Rattle.machine.proofs.MergingKeepsOrder.{Before, Ordered}
use Rattle.machine.proofs.StrokesBefore.{Two, Inv}
use Rattle.machine.proofs.StrokesBeforeKept as steps
use Rattle.machine.proofs.ReplacedBars.{Fine, Fed, fed, at_all, feed_fine, start_fine}
use Rattle.machine.proofs.EventsKeep.{Keeps, stroke_made, rest_made, move_keeps, Bars, bars_keeps}
use Rattle.machine.proofs.StrokeBuilt.{inv_keeps}
use Rattle.machine.proofs.TimeFloor.{Elements, before-elements, elements-merged, elements_fold}
use Rattle.bars.proofs.Times as times

abbrev first-time : Stroke → ℤ
first-time b = b.start.left.bar.time

-- each stroke's first bar is a floor for the elements of what follows it
abbrev pub ElementFloors : List Merged → List Stroke → Type 0
ElementFloors l [] = Unit {0}
ElementFloors l (b ∷ bs) = Bars (Elements (first-time b)) l bs × ElementFloors l bs

-- ---- a stroke is made, broken or shed

floors_put : (bs : List Stroke) (s : Stroke) (l m : List Merged) → ((P : Merged → Type 0) (cs : List Stroke) → Bars P l cs → Bars P m (cs ++ s ∷ []))
    → All (Elements (first-time s)) m → ElementFloors l bs → ElementFloors m (bs ++ s ∷ [])
floors_put [] s l m f a d = ((a, tt), tt)
floors_put (b ∷ bs) s l m f a d = (f (Elements (first-time b)) bs d.0, floors_put bs s l m f a d.1)

floors_took : (bs : List Stroke) (s : Stroke) (l m : List Merged) → ((P : Merged → Type 0) (cs : List Stroke) → Bars P l (cs ++ s ∷ []) → Bars P m cs)
    → ElementFloors l (bs ++ s ∷ []) → ElementFloors m bs
floors_took [] s l m f d = tt
floors_took (b ∷ bs) s l m f d = (f (Elements (first-time b)) bs d.0, floors_took bs s l m f d.1)

floors_shed : (t : Bool) (l : List Merged) (bs : List Stroke) → ElementFloors l bs → ElementFloors l (shed_if t bs)
unfolding shed_if
floors_shed true l [] d = tt
floors_shed true l (b ∷ bs) d = d.1
floors_shed false l bs d = d

-- what stands behind the first bar d
behind-first : (p q r : List Merged) (a d : Merged) → Two (p ++ a ∷ []) → p ++ a ∷ q ≡ d ∷ r → Ordered (p ++ a ∷ q) → All (Before d) (a ∷ q)
behind-first [] q r a d t e o = absurd t
behind-first (x ∷ p) q r a d t e o = subst (λ z. All (Before z) (a ∷ q)) (head-eq_of_cons-eq e) (All-right (Before x) p (a ∷ q) o.1)

-- the bars that are left begin at the end's first bar, which is behind the start's
module _ (l : List Merged) (f : Found) (m : MadeFrom l f) (o : Ordered l) where
  abbrev s : Fractal
  s = m.start

  abbrev e : Fractal
  e = m.end

  abbrev c : Cut e (steps.l0 l o s e m.others m.all m.first)
  c = steps.c0 l o s e m.others m.all m.first

  abbrev d : Cut s l
  d = steps.cs l o s e m.others m.all m.first

  made-behind : All (Before s.left) (e.left ∷ e.mid ∷ e.right ∷ c.after)
  made-behind =
      behind-first c.before (e.mid ∷ e.right ∷ c.after) (s.mid ∷ s.right ∷ d.after) e.left s.left
      (subst Two (steps.back_is l o s e m.others m.all m.first) (steps.two l o s e m.others m.all m.first))
      (sym c.is ∙ d.from-left) (subst Ordered c.is (steps.o0 l o s e m.others m.all m.first))

  made_floor : All (Elements s.left.bar.time) (rest_made l f m)
  made_floor =
      let u = s.left.bar.time in
      subst (All (Elements u)) (sym (steps.rest-is l o s e m.others m.all m.first))
      (All-map (e.left ∷ e.mid ∷ e.right ∷ c.after) (λ y h. before-elements u s.left y (times.le_refl u) h) made-behind)

floors_keep : (n : ℤ) → Keeps (λ l bs. Inv n bs l × ElementFloors l bs)
unfolding stroke_of
floors_keep n =
    record {
      cuts = λ l r. ((inv_keeps n).cuts l r.0, tt);
      makes = λ l bs f m r. (
        (inv_keeps n).makes l bs f m r.0,
        floors_put bs (stroke_made l f m) l (rest_made l f m) (λ P cs. (bars_keeps P).makes l cs f m) (made_floor l f m r.0.ordered) r.1,
      );
      takes = λ l bs s r. ((inv_keeps n).takes l bs s r.0, floors_took bs s l (joined s l) (λ P cs. (bars_keeps P).takes l cs s) r.1);
    }

-- ---- a bar comes

floors_change : (bs : List Stroke) (l m : List Merged) (n : ℤ) → All (λ b. T (le_z (first-time b) n)) bs → ((t : ℤ) → T (le_z t n) → All (Elements t) l → All (Elements t) m)
    → ElementFloors l bs → ElementFloors m bs
floors_change [] l m n e f d = tt
floors_change (b ∷ bs) l m n e f d = ((f (first-time b) e.0 d.0.0, d.0.1), floors_change bs l m n e.1 f d.1)

-- what holds of the elements and of b's time holds of the bars that go through merging again
again-all : (Q : ℤ → Type 0) (raw : List Bar) (l : List Merged) (b : Bar) → Q b.time → All (λ k. All Q k.elements) l → All (λ y. Q y.time) (again raw (last l) b)
unfolding again last
again-all Q raw [] b q a = (q, tt)
again-all Q raw (k ∷ []) b q a =
    All-append (λ y. Q y.time) (at_times raw (init k.elements)) (b ∷ []) (at_all Q raw (init k.elements) (All-init Q k.elements a.0)) (q, tt)
again-all Q raw (k ∷ j ∷ l) b q a = again-all Q raw (j ∷ l) b q a.1

fed-elements : (t : Bool) (s : State) (b : Bar) (u : ℤ) → T (le_z u b.time) → All (Elements u) s.unfinished → All (Elements u) (merged_with t s b)
unfolding merged_with merge_all
fed-elements true s b u h a = elements-merged (λ v. T (le_z u v)) s.unfinished b h a
fed-elements false s b u h a =
    elements_fold (λ v. T (le_z u v)) (init s.unfinished) (again s.raw (last s.unfinished) b) (again-all (λ v. T (le_z u v)) s.raw s.unfinished b h a)
    (All-init (Elements u) s.unfinished a)

-- ---- a feed

step_floors : (minimum most : ℕ) (t : Bool) (s : State) (b : Bar) → Fed b s.strokes (merged_with t s b) (raw_with t s b) → ElementFloors s.unfinished s.strokes
    → ElementFloors (step_with minimum most t s b).state.unfinished (step_with minimum most t s b).state.strokes
unfolding step_with finish
step_floors minimum most t s b f d =
    let l = merged_with t s b in
    let m = move minimum l s.strokes in
    let a = floors_change s.strokes s.unfinished l b.time f.inv.early (fed-elements t s b) d in
    floors_shed (ltb most (length m.kept)) m.left m.kept (move_keeps _ (floors_keep b.time) minimum l s.strokes (f.inv, a)).1

feed_floors : (minimum most : ℕ) (t : Bool) (s : State) (b : Bar) → Fine s → (T t → T (question9 (last s.raw) b)) → ElementFloors s.unfinished s.strokes
    → ElementFloors (feed_if minimum most t s b).state.unfinished (feed_if minimum most t s b).state.strokes
unfolding feed_if step
feed_floors minimum most true s b f h d = let l = is_later (last s.raw) b in step_floors minimum most l s b (fed l s b f (λ x. x) (λ x. x) (h tt)) d
feed_floors minimum most false s b f h d = d

run_floors : (ok : State → Bar → Bool) → NotEarlier ok → (minimum most : ℕ) (s : Step) (bs : List Bar) → Fine s.state → ElementFloors s.state.unfinished s.state.strokes
    → ElementFloors (run ok minimum most s bs).state.unfinished (run ok minimum most s bs).state.strokes
unfolding run feed
run_floors ok h minimum most s [] f d = d
run_floors ok h minimum most s (b ∷ bs) f d =
    let t = ok s.state b in
    run_floors ok h minimum most (record { state = (feed ok minimum most s.state b).state; events = plus s.events (feed ok minimum most s.state b).events }) bs (feed_fine minimum most t s.state b f (h s.state b)) (feed_floors minimum most t s.state b f (h s.state b) d)

start_floors : ElementFloors start.state.unfinished start.state.strokes
unfolding start fresh
start_floors = tt

-- every list of feed calls
pub reached_floors : (ok : State → Bar → Bool) → NotEarlier ok → (minimum most : ℕ) (bs : List Bar)
    → ElementFloors (run ok minimum most start bs).state.unfinished (run ok minimum most start bs).state.strokes
reached_floors ok h minimum most bs = run_floors ok h minimum most start bs start_fine start_floors
