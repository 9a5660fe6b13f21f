-- The raw bars of the states reached from fresh: the claims of specs/ReachedRaw.
-- Assumes nothing.
use Prim.Native.Nat.{ℕ, zero, suc}
use mathlib.Core.Path.{◌≡◌, refl, ap, sym, ◌∙◌, subst}
use mathlib.Core.Bool.{Bool}
use mathlib.Core.List.{List, [], ◌∷◌, ◌++◌, append_assoc, append-nil, nil≢cons}
use mathlib.Core.Option.{Option, none, some, none-ne-some}
use lib.ListN.{length}
use lib.IntN.{ℤ}
use lib.Dec.{T, ltb}
use Rattle.bars.specs.declared.Bar.{Bar}
use Rattle.bars.specs.Bars.{Merged}
use Rattle.bars.specs.Lists.{All, last, every}
use Rattle.bars.specs.Questions.{question9}
use Rattle.machine.specs.Strokes.{Stroke}
use Rattle.machine.specs.Stand.{Settings, State, fresh}
use Rattle.machine.specs.Feed.{Step, shed_if, raw_with, merged_with, is_later}
use Rattle.machine.specs.Feed as place-feed
use Rattle.machine.specs.Soundness.{is_named}
use Rattle.machine.specs.FeedQuestions.{failed}
use Rattle.machine.specs.Calls.{feed_by, feed, plus, run, start, calls, accepted_by, accepted}
use Rattle.machine.specs.ReachedRaw.{ReachedRaw}
use Rattle.machine.proofs.MachineByTime.{move, drop_early, finish, step_with, step}
use Rattle.machine.proofs.Lists.{All-map, All-zip}
use Rattle.machine.proofs.StrokesMeet.{last-append}
use Rattle.machine.proofs.StrokesBeforeKept.{move_inv, shed_inv}
use Rattle.machine.proofs.ReplacedBars.{Stands, Fed, fed, last-raw}
use Rattle.machine.proofs.TimeFloor.{Starts}
use Rattle.machine.proofs.ElementFloors.{ElementFloors, reached_floors}
use Rattle.machine.proofs.ReachedWell.{Called}
use Rattle.machine.proofs.ClausesHold.{every_of, called}
use Rattle.machine.proofs.NewestWhereLater.{asks_later}
use Rattle.machine.proofs.SameMachine.{is_none, passes, asks, step_same, same-machine}
use Rattle.machine.proofs.ReachedSound.{Reached, next_reached, fresh_reached, calls_reached}
use Rattle.bars.proofs.Times as times

-- ---- the newest raw bar is the last accepted bar

step-last : (minimum most : ℕ) (t : Bool) (s : State) (b : Bar) → Fed b s.strokes (merged_with t s b) (raw_with t s b) → last (step_with minimum most t s b).state.raw ≡ some b
unfolding step_with finish
step-last minimum most t s b f =
    let m = move minimum (merged_with t s b) s.strokes in
    let over = ltb most (length m.kept) in
    let i = shed_inv over b.time m.kept m.left (move_inv b.time minimum (merged_with t s b) s.strokes f.inv) in
    ap (λ z. last (drop_early (shed_if over m.kept) z)) f.is ∙ last-raw (shed_if over m.kept) f.old b i.early

newest-step : (c : Settings) (s : State) (b : Bar) → Reached c s → T (question9 (last s.raw) b) → last (place-feed.step c s b).state.raw ≡ some b
unfolding step
newest-step c s b r q =
    let l = is_later (last s.raw) b in
    ap (λ (z : Step). last z.state.raw) (step_same c s b r.fine r.well.kept.built q)
    ∙ step-last c.minimum c.most l s b (fed l s b r.fine (λ x. x) (λ x. x) q)

-- a call, by the first question that failed: p are the bars accepted before it, q those after it, and l comes behind
newest_by : (n : ℕ) (c : Settings) (s : State) (b : Bar) (p l : List Bar) → (T (is_none n) → last (place-feed.step c s b).state.raw ≡ some b) → last s.raw ≡ last p
    → (q : List Bar) × (last (feed_by n c s b).state.raw ≡ last q) × (q ++ l ≡ p ++ accepted_by (feed_by n c s b).answer b l)
unfolding feed_by accepted_by is_none
newest_by zero c s b p l h e = (p ++ b ∷ [], h tt ∙ sym (last-append p b), append_assoc p (b ∷ []) l)
newest_by (suc n) c s b p l h e = (p, e, refl)

newest-run : (c : Settings) (s : Step) (bs p : List Bar) → Reached c s.state → last s.state.raw ≡ last p → last (run c s bs).state.raw ≡ last (p ++ accepted c s.state bs)
unfolding run accepted feed passes
newest-run c s [] p r e = e ∙ ap last (sym (append-nil p))
newest-run c s (b ∷ bs) p r e =
    let k = newest_by (failed c s.state b) c s.state b p (accepted c (feed c s.state b).state bs) (λ h. newest-step c s.state b r (asks c s.state b h).1) e in
    newest-run c (record { state = (feed c s.state b).state; events = plus s.events (feed c s.state b).answer }) bs k.0 (next_reached c s.state b r) k.1 ∙ ap last k.2

newest : (c : Settings) (bs : List Bar) → last (calls c bs).state.raw ≡ last (accepted c fresh bs)
unfolding calls start fresh
newest c bs = newest-run c start bs [] (fresh_reached c) refl

-- ---- where there is none

no_last : {A : Type 0} (l : List A) → last l ≡ none → l ≡ []
unfolding last
no_last [] e = refl
no_last (a ∷ []) e = absurd (none-ne-some a (sym e))
no_last (a ∷ b ∷ l) e = absurd (nil≢cons (sym (no_last (b ∷ l) e)))

none-accepted : (c : Settings) (bs : List Bar) → (calls c bs).state.raw ≡ [] → accepted c fresh bs ≡ []
unfolding last
none-accepted c bs e = no_last (accepted c fresh bs) (sym (newest c bs) ∙ ap last e)

nothing_held : (o : Option Bar) (s : State) → o ≡ none → Stands o s.raw s.strokes s.unfinished → s ≡ fresh
unfolding fresh
nothing_held none s e f = λ i. record { raw = f.2 i; unfinished = f.1 i; strokes = f.0 i }
nothing_held (some r) s e f = absurd (none-ne-some r (sym e))

none-held : (c : Settings) (bs : List Bar) → (calls c bs).state.raw ≡ [] → (calls c bs).state ≡ fresh
unfolding last
none-held c bs e = nothing_held (last (calls c bs).state.raw) (calls c bs).state (ap last e) (calls_reached c bs).fine

-- ---- with a stroke kept, all elements of unfinished bars name raw bars

-- u is a floor for the strokes, so that what their first bars are a floor for is called
all_called : (u : ℤ) (raw : List Bar) (l : List Merged) (bs : List Stroke) → All (Starts u) bs → ElementFloors l bs → All (Called u raw) l → (bs ≡ [] → ⊥) → All (λ k. T (is_named raw k)) l
all_called u raw l [] h d c n = absurd (n refl)
all_called u raw l (b ∷ bs) h d c n =
    All-zip l (λ k g e. called u raw k g (All-map k.elements (λ t a. times.le_trans u b.start.left.bar.time t h.0 a) e)) c d.0.0

calls_floors : (c : Settings) (bs : List Bar) → ElementFloors (calls c bs).state.unfinished (calls c bs).state.strokes
calls_floors c bs =
    subst (λ (z : Step). ElementFloors z.state.unfinished z.state.strokes) (sym (same-machine c bs)) (reached_floors (passes c) (asks_later (passes c) (asks c)) c.minimum c.most bs)

named : (c : Settings) (bs : List Bar) → ((calls c bs).state.strokes ≡ [] → ⊥) → T (every (is_named (calls c bs).state.raw) (calls c bs).state.unfinished)
named c bs n =
    let s = (calls c bs).state in
    let w = (calls_reached c bs).well in
    every_of (is_named s.raw) s.unfinished (all_called w.floor s.raw s.unfinished s.strokes w.kept.low.strokes (calls_floors c bs) w.kept.named.0 n)

pub reached_raw : ReachedRaw
reached_raw = record { newest = newest; none-accepted = none-accepted; none-held = none-held; named = named }
