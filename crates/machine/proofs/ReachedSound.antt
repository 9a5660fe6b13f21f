-- What holds of the states reached from fresh: the claims of specs/Reached and specs/ReachedByTime.
-- Assumes nothing.
use Prim.Native.Nat.{ℕ, zero, suc}
use native.Mathlib.Omega.{arith}
use mathlib.Core.Path.{◌≡◌, refl, ap, sym, ◌∙◌, subst}
use mathlib.Core.Bool.{Bool, true, false, ◌&&◌, cond}
use mathlib.Core.List.{List, [], ◌∷◌, ◌++◌}
use mathlib.Core.Option.{Option, none, some}
use lib.Dec.{T}
use lib.Ieee.Bits.{is_true}
use lib.Ieee.Fits.{and_i, and_l, and_r}
use Rattle.bars.specs.declared.Bar.{Bar}
use Rattle.bars.specs.Lists.{last}
use Rattle.bars.specs.Questions.{question5, question6, question7, question8, question9, first_no, first_failed}
use Rattle.machine.specs.Stand.{Settings, State, fresh}
use Rattle.machine.specs.Rising.{Rising}
use Rattle.machine.specs.ReachedByTime.{ReachedByTime}
use Rattle.machine.specs.Feed.{merged_with, Step, is_later}
use Rattle.machine.specs.Feed as place-feed
use Rattle.machine.specs.Soundness.{settings_sound, counts_fit, lists_sound, sound_but, newest_last, sound}
use Rattle.machine.specs.FeedQuestions.{merged, question10, question11, question12, or_else, first_of, failed_after4, failed}
use Rattle.machine.specs.Calls.{FeedAnswer, number_of, feed_by, calls, accepted, accepted_by, each_later}
use Rattle.machine.specs.Calls as place-calls
use Rattle.machine.specs.NewestOnly.{failed_newest, feed_newest, run_newest, calls_newest}
use Rattle.machine.specs.Unsound.{five, deep, tipping, after, unsound_after}
use Rattle.machine.specs.Reached as reached
use Rattle.machine.specs.Reached.{Later, ReachedSound}
use Rattle.machine.proofs.MachineByTime.{feed_if, feed, step, run, start, AllLater, Shallow}
use Rattle.machine.proofs.Lists.{All-map}
use Rattle.machine.proofs.MergingKeepsOrder.{ordered_rising}
use Rattle.machine.proofs.ReplacedBars.{Fine, fed, start_fine}
use Rattle.machine.proofs.ReachedWell.{Well, feed_well, start_well}
use Rattle.machine.proofs.ClausesHold.{well_lists}
use Rattle.machine.proofs.NewestWhereLater.{newest-later}
use Rattle.machine.proofs.NewestWhereShallow.{newest-shallow}
use Rattle.machine.proofs.CountsFit.{Fits, call_fits, fresh-fits, counts_fit_lem, one_each}
use Rattle.machine.proofs.SameMachine.{is_none, passes, asks, step_same, same-machine}

-- ---- a state on the way, and the next

-- what holds of every state reached from fresh
pub record Reached (c : Settings) (s : State) : Type 0 where
  pub fine : Fine s
  pub well : Well c.most s
  pub fits : Fits c s

same_by : (n : ℕ) (c : Settings) (s : State) (b : Bar) → (T (is_none n) → place-feed.step c s b ≡ step c.minimum c.most s b)
    → (feed_by n c s b).state ≡ (feed_if c.minimum c.most (is_none n) s b).state
unfolding feed_by feed_if is_none
same_by zero c s b h = ap (λ z. z.state) (h tt)
same_by (suc n) c s b h = refl

-- a call of either machine leaves the same state
state-same : (c : Settings) (s : State) (b : Bar) → Reached c s → (place-calls.feed c s b).state ≡ (feed (passes c) c.minimum c.most s b).state
unfolding place-calls.feed feed passes
state-same c s b r = same_by (failed c s b) c s b (λ h. step_same c s b r.fine r.well.kept.built (asks c s b h).1)

pub next_reached : (c : Settings) (s : State) (b : Bar) → Reached c s → Reached c (place-calls.feed c s b).state
unfolding feed
next_reached c s b r =
    let v = feed_well c.minimum c.most (passes c s b) s b r.fine r.well (asks c s b) in
    let e = state-same c s b r in
    record { fine = subst Fine (sym e) v.0; well = subst (Well c.most) (sym e) v.1; fits = call_fits c s b r.fits }

pub fresh_reached : (c : Settings) → Reached c fresh
unfolding start
fresh_reached c = record { fine = start_fine; well = start_well c.most; fits = fresh-fits c }

run_reached : (c : Settings) (s : Step) (bs : List Bar) → Reached c s.state → Reached c (place-calls.run c s bs).state
unfolding place-calls.run
run_reached c s [] r = r
run_reached c s (b ∷ bs) r = run_reached c (record { state = (place-calls.feed c s.state b).state; events = place-calls.plus s.events (place-calls.feed c s.state b).answer }) bs (next_reached c s.state b r)

pub calls_reached : (c : Settings) (bs : List Bar) → Reached c (calls c bs).state
unfolding calls place-calls.start
calls_reached c bs = run_reached c place-calls.start bs (fresh_reached c)

-- ---- every clause but the one on the newest raw bar

pub reached_but : (c : Settings) (s : State) → T (settings_sound c) → Reached c s → T (sound_but c s)
unfolding sound_but
reached_but c s h r =
    and_i (settings_sound c) (counts_fit c s && lists_sound c.most s) h
    (and_i (counts_fit c s) (lists_sound c.most s) (counts_fit_lem c s r.fits) (well_lists c.most s r.fine r.well))

every : (c : Settings) → T (settings_sound c) → (bs : List Bar) → T (sound_but c (calls c bs).state)
every c h bs = reached_but c (calls c bs).state h (calls_reached c bs)

-- ---- every clause, where times rise

later_by : (n : ℕ) (c : Settings) (p : Option Bar) (s : State) (b : Bar) (bs : List Bar) → (place-calls.feed c s b) ≡ feed_by n c s b
    → (feed_by n c s b).state ≡ (feed_if c.minimum c.most (is_none n) s b).state
    → ((q : Option Bar) → T (each_later q (accepted c (feed_by n c s b).state bs)) → AllLater (passes c) c.minimum c.most q (feed_by n c s b).state bs)
    → T (each_later p (accepted_by (feed_by n c s b).answer b (accepted c (feed_by n c s b).state bs)))
    → (T (is_none n) → T (is_later p b)) × AllLater (passes c) c.minimum c.most (cond (is_none n) (some b) p) (feed_if c.minimum c.most (is_none n) s b).state bs
unfolding feed_by accepted_by each_later is_none
later_by zero c p s b bs e q r h =
    let l = accepted c (place-feed.step c s b).state bs in (
      (λ t. and_l (is_later p b) (each_later (some b) l) h),
      subst (λ z. AllLater (passes c) c.minimum c.most (some b) z bs) q (r (some b) (and_r (is_later p b) (each_later (some b) l) h)),
    )
later_by (suc n) c p s b bs e q r h = ((λ t. absurd t), subst (λ z. AllLater (passes c) c.minimum c.most p z bs) q (r p h))

all-later : (c : Settings) (p : Option Bar) (s : State) (bs : List Bar) → Reached c s → T (each_later p (accepted c s bs)) → AllLater (passes c) c.minimum c.most p s bs
unfolding accepted feed passes place-calls.feed
all-later c p s [] r h = tt
all-later c p s (b ∷ bs) r h =
    later_by (failed c s b) c p s b bs refl (state-same c s b r) (λ q k. all-later c q (place-calls.feed c s b).state bs (next_reached c s b r) k) h

-- the state of a list of calls, of either machine
calls-state : (c : Settings) (bs : List Bar) → (run (passes c) c.minimum c.most start bs).state ≡ (calls c bs).state
calls-state c bs = ap (λ z. z.state) (sym (same-machine c bs))

-- what it takes for the last clause
both_sound : (c : Settings) → T (settings_sound c) → (bs : List Bar) → T (newest_last (run (passes c) c.minimum c.most start bs).state) → T (sound c (calls c bs).state)
unfolding sound
both_sound c h bs n =
    and_i (sound_but c (calls c bs).state) (newest_last (calls c bs).state) (every c h bs) (subst (λ z. T (newest_last z)) (calls-state c bs) n)

pub start-later : (c : Settings) (bs : List Bar) → Later c bs → AllLater (passes c) c.minimum c.most none start.state bs
unfolding start
start-later c bs h = all-later c none fresh bs (fresh_reached c) h

later : (c : Settings) → T (settings_sound c) → (bs : List Bar) → Later c bs → T (sound c (calls c bs).state)
later c h bs a = both_sound c h bs (newest-later (passes c) (asks c) c.minimum c.most bs (start-later c bs a))

-- ---- every clause, where no element is left out

all-shallow : (c : Settings) (s : State) (bs : List Bar) → Reached c s → reached.Shallow c s bs → Shallow (passes c) c.minimum c.most s bs
all-shallow c s [] r h = tt
all-shallow c s (b ∷ bs) r h =
    (h.0, subst (λ z. Shallow (passes c) c.minimum c.most z bs) (state-same c s b r) (all-shallow c (place-calls.feed c s b).state bs (next_reached c s b r) h.1))

start-shallow : (c : Settings) (bs : List Bar) → reached.Shallow c fresh bs → Shallow (passes c) c.minimum c.most start.state bs
unfolding start
start-shallow c bs h = all-shallow c fresh bs (fresh_reached c) h

shallow : (c : Settings) → T (settings_sound c) → (bs : List Bar) → reached.Shallow c fresh bs → T (sound c (calls c bs).state)
shallow c h bs a = both_sound c h bs (newest-shallow (passes c) (asks c) c.minimum c.most bs (start-shallow c bs a))

-- ---- no feed is answered 4, where times rise

not_4 : (t : Bool) (n later : ℕ) → (n ≡ 4 → ⊥) → (later ≡ 4 → ⊥) → or_else t n later ≡ 4 → ⊥
unfolding or_else
not_4 true n later h k e = k e
not_4 false n later h k e = h e

first-not_4 : (n later : ℕ) → (n ≡ 4 → ⊥) → (later ≡ 4 → ⊥) → first_of n later ≡ 4 → ⊥
unfolding first_of
first-not_4 zero later h k e = k e
first-not_4 (suc n) later h k e = h e

bar-not_4 : (p q r s t : Bool) → first_no p q r s t ≡ 4 → ⊥
unfolding first_no
bar-not_4 false q r s t e = omega arith
bar-not_4 true false r s t e = omega arith
bar-not_4 true true false s t e = omega arith
bar-not_4 true true true false t e = omega arith
bar-not_4 true true true true false e = omega arith
bar-not_4 true true true true true e = omega arith

after_4 : (c : Settings) (s : State) (b : Bar) → failed_after4 c s b ≡ 4 → ⊥
unfolding failed_after4 first_failed
after_4 c s b =
    first-not_4 (first_failed (last s.raw) b) _ (bar-not_4 (question5 b) (question6 b) (question7 b) (question8 b) (question9 (last s.raw) b))
    (not_4 (question10 c s b) 10 _ (λ e. omega arith)
    (not_4 (question11 c s b) 11 _ (λ e. omega arith)
    (not_4 (question12 c s b) 12 0 (λ e. omega arith) (λ e. omega arith))))

sound-failed : (c : Settings) (s : State) (b : Bar) → T (sound c s) → failed c s b ≡ failed_after4 c s b
unfolding failed or_else
sound-failed c s b h = ap (λ (t : Bool). or_else t 4 (failed_after4 c s b)) (is_true (sound c s) h)

number_by : (n : ℕ) (c : Settings) (s : State) (b : Bar) → number_of (feed_by n c s b).answer ≡ n
unfolding number_of feed_by
number_by zero c s b = refl
number_by (suc n) c s b = refl

sound-answers : (c : Settings) (s : State) (b : Bar) → T (sound c s) → (place-calls.feed c s b).answer ≡ FeedAnswer.Refused 4 → ⊥
unfolding place-calls.feed number_of
sound-answers c s b h e = after_4 c s b (sym (sound-failed c s b h) ∙ sym (number_by (failed c s b) c s b) ∙ ap number_of e)

never_4 : (c : Settings) → T (settings_sound c) → (bs : List Bar) → Later c bs → (b : Bar) → (place-calls.feed c (calls c bs).state b).answer ≡ FeedAnswer.Refused 4 → ⊥
never_4 c h bs a b e = sound-answers c (calls c bs).state b (later c h bs a) e

-- ---- it is enough to ask of the newest raw bar

failed-same : (c : Settings) (s : State) (b : Bar) → T (sound_but c s) → failed c s b ≡ failed_newest c s b
unfolding failed failed_newest sound
failed-same c s b h = ap (λ (t : Bool). or_else (t && newest_last s) 4 (failed_after4 c s b)) (is_true (sound_but c s) h)

next_by : ℕ → Settings → Step → Bar → Step
next_by n c s b = record { state = (feed_by n c s.state b).state; events = place-calls.plus s.events (feed_by n c s.state b).answer }

newest-run : (c : Settings) → T (settings_sound c) → (s : Step) (bs : List Bar) → Reached c s.state → place-calls.run c s bs ≡ run_newest c s bs
unfolding place-calls.run run_newest place-calls.feed feed_newest next_by
newest-run c h s [] r = refl
newest-run c h s (b ∷ bs) r =
    newest-run c h (next_by (failed c s.state b) c s b) bs (next_reached c s.state b r)
    ∙ ap (λ n. run_newest c (next_by n c s b) bs) (failed-same c s.state b (reached_but c s.state h r))

newest-only : (c : Settings) → T (settings_sound c) → (bs : List Bar) → calls c bs ≡ calls_newest c bs
unfolding calls calls_newest place-calls.start
newest-only c h bs = newest-run c h place-calls.start bs (fresh_reached c)

-- ---- the claims

five-sound : T (settings_sound five)
unfolding five settings_sound
five-sound = tt

not_always : newest_last (calls five (deep ++ tipping ∷ [])).state ≡ false
unfolding after
not_always = ap (λ z. newest_last z.state) (newest-only five five-sound (deep ++ tipping ∷ [])) ∙ unsound_after.0

and_false : (t : Bool) → t && false ≡ false
and_false true = refl
and_false false = refl

unsound_answers : (c : Settings) (s : State) (b : Bar) → newest_last s ≡ false → place-calls.feed c s b ≡ record { answer = FeedAnswer.Refused 4; state = s }
unfolding place-calls.feed feed_by failed or_else sound
unsound_answers c s b e = ap (λ (t : Bool). feed_by (or_else t 4 (failed_after4 c s b)) c s b) (ap (λ (t : Bool). sound_but c s && t) e ∙ and_false (sound_but c s))

stuck : (b : Bar) → place-calls.feed five (calls five (deep ++ tipping ∷ [])).state b ≡ record { answer = FeedAnswer.Refused 4; state = (calls five (deep ++ tipping ∷ [])).state }
stuck b = unsound_answers five (calls five (deep ++ tipping ∷ [])).state b not_always

pub reached_sound : ReachedSound
reached_sound = record { every = every; later = later; shallow = shallow; not_always = not_always; stuck = stuck; never_4 = never_4; newest-only = newest-only; one_each = one_each }

-- ---- from fresh, by place is by time

merged-rising : (s : State) (b : Bar) → Fine s → T (question9 (last s.raw) b) → Rising (merged s b)
unfolding merged
merged-rising s b f q =
    let t = is_later (last s.raw) b in
    ordered_rising (merged_with t s b) (fed t s b f (λ x. x) (λ x. x) q).inv.ordered

pub reached_by_time : ReachedByTime
reached_by_time =
    record {
      rising = λ c bs b q. merged-rising (calls c bs).state b (calls_reached c bs).fine q;
      cut = λ c bs. All-map (calls c bs).state.strokes (λ b w. record { rest = w.rest; first = w.first; last_but_one = w.before_last }) (calls_reached c bs).well.kept.built;
    }
