-- From a fresh analyzer the machine of specs/, which searches by place, takes the same steps as the one that searches by time, since the times of its
-- unfinished bars rise after every merging and its strokes are cut from them.
-- Assumes nothing.
use Prim.Native.Nat.{ℕ, zero, suc, ◌+◌}
use native.Mathlib.Omega.{arith}
use mathlib.Core.Path.{◌≡◌, refl, ap, ◌∙◌, subst}
use mathlib.Core.Bool.{Bool, true, false, ◌&&◌}
use mathlib.Core.List.{List, [], ◌∷◌, ◌++◌}
use mathlib.Core.Option.{Option, none, some, some-injective, none-ne-some}
use lib.ListN.{length}
use lib.IntN.{ℤ}
use lib.Dec.{T, leb, ltb, le→leb}
use lib.Ieee.Bits.{is_true}
use lib.Ieee.Fits.{and_i}
use Rattle.bars.specs.declared.Bar.{Bar}
use Rattle.bars.specs.Bars.{Merged}
use Rattle.bars.specs.Lists.{All, last, init}
use Rattle.bars.specs.Questions.{question9, is_bar, question5, question6, question7, question8, first_no, first_failed}
use Rattle.machine.specs.Fractals.{check_fxs}
use Rattle.machine.specs.Strokes.{Stroke, check_bi, cut}
use Rattle.machine.specs.ByTime.{check_bi_by_time, cut_by_time, cut_at}
use Rattle.machine.specs.Rising.{Rising}
use Rattle.machine.specs.Break.{breaks, from_bar}
use Rattle.machine.specs.Break as place
use Rattle.machine.specs.Stand.{Settings, State}
use Rattle.machine.specs.Feed.{Moved, Events, Step, add_made, make_after, move_after, move_if, finish_if, shed_if, shed_count, drop_before, is_later, raw_with, merged_with}
use Rattle.machine.specs.Feed as place-feed
use Rattle.machine.specs.Soundness.{sound}
use Rattle.machine.specs.FeedQuestions.{question10, question11, question12, or_else, first_of, failed_after4, failed}
use Rattle.machine.specs.Calls.{feed_by, calls}
use Rattle.machine.specs.Calls as place-calls
use Rattle.machine.proofs.MachineByTime.{joined, break_if, break_last, move_some, move, drop_early, finish, step_with, step, feed_if, feed, plus, run, start, Asks}
use Rattle.machine.proofs.ByPlace.{by_place, cut_by_place}
use Rattle.machine.proofs.MergingKeepsOrder.{Ordered, ordered_rising}
use Rattle.machine.proofs.ChainKept.{cut_ordered}
use Rattle.machine.proofs.MadeStroke.{check_outcome}
use Rattle.machine.proofs.StrokesBefore.{Inv}
use Rattle.machine.proofs.ReplacedBars.{Fine, Fed, fed, start_fine}
use Rattle.machine.proofs.EventsKeep.{add_then, move_keeps, All-shed}
use Rattle.machine.proofs.StrokeBuilt.{Built, built_keeps}
use Rattle.machine.proofs.ReachedWell.{Well, feed_well, start_well}

-- ---- the break and the join

last-all : {A : Type 0} (P : A → Type 0) (l : List A) (a : A) → last l ≡ some a → All P l → P a
unfolding last
last-all P [] a h p = absurd (none-ne-some a h)
last-all P (x ∷ []) a h p = subst P (some-injective x a h) p.0
last-all P (x ∷ y ∷ l) a h p = last-all P (y ∷ l) a h p.1

joined_same : (b : Stroke) (l : List Merged) → Built b → place.joined b l ≡ joined b l
unfolding place.joined joined from_bar
joined_same b l w = ap (λ o. init (init b.bars) ++ from_bar o l) w.before_last

break_if_lem : (t : Bool) (m : Moved) (b : Stroke) → Built b → place-feed.break_if t m b ≡ break_if t m b
unfolding place-feed.break_if break_if
break_if_lem true m b w = λ i. record { left = joined_same b m.left w i; kept = init m.kept; made = m.made; broken = 1 }
break_if_lem false m b w = refl

break_last_lem : (m : Moved) (o : Option Stroke) → last m.kept ≡ o → All Built m.kept → place-feed.break_last m o ≡ break_last m o
unfolding place-feed.break_last break_last
break_last_lem m none h w = refl
break_last_lem m (some b) h w = break_if_lem (breaks b (last m.left)) m b (last-all Built m.kept b h w)

-- ---- a stroke is made

cut-rises : (l : List Merged) → Ordered l → Rising (cut_by_time l)
unfolding cut_by_time
cut-rises l o = ordered_rising (cut_at l (check_fxs l)) (cut_ordered l (check_fxs l) o)

found-cut : (minimum : ℕ) (l : List Merged) → Ordered l → check_bi minimum (cut l) ≡ check_bi_by_time minimum (cut_by_time l)
found-cut minimum l o = ap (check_bi minimum) (cut_by_place l (ordered_rising l o)) ∙ by_place minimum (cut_by_time l) (cut-rises l o)

some_same : (n : ℤ) (minimum : ℕ) (l : List Merged) (bs : List Stroke) → Inv n bs l → All Built bs → move_after minimum l bs ≡ move_some minimum l bs
unfolding move_after make_after move_some
some_same n minimum l [] i w = ap (add_made []) (found-cut minimum l i.ordered)
some_same n minimum l (b ∷ bs) i w =
    let m = add_made (b ∷ bs) (check_bi_by_time minimum l) in
    ap (λ f. place-feed.break_last (add_made (b ∷ bs) f) (last (add_made (b ∷ bs) f).kept)) (by_place minimum l (ordered_rising l i.ordered))
    ∙ break_last_lem m (last m.kept) refl (add_then _ (built_keeps n) l (b ∷ bs) (check_bi_by_time minimum l) (i, w) (check_outcome minimum l)).1

move_same : (n : ℤ) (minimum : ℕ) (l : List Merged) (bs : List Stroke) → Inv n bs l → All Built bs → place-feed.move minimum l bs ≡ move minimum l bs
unfolding place-feed.move move_if move
move_same n minimum [] bs i w = refl
move_same n minimum (a ∷ []) bs i w = refl
move_same n minimum (a ∷ b ∷ []) bs i w = refl
move_same n minimum (a ∷ b ∷ c ∷ l) bs i w =
    ap (λ (t : Bool). move_if t minimum (a ∷ b ∷ c ∷ l) bs) (is_true (leb 3 (length (a ∷ b ∷ c ∷ l))) (le→leb 3 (length (a ∷ b ∷ c ∷ l)) (omega arith)))
    ∙ some_same n minimum (a ∷ b ∷ c ∷ l) bs i w

-- ---- shedding and dropping

drop-same : (bs : List Stroke) (raw : List Bar) → All Built bs → place-feed.drop_early bs raw ≡ drop_early bs raw
unfolding place-feed.drop_early drop_early drop_before
drop-same [] raw w = refl
drop-same (b ∷ bs) raw w = ap (λ z. drop_before z raw) w.0.first

finish-same : (most : ℕ) (raw : List Bar) (m : Moved) → All Built m.kept → place-feed.finish most raw m ≡ finish most raw m
unfolding place-feed.finish finish finish_if
finish-same most raw m w =
    let over = ltb most (length m.kept) in
    λ i. record {
      state = record { raw = drop-same (shed_if over m.kept) raw (All-shed Built over m.kept w) i; unfinished = m.left; strokes = shed_if over m.kept };
      events = record { made = m.made; broken = m.broken; shed = shed_count over };
    }

-- ---- a step

step_with_lem : (minimum most : ℕ) (t : Bool) (s : State) (b : Bar) → Fed b s.strokes (merged_with t s b) (raw_with t s b) → All Built s.strokes
    → place-feed.step_with minimum most t s b ≡ step_with minimum most t s b
unfolding place-feed.step_with step_with
step_with_lem minimum most t s b d w =
    ap (place-feed.finish most (raw_with t s b)) (move_same b.time minimum (merged_with t s b) s.strokes d.inv w)
    ∙ finish-same most (raw_with t s b) (move minimum (merged_with t s b) s.strokes)
    (move_keeps _ (built_keeps b.time) minimum (merged_with t s b) s.strokes (d.inv, w)).1

pub step_same : (c : Settings) (s : State) (b : Bar) → Fine s → All Built s.strokes → T (question9 (last s.raw) b) → place-feed.step c s b ≡ step c.minimum c.most s b
unfolding place-feed.step step
step_same c s b f w q =
    let l = is_later (last s.raw) b in
    step_with_lem c.minimum c.most l s b (fed l s b f (λ x. x) (λ x. x) q) w

-- ---- the questions

unfoldable pub is_none : ℕ → Bool
is_none zero = true
is_none (suc n) = false

-- every question of a feed is answered "yes"
unfoldable pub passes : Settings → State → Bar → Bool
unfolding is_none
passes c s b = is_none (failed c s b)

or_else_lem : (t : Bool) (n later : ℕ) → T (is_none (or_else t (suc n) later)) → T t × T (is_none later)
unfolding or_else is_none
or_else_lem true n later h = (tt, h)
or_else_lem false n later h = absurd h

pub record Passed (c : Settings) (s : State) (b : Bar) : Type 0 where
  pub four : T (sound c s)
  pub five : T (question5 b)
  pub six : T (question6 b)
  pub seven : T (question7 b)
  pub eight : T (question8 b)
  pub nine : T (question9 (last s.raw) b)
  pub ten : T (question10 c s b)
  pub eleven : T (question11 c s b)
  pub twelve : T (question12 c s b)

first_of_lem : (n later : ℕ) → T (is_none (first_of n later)) → T (is_none n) × T (is_none later)
unfolding first_of is_none
first_of_lem zero later h = (tt, h)
first_of_lem (suc n) later h = absurd h

no_first : (p q r s t : Bool) → T (is_none (first_no p q r s t)) → T p × T q × T r × T s × T t
unfolding first_no is_none
no_first false q r s t h = absurd h
no_first true false r s t h = absurd h
no_first true true false s t h = absurd h
no_first true true true false t h = absurd h
no_first true true true true false h = absurd h
no_first true true true true true h = (tt, tt, tt, tt, tt)

pub passed : (c : Settings) (s : State) (b : Bar) → T (passes c s b) → Passed c s b
unfolding passes failed failed_after4 first_failed
passed c s b h =
    let a4 = or_else_lem (sound c s) 3 _ h in
    let a9 = first_of_lem (first_failed (last s.raw) b) _ a4.1 in
    let q = no_first (question5 b) (question6 b) (question7 b) (question8 b) (question9 (last s.raw) b) a9.0 in
    let a10 = or_else_lem (question10 c s b) 9 _ a9.1 in
    let a11 = or_else_lem (question11 c s b) 10 _ a10.1 in
    let a12 = or_else_lem (question12 c s b) 11 0 a11.1 in
    record { four = a4.0; five = q.0; six = q.1; seven = q.2; eight = q.3; nine = q.4; ten = a10.0; eleven = a11.0; twelve = a12.0 }

pub asks : (c : Settings) → Asks (passes c)
unfolding is_bar
asks c s b h =
    let p = passed c s b h in
    (and_i (question5 b && question6 b) (question7 b && question8 b) (and_i (question5 b) (question6 b) p.five p.six) (and_i (question7 b) (question8 b) p.seven p.eight), p.nine)

-- ---- a list of calls

-- nothing is added by a refused call
plus_none : (e : Events) → e ≡ plus e (record { made = 0; broken = 0; shed = 0 })
unfolding plus
plus_none e =
    let p : e.made ≡ e.made + 0 = omega arith in
    let q : e.broken ≡ e.broken + 0 = omega arith in
    let r : e.shed ≡ e.shed + 0 = omega arith in
    λ i. record { made = p i; broken = q i; shed = r i }

-- the next stand of the list, by the first question that failed
next_by_lem : (n : ℕ) (c : Settings) (s : Step) (b : Bar) → (T (is_none n) → place-feed.step c s.state b ≡ step c.minimum c.most s.state b)
    → ◌≡◌ {A = Step}
    (record { state = (feed_by n c s.state b).state; events = place-calls.plus s.events (feed_by n c s.state b).answer })
    (record { state = (feed_if c.minimum c.most (is_none n) s.state b).state; events = plus s.events (feed_if c.minimum c.most (is_none n) s.state b).events })
unfolding feed_by feed_if place-calls.plus plus is_none
next_by_lem zero c s b h = ap (λ (z : Step). record { state = z.state; events = plus s.events z.events }) (h tt)
next_by_lem (suc n) c s b h = λ i. record { state = s.state; events = plus_none s.events i }

run-same : (c : Settings) (s : Step) (bs : List Bar) → Fine s.state → Well c.most s.state → place-calls.run c s bs ≡ run (passes c) c.minimum c.most s bs
unfolding place-calls.run place-calls.feed run feed passes
run-same c s [] f w = refl
run-same c s (b ∷ bs) f w =
    let r = feed_well c.minimum c.most (passes c s.state b) s.state b f w (asks c s.state b) in
    ap (λ z. place-calls.run c z bs) (next_by_lem (failed c s.state b) c s b (λ h. step_same c s.state b f w.kept.built (asks c s.state b h).1))
    ∙ run-same c (record { state = (feed_if c.minimum c.most (passes c s.state b) s.state b).state; events = plus s.events (feed_if c.minimum c.most (passes c s.state b) s.state b).events }) bs r.0 r.1

pub same-machine : (c : Settings) (bs : List Bar) → calls c bs ≡ run (passes c) c.minimum c.most start bs
unfolding calls place-calls.start start
same-machine c bs = run-same c start bs start_fine (start_well c.most)
