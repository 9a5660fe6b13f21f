-- The plain machine as the Rust searches: check_bi and the first cut by time, the join from the end fractal's time (the Rust
-- reads it off the stroke's last bar but one, which that fractal is centred on), dropping by the start fractal's first bar.
-- The questions are a test `ok` of state and bar. That from a fresh analyzer it takes the same steps as the machine of specs/ is proved in SameMachine.
-- Assumes nothing.
use Prim.Native.Nat.{ℕ, ◌+◌, ◌≤◌}
use mathlib.Core.Bool.{Bool, true, false, cond}
use mathlib.Core.List.{List, [], ◌∷◌, ◌++◌}
use mathlib.Core.Option.{Option, none, some}
use lib.ListN.{length}
use lib.Signed.{lt_z}
use lib.Dec.{T, ltb}
use Rattle.bars.specs.declared.Bar.{Bar}
use Rattle.bars.specs.Bars.{Merged}
use Rattle.bars.specs.Lists.{All, skip_while, last, init}
use Rattle.bars.specs.Questions.{is_bar, question9}
use Rattle.machine.specs.Strokes.{Stroke}
use Rattle.machine.specs.ByTime.{from, check_bi_by_time, cut_by_time}
use Rattle.machine.specs.Break.{breaks}
use Rattle.machine.specs.Stand.{State, fresh}
use Rattle.machine.specs.Feed.{Moved, add_made, Step, Events, is_later, raw_with, merged_with, shed_if, shed_count}

-- ---- a step

unfoldable pub joined : Stroke → List Merged → List Merged
unfolding init from
joined b l = init (init b.bars) ++ from b.end.mid.bar.time l

unfoldable pub break_if : Bool → Moved → Stroke → Moved
unfolding joined init
break_if true m b = record { left = joined b m.left; kept = init m.kept; made = m.made; broken = 1 }
break_if false m b = m

unfoldable pub break_last : Moved → Option Stroke → Moved
unfolding break_if breaks last
break_last m none = m
break_last m (some b) = break_if (breaks b (last m.left)) m b

unfoldable pub move_some : ℕ → List Merged → List Stroke → Moved
unfolding add_made break_last cut_by_time check_bi_by_time last
move_some minimum l [] = add_made [] (check_bi_by_time minimum (cut_by_time l))
move_some minimum l (b ∷ bs) = let m = add_made (b ∷ bs) (check_bi_by_time minimum l) in break_last m (last m.kept)

unfoldable pub move : ℕ → List Merged → List Stroke → Moved
unfolding move_some
move minimum [] bs = record { left = []; kept = bs; made = 0; broken = 0 }
move minimum (a ∷ []) bs = record { left = a ∷ []; kept = bs; made = 0; broken = 0 }
move minimum (a ∷ b ∷ []) bs = record { left = a ∷ b ∷ []; kept = bs; made = 0; broken = 0 }
move minimum (a ∷ b ∷ c ∷ l) bs = move_some minimum (a ∷ b ∷ c ∷ l) bs

unfoldable pub drop_early : List Stroke → List Bar → List Bar
unfolding skip_while
drop_early [] raw = raw
drop_early (b ∷ bs) raw = skip_while (λ r. lt_z r.time b.start.left.bar.time) raw

unfoldable pub finish : ℕ → List Bar → Moved → Step
unfolding drop_early shed_if shed_count
finish most raw m =
    let over = ltb most (length m.kept) in
    let bs = shed_if over m.kept in
    record {
      state = record { raw = drop_early bs raw; unfinished = m.left; strokes = bs };
      events = record { made = m.made; broken = m.broken; shed = shed_count over };
    }

unfoldable pub step_with : ℕ → ℕ → Bool → State → Bar → Step
unfolding finish move raw_with merged_with
step_with minimum most t s b = finish most (raw_with t s b) (move minimum (merged_with t s b) s.strokes)

unfoldable pub step : ℕ → ℕ → State → Bar → Step
unfolding step_with is_later last
step minimum most s b = step_with minimum most (is_later (last s.raw) b) s b

-- ---- a list of calls

unfoldable pub feed_if : ℕ → ℕ → Bool → State → Bar → Step
unfolding step
feed_if minimum most true s b = step minimum most s b
feed_if minimum most false s b = record { state = s; events = record { made = 0; broken = 0; shed = 0 } }

unfoldable pub feed : (State → Bar → Bool) → ℕ → ℕ → State → Bar → Step
unfolding feed_if
feed ok minimum most s b = feed_if minimum most (ok s b) s b

unfoldable pub plus : Events → Events → Events
plus a b = record { made = a.made + b.made; broken = a.broken + b.broken; shed = a.shed + b.shed }

unfoldable pub run : (State → Bar → Bool) → ℕ → ℕ → Step → List Bar → Step
unfolding feed plus
run ok minimum most s [] = s
run ok minimum most s (b ∷ bs) =
    let n = feed ok minimum most s.state b in
    run ok minimum most (record { state = n.state; events = plus s.events n.events }) bs

unfoldable pub start : Step
start = record { state = fresh; events = record { made = 0; broken = 0; shed = 0 } }

-- ---- what is asked of the questions and of the list

-- every bar that is accepted passes question 9
abbrev pub NotEarlier : (State → Bar → Bool) → Type 0
NotEarlier ok = (s : State) (b : Bar) → T (ok s b) → T (question9 (last s.raw) b)

-- .. and questions 5 to 8
abbrev pub Asks : (State → Bar → Bool) → Type 0
Asks ok = (s : State) (b : Bar) → T (ok s b) → T (is_bar b) × T (question9 (last s.raw) b)

-- every bar that is accepted is later than the one accepted before it, which is `previous`
abbrev pub AllLater : (State → Bar → Bool) → ℕ → ℕ → Option Bar → State → List Bar → Type 0
AllLater ok minimum most previous s [] = Unit {0}
AllLater ok minimum most previous s (b ∷ bs) =
    (T (ok s b) → T (is_later previous b)) × AllLater ok minimum most (cond (ok s b) (some b) previous) (feed ok minimum most s b).state bs

-- no unfinished bar of a state before a call has more than 100 elements: merging never leaves an element out
abbrev pub Shallow : (State → Bar → Bool) → ℕ → ℕ → State → List Bar → Type 0
Shallow ok minimum most s [] = Unit {0}
Shallow ok minimum most s (b ∷ bs) = All (λ k. length k.elements ≤ 100) s.unfinished × Shallow ok minimum most (feed ok minimum most s b).state bs
