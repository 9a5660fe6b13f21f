-- Document 01's feed of a bar that passes its questions: merging, then the strokes, then shedding and dropping, as update_bar and __update_bi of the source
-- go. Every value on the way has a name, since questions 10 to 12 ask of them. Definitions only.
use Rattle.std.specs.Prelude.{ℕ, Bool, true, false, List, [], ◌∷◌, ◌++◌, length, drop, ltb, leb}
use Rattle.std.proofs.Math.Option.{Option, none, some}
use Rattle.std.specs.Int.Signed.{lt_z}
use Rattle.bars.specs.declared.Bar.{Bar}
use Rattle.bars.specs.Bars.{Merged}
use Rattle.bars.specs.Lists.{skip_while, last, init}
use Rattle.bars.specs.Merging.{merge_in, merge_all, again}
use Rattle.machine.specs.Strokes.{Stroke, Found, check_bi, cut}
use Rattle.machine.specs.Break.{breaks, joined}
use Rattle.machine.specs.Stand.{Settings, State}

-- ---- merging

-- later than the newest raw bar, if there is one
unfoldable pub is_later : Option Bar → Bar → Bool
is_later none b = true
is_later (some r) b = lt_z r.time b.time

-- the raw bars once b has come: a later bar is put on, one with the last time replaces the last
unfoldable pub raw_with : Bool → State → Bar → List Bar
unfolding init
raw_with true s b = s.raw ++ b ∷ []
raw_with false s b = init s.raw ++ b ∷ []

-- The unfinished bars once b has come. Where it has the last time, the last unfinished bar is taken off, the last of its elements replaced, and all go
-- through merging again.
unfoldable pub merged_with : Bool → State → Bar → List Merged
unfolding merge_in merge_all again last init
merged_with true s b = merge_in s.unfinished b
merged_with false s b = merge_all (init s.unfinished) (again s.raw (last s.unfinished) b)

-- ---- strokes

-- what has become of the unfinished bars and the strokes, and what happened on the way
pub record Moved : Type 0 where
  pub left : List Merged
  pub kept : List Stroke
  pub made : ℕ
  pub broken : ℕ

-- a stroke that was found is put on
unfoldable pub add_found : Option Stroke → List Stroke → List Merged → Moved
add_found none bs l = record { left = l; kept = bs; made = 0; broken = 0 }
add_found (some b) bs l = record { left = l; kept = bs ++ b ∷ []; made = 1; broken = 0 }

unfoldable pub add_made : List Stroke → Found → Moved
unfolding add_found
add_made bs f = add_found f.stroke bs f.rest

-- with no stroke kept, the unfinished bars are first cut; the cut stays even if no stroke is made
unfoldable pub make_after : ℕ → List Merged → List Stroke → Moved
unfolding add_made check_bi cut
make_after minimum l [] = add_made [] (check_bi minimum (cut l))
make_after minimum l (b ∷ bs) = add_made (b ∷ bs) (check_bi minimum l)

-- fewer than 3 unfinished bars: nothing
unfoldable pub make_if : Bool → ℕ → List Merged → List Stroke → Moved
unfolding make_after
make_if true minimum l bs = make_after minimum l bs
make_if false minimum l bs = record { left = l; kept = bs; made = 0; broken = 0 }

-- before any stroke is broken or shed
unfoldable pub make : ℕ → List Merged → List Stroke → Moved
unfolding make_if
make minimum l bs = make_if (leb 3 (length l)) minimum l bs

-- the last stroke b breaks
unfoldable pub break_if : Bool → Moved → Stroke → Moved
unfolding joined init
break_if true m b = record { left = joined b m.left; kept = init m.kept; made = m.made; broken = 1 }
break_if false m b = m

unfoldable pub break_last : Moved → Option Stroke → Moved
unfolding break_if breaks last
break_last m none = m
break_last m (some b) = break_if (breaks b (last m.left)) m b

-- with no stroke kept before, no break test follows
unfoldable pub move_after : ℕ → List Merged → List Stroke → Moved
unfolding make_after break_last last
move_after minimum l [] = make_after minimum l []
move_after minimum l (b ∷ bs) = break_last (make_after minimum l (b ∷ bs)) (last (make_after minimum l (b ∷ bs)).kept)

-- fewer than 3 unfinished bars: nothing, and no break test either
unfoldable pub move_if : Bool → ℕ → List Merged → List Stroke → Moved
unfolding move_after
move_if true minimum l bs = move_after minimum l bs
move_if false minimum l bs = record { left = l; kept = bs; made = 0; broken = 0 }

unfoldable pub move : ℕ → List Merged → List Stroke → Moved
unfolding move_if
move minimum l bs = move_if (leb 3 (length l)) minimum l bs

-- ---- shedding and dropping

-- the oldest stroke beyond the most is shed
unfoldable pub shed_if : Bool → List Stroke → List Stroke
shed_if true bs = drop 1 bs
shed_if false bs = bs

unfoldable pub shed_count : Bool → ℕ
shed_count true = 1
shed_count false = 0

-- raw bars earlier than this list's first merged bar are dropped
unfoldable pub drop_before : List Merged → List Bar → List Bar
unfolding skip_while
drop_before [] raw = raw
drop_before (k ∷ l) raw = skip_while (λ r. lt_z r.time k.bar.time) raw

-- .. which is the first stroke's
unfoldable pub drop_early : List Stroke → List Bar → List Bar
unfolding drop_before
drop_early [] raw = raw
drop_early (b ∷ bs) raw = drop_before b.bars raw

-- ---- the step

-- what a feed answers: strokes made, broken and shed
pub record Events : Type 0 where
  pub made : ℕ
  pub broken : ℕ
  pub shed : ℕ

pub record Step : Type 0 where
  pub state : State
  pub events : Events

unfoldable pub finish_if : Bool → List Bar → Moved → Step
unfolding drop_early shed_if shed_count
finish_if over raw m =
    record {
      state = record { raw = drop_early (shed_if over m.kept) raw; unfinished = m.left; strokes = shed_if over m.kept };
      events = record { made = m.made; broken = m.broken; shed = shed_count over };
    }

unfoldable pub finish : ℕ → List Bar → Moved → Step
unfolding finish_if
finish most raw m = finish_if (ltb most (length m.kept)) raw m

-- the step, by whether the bar is later than the newest
unfoldable pub step_with : ℕ → ℕ → Bool → State → Bar → Step
unfolding finish move raw_with merged_with
step_with minimum most t s b = finish most (raw_with t s b) (move minimum (merged_with t s b) s.strokes)

unfoldable pub step : Settings → State → Bar → Step
unfolding step_with is_later last
step c s b = step_with c.minimum c.most (is_later (last s.raw) b) s b
