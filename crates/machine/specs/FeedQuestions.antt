-- Questions 4 to 12 of document 01, asked of a feed in this order; a "no" gives the number. Definitions only.
use Rattle.std.specs.Prelude.{ℕ, zero, suc, Bool, true, false, ◌&&◌, List, length, ltb, leb}
use Rattle.bars.specs.declared.Bar.{Bar}
use Rattle.bars.specs.Bars.{Merged}
use Rattle.bars.specs.Lists.{last}
use Rattle.bars.specs.Questions.{first_failed}
use Rattle.machine.specs.Stand.{Settings, State}
use Rattle.machine.specs.Feed.{Moved, is_later, merged_with, make, move}
use Rattle.machine.specs.Soundness.{bars_of, sound}

-- ---- question 10: if later, are fewer raw bars held than the store takes?

unfoldable pub fewer_if : Bool → ℕ → ℕ → Bool
fewer_if true count room = ltb count room
fewer_if false count room = true

unfoldable pub question10 : Settings → State → Bar → Bool
unfolding fewer_if is_later last
question10 c s b = fewer_if (is_later (last s.raw) b) (length s.raw) c.raw_room

-- ---- question 11: do unfinished bars fit after merging, and again after a broken stroke is joined?

-- the unfinished bars right after merging
unfoldable pub merged : State → Bar → List Merged
unfolding merged_with is_later last
merged s b = merged_with (is_later (last s.raw) b) s b

-- by the number of broken strokes
unfoldable pub joined_fits : ℕ → ℕ → List Merged → Bool
joined_fits zero room l = true
joined_fits (suc n) room l = leb (length l) room

unfoldable pub moved_fits : ℕ → Moved → Bool
unfolding joined_fits
moved_fits room m = joined_fits m.broken room m.left

unfoldable pub question11 : Settings → State → Bar → Bool
unfolding merged moved_fits move
question11 c s b = leb (length (merged s b)) c.unfinished_room && moved_fits c.unfinished_room (move c.minimum (merged s b) s.strokes)

-- ---- question 12: do stroke bars fit, a stroke just found counted, before any is broken or shed? Bars that two strokes share count in both.

unfoldable pub question12 : Settings → State → Bar → Bool
unfolding merged make bars_of
question12 c s b = leb (bars_of (make c.minimum (merged s b) s.strokes).kept) c.stroke_room

-- ---- the questions in order

-- a "no" gives the number n; after a "yes" the later questions decide
unfoldable pub or_else : Bool → ℕ → ℕ → ℕ
or_else false n later = n
or_else true n later = later

-- the number of a "no" among earlier questions; where there is none, the later questions decide
unfoldable pub first_of : ℕ → ℕ → ℕ
first_of zero later = later
first_of (suc n) later = suc n

-- of questions 5 to 12, the first that is answered "no", or 0
unfoldable pub failed_after4 : Settings → State → Bar → ℕ
unfolding first_of first_failed or_else question10 question11 question12 last
failed_after4 c s b = first_of (first_failed (last s.raw) b) (or_else (question10 c s b) 10 (or_else (question11 c s b) 11 (or_else (question12 c s b) 12 0)))

-- the first question that is answered "no", or 0
unfoldable pub failed : Settings → State → Bar → ℕ
unfolding or_else sound failed_after4
failed c s b = or_else (sound c s) 4 (failed_after4 c s b)
