-- The questions that a report asks before it answers: 4, of the stand and its lent stores, and 13, of a kept stroke that is named by its place. Definitions only.
use Rattle.std.specs.Prelude.{ℕ, Bool, true, false, Result, Ok, Err, ltb}
use Rattle.bars.specs.declared.refusals.Question.{Question}
use Rattle.bars.specs.declared.refusals.Question.TheVariants.{Sound, Exists}
use Rattle.strokes.specs.declared.Stand.{Stand}
use Rattle.strokes.specs.Lent.{Stores}
use Rattle.question4.specs.Question4.{question4}
use Rattle.named.specs.declared.stroke_rows.StrokeRows.{StrokeRows}
use Rattle.named.specs.Code.NamedRows.{rows_of}

-- a, where question 4 passed
unfoldable pub if_sound : {A : Type 0} → Bool → A → Result A Question
if_sound true a = Ok a
if_sound false a = Err Sound

-- a, where questions 4 and 13 passed
unfoldable pub if_kept : {A : Type 0} → Bool → Bool → A → Result A Question
if_kept true true a = Ok a
if_kept true false a = Err Exists
if_kept false t a = Err Sound

-- the rows of the stroke at place i
unfoldable pub asked_rows : Stand → Stores → ℕ → Result StrokeRows Question
unfolding if_kept question4 rows_of
asked_rows s m i = if_kept (question4 s m) (ltb i s.strokes) (rows_of s i)
