-- What a call answers that lists the fake strokes of a kept stroke: questions 4, 13 and 14, how many there are, and what the output columns hold afterwards.
-- Definitions only.
use Rattle.std.specs.Prelude.{ℕ, zero, suc, Bool, true, false, ◌&&◌, List, length, Result, Ok, Err}
use Rattle.bars.specs.declared.refusals.Question.{Question}
use Rattle.strokes.specs.declared.Stand.{Stand}
use Rattle.strokes.specs.StateRead.{state_of}
use Rattle.strokes.specs.Lent.{Stores}
use Rattle.question4.specs.Question4.{question4}
use Rattle.named.specs.ReportQuestions.{nth, stroke_exists, fractals_of, question14}
use Rattle.zones.specs.declared.FakeStroke.{FakeStroke}
use Rattle.zones.specs.FakeStrokes.{create_fake_bis}
use Rattle.zones.specs.NamedRuns.{failed_if}
use Rattle.zones.specs.FakeRows.{FakeColumns, put_fakes}

-- create_fake_bis of the kept stroke at a place, power to the stand's places
unfoldable pub fakes_of : Stand → Stores → ℕ → List FakeStroke
unfolding create_fake_bis fractals_of nth state_of
fakes_of s m place = create_fake_bis s.power_places (fractals_of (nth (state_of s m).strokes place))

-- questions 4 and 13
unfoldable pub stroke_failed : Stand → Stores → ℕ → ℕ
unfolding failed_if question4 stroke_exists state_of
stroke_failed s m place = failed_if (question4 s m) (stroke_exists (state_of s m).strokes place)

-- question 14, of every column
unfoldable pub fakes_fit : FakeColumns → List FakeStroke → Bool
unfolding question14
fakes_fit d l = question14 l (length d.times) && (question14 l (length d.prices) && question14 l (length d.codes))

-- the number of the question that was answered no, or 0, and how many fake strokes are listed
pub record FakesAnswer : Type 0 where
  pub failed : ℕ
  pub count : ℕ

-- how many fake strokes a call has listed: none where it was refused
abbrev pub counted : Result ℕ Question → ℕ
counted (Ok n) = n
counted (Err q) = 0

-- the answer of a call, and the output columns after it
pub record FakesCall : Type 0 where
  pub answer : FakesAnswer
  pub columns : FakeColumns

abbrev pub fakes_call : ℕ → ℕ → FakeColumns → FakesCall
fakes_call failed count d = record { answer = record { failed = failed; count = count }; columns = d }

-- where questions 4 and 13 are passed, by question 14
unfoldable pub fakes_if : Bool → FakeColumns → List FakeStroke → FakesCall
unfolding put_fakes
fakes_if true d l = fakes_call 0 (length l) (put_fakes d l)
fakes_if false d l = fakes_call 14 0 d

unfoldable pub fakes_after : ℕ → FakeColumns → List FakeStroke → FakesCall
unfolding fakes_if fakes_fit
fakes_after zero d l = fakes_if (fakes_fit d l) d l
fakes_after (suc n) d l = fakes_call (suc n) 0 d

-- the fake strokes of the kept stroke at a place, to the columns d
unfoldable pub listed_fakes : Stand → Stores → ℕ → FakeColumns → FakesCall
unfolding fakes_after stroke_failed fakes_of
listed_fakes s m place d = fakes_after (stroke_failed s m place) d (fakes_of s m place)
