-- The inner raw bars of a kept stroke, written to lent columns: questions 4, 13 and 14, and what stands in the columns then. Definitions only.
use Rattle.std.specs.Prelude.{ℕ, Bool, true, false, ◌&&◌, List, map, length, Result, Ok, Err}
use Rattle.std.proofs.Math.Option.{Option, none, some}
use Rattle.bars.specs.declared.Bar.{Bar}
use Rattle.bars.specs.declared.refusals.Question.{Question}
use Rattle.bars.specs.declared.refusals.Question.TheVariants.{Sound, Exists, OutputRoom}
use Rattle.bars.specs.Bars.{row_of}
use Rattle.stores.specs.Stores.{RawStore, raw_store}
use Rattle.machine.specs.Strokes.{Stroke}
use Rattle.strokes.specs.declared.Stand.{Stand}
use Rattle.strokes.specs.StateRead.{state_of}
use Rattle.strokes.specs.Lent.{Stores}
use Rattle.strokes.specs.FractalRows.{pasted}
use Rattle.question4.specs.Question4.{question4}
use Rattle.reports.specs.Measures.{get_raw_bars}
use Rattle.named.specs.ReportQuestions.{nth, question14}

-- ---- bars written to columns

-- the columns with these bars from place `at` on; all other rows stay
unfoldable pub put_bars : RawStore → ℕ → List Bar → RawStore
unfolding pasted row_of
put_bars d at bs = raw_store (pasted d.times at (map (λ b. b.time) bs)) (pasted d.ids at (map (λ b. b.id) bs)) (pasted d.prices at (map row_of bs))

-- ---- what is answered

-- the answer, how many bars or the question that failed, and the columns then
pub record RawBarsListed : Type 0 where
  pub answer : Result ℕ Question
  pub columns : RawStore

abbrev pub listed : Result ℕ Question → RawStore → RawBarsListed
listed r d = record { answer = r; columns = d }

-- question 14: has each column a place for each of these bars?
unfoldable pub places_for : List Bar → RawStore → Bool
unfolding question14
places_for bs d = question14 bs (length d.times) && question14 bs (length d.ids) && question14 bs (length d.prices)

unfoldable pub list_if : Bool → List Bar → RawStore → RawBarsListed
unfolding put_bars
list_if false bs d = listed (Err OutputRoom) d
list_if true bs d = listed (Ok (length bs)) (put_bars d 0 bs)

-- these bars from place 0 on, if there is a place for each
unfoldable pub list_bars : List Bar → RawStore → RawBarsListed
unfolding list_if places_for
list_bars bs d = list_if (places_for bs d) bs d

-- question 4, then question 13, whether there is such a stroke, then 14
unfoldable pub raw_bars_if : Bool → List Bar → Option Stroke → RawStore → RawBarsListed
unfolding list_bars get_raw_bars
-- a refusal leaves the columns as they were
raw_bars_if false raw o d = listed (Err Sound) d
raw_bars_if true raw none d = listed (Err Exists) d
raw_bars_if true raw (some b) d = list_bars (get_raw_bars raw b) d

-- of the stroke at place i, into the columns d
unfoldable pub raw_bars_at : Stand → Stores → ℕ → RawStore → RawBarsListed
unfolding raw_bars_if question4 state_of nth
raw_bars_at s m i d = raw_bars_if (question4 s m) (state_of s m).raw (nth (state_of s m).strokes i) d
