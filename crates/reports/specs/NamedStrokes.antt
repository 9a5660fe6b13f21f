-- A kept stroke that is named by its place, oldest 0: where its rows stand in the stroke store, and what is answered of it. Definitions only.
use Rattle.std.specs.Prelude.{ℕ, Bool, true, false, List, Result, Ok, Err}
use Rattle.std.proofs.Math.Option.{Option, none, some}
use Rattle.bars.specs.declared.Bar.{Bar}
use Rattle.bars.specs.declared.refusals.Question.{Question}
use Rattle.bars.specs.declared.refusals.Question.TheVariants.{Sound, Exists}
use Rattle.machine.specs.Strokes.{Stroke}
use Rattle.strokes.specs.declared.Stand.{Stand}
use Rattle.strokes.specs.StateRead.{state_of}
use Rattle.strokes.specs.Lent.{Stores}
use Rattle.question4.specs.Question4.{question4}
use Rattle.reports.specs.declared.measures.Measures.{Measures}
use Rattle.reports.specs.Measures.{measures_of}
use Rattle.named.specs.ReportQuestions.{nth}

-- ---- its measures

-- question 4, then question 13, whether there is such a stroke; the places are the stand's
unfoldable pub measures_if : Bool → ℕ → ℕ → List Bar → Option Stroke → Result Measures Question
unfolding measures_of
measures_if false power ratio raw o = Err Sound
measures_if true power ratio raw none = Err Exists
measures_if true power ratio raw (some b) = Ok (measures_of power ratio raw b)

unfoldable pub measures_at : Stand → Stores → ℕ → Result Measures Question
unfolding measures_if question4 state_of nth
measures_at s m i = measures_if (question4 s m) s.power_places s.ratio_places (state_of s m).raw (nth (state_of s m).strokes i)
