-- What is answered of a fractal that is named by its stroke and its place in that stroke's list, or by its place among the unfinished bars' fractals.
-- Definitions only.
use Rattle.std.specs.Prelude.{ℕ, Bool, true, false, ◌≡◌, Result, Ok, Err}
use Rattle.std.proofs.Math.Option.{Option, none, some}
use Rattle.bars.specs.declared.refusals.Question.{Question}
use Rattle.bars.specs.declared.refusals.Question.TheVariants.{Sound, Exists}
use Rattle.machine.specs.Fractals.{Fractal}
use Rattle.strokes.specs.declared.Stand.{Stand}
use Rattle.strokes.specs.StateRead.{state_of}
use Rattle.strokes.specs.Lent.{Stores}
use Rattle.question4.specs.Question4.{question4}
use Rattle.reports.specs.declared.fractal_answers.FractalAnswers.{FractalAnswers}
use Rattle.reports.specs.FractalAnswers.{answers_of, IsStrength}
use Rattle.named.specs.ReportQuestions.{fractal_at, unfinished_at}

-- question 4, then question 13, whether there is such a fractal
unfoldable pub answers_if : Bool → Option Fractal → Result FractalAnswers Question
unfolding answers_of
answers_if false o = Err Sound
answers_if true none = Err Exists
answers_if true (some f) = Ok (answers_of f)

-- where it answers of the fractal that o is, the strength is that fractal's
abbrev pub StrengthAnswered : Option Fractal → Result FractalAnswers Question → Type 0
StrengthAnswered o r = (x : FractalAnswers) → r ≡ Ok x → (f : Fractal) → o ≡ some f → IsStrength f x.power_str

-- of fractal j of the stroke at place i
unfoldable pub stroke_answers_at : Stand → Stores → ℕ → ℕ → Result FractalAnswers Question
unfolding answers_if question4 state_of fractal_at
stroke_answers_at s m i j = answers_if (question4 s m) (fractal_at (state_of s m).strokes i j)

-- of fractal j of the unfinished bars
unfoldable pub unfinished_answers_at : Stand → Stores → ℕ → Result FractalAnswers Question
unfolding answers_if question4 state_of unfinished_at
unfinished_answers_at s m j = answers_if (question4 s m) (unfinished_at (state_of s m).unfinished j)
