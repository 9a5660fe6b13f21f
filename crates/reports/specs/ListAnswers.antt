-- What the list calls answer of a stand and its lent stores: get_finished_bis and last_bi_extend. Definitions only.
use Rattle.std.specs.Prelude.{ℕ, Bool, true, false, length, Result, Ok, Err}
use Rattle.bars.specs.declared.refusals.Question.{Question}
use Rattle.bars.specs.declared.refusals.Question.TheVariants.{Sound}
use Rattle.machine.specs.Stand.{State}
use Rattle.strokes.specs.declared.Stand.{Stand}
use Rattle.strokes.specs.StateRead.{state_of}
use Rattle.strokes.specs.Lent.{Stores}
use Rattle.question4.specs.Question4.{question4}
use Rattle.reports.specs.FractalList.{get_finished_bis, last_bi_extend}

-- ---- get_finished_bis

-- by question 4
unfoldable pub finished_by : Bool → State → Result ℕ Question
unfolding get_finished_bis
finished_by true s = Ok (length (get_finished_bis s.strokes s.unfinished))
finished_by false s = Err Sound

unfoldable pub finished_answer : Stand → Stores → Result ℕ Question
unfolding finished_by question4 state_of
finished_answer s m = finished_by (question4 s m) (state_of s m)

-- ---- last_bi_extend

-- by question 4
unfoldable pub extend_by : Bool → State → Result Bool Question
unfolding last_bi_extend
extend_by true s = Ok (last_bi_extend s.strokes s.unfinished)
extend_by false s = Err Sound

unfoldable pub extend_answer : Stand → Stores → Result Bool Question
unfolding extend_by question4 state_of
extend_answer s m = extend_by (question4 s m) (state_of s m)
