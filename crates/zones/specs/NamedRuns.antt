-- What is answered of a run of kept strokes, named by its first place and its length: questions 4 and 13, then is_bis_up and is_bis_down. Definitions only.
use Rattle.std.specs.Prelude.{ℕ, zero, suc, Bool, true, false, List, map, Result, Ok, Err}
use Rattle.bars.specs.declared.refusals.Question.{Question}
use Rattle.machine.specs.declared.Direction.{Direction}
use Rattle.machine.specs.declared.Direction.TheVariants.{Up, Down}
use Rattle.strokes.specs.declared.Stand.{Stand}
use Rattle.strokes.specs.StateRead.{state_of}
use Rattle.strokes.specs.Lent.{Stores}
use Rattle.question4.specs.Question4.{question4}
use Rattle.named.specs.ReportQuestions.{run_exists, run_of}
use Rattle.zones.specs.declared.Summary.{Summary}
use Rattle.zones.specs.Zones.{summary}
use Rattle.zones.specs.BisUpDown.{is_bis_up, is_bis_down}

-- the number of the first question that is answered no, by the answers to 4 and to 13; 0 if none is
unfoldable pub failed_if : Bool → Bool → ℕ
failed_if false b = 4
failed_if true false = 13
failed_if true true = 0

unfoldable pub run_failed : Stand → Stores → ℕ → ℕ → ℕ
unfolding failed_if question4 run_exists state_of
run_failed s m first count = failed_if (question4 s m) (run_exists (state_of s m).strokes first count)

-- the summaries of the run's strokes
unfoldable pub named_run : Stand → Stores → ℕ → ℕ → List Summary
unfolding summary run_of state_of
named_run s m first count = map summary (run_of (state_of s m).strokes first count)

-- the number of the question that was answered no, or 0, and the answer
pub record RunAnswer : Type 0 where
  pub failed : ℕ
  pub answer : Bool

abbrev pub run_answer : ℕ → Bool → RunAnswer
run_answer f b = record { failed = f; answer = b }

-- what a call that was not refused has told
abbrev pub held_by : Result Bool Question → Bool
held_by (Ok b) = b
held_by (Err q) = false

-- a refusal answers false
unfoldable pub answer_if : ℕ → Bool → RunAnswer
answer_if zero b = record { failed = 0; answer = b }
answer_if (suc n) b = record { failed = suc n; answer = false }

unfoldable pub bis_up_answer : Stand → Stores → ℕ → ℕ → RunAnswer
unfolding answer_if run_failed is_bis_up named_run
bis_up_answer s m first count = answer_if (run_failed s m first count) (is_bis_up (named_run s m first count))

unfoldable pub bis_down_answer : Stand → Stores → ℕ → ℕ → RunAnswer
unfolding answer_if run_failed is_bis_down named_run
bis_down_answer s m first count = answer_if (run_failed s m first count) (is_bis_down (named_run s m first count))

-- either, by the way that is asked
unfoldable pub bis_answer : Direction → Stand → Stores → ℕ → ℕ → RunAnswer
unfolding bis_up_answer bis_down_answer
bis_answer Up s m first count = bis_up_answer s m first count
bis_answer Down s m first count = bis_down_answer s m first count
