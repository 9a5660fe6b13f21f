-- A call of feed with its answer, and a list of calls from a fresh analyzer: document 01's plain machine, questions included. Definitions only.
use Rattle.std.specs.Prelude.{ℕ, zero, suc, ◌+◌, Bool, true, ◌&&◌, List, [], ◌∷◌}
use Rattle.std.proofs.Math.Option.{Option, some}
use Rattle.bars.specs.declared.Bar.{Bar}
use Rattle.machine.specs.Stand.{Settings, State, fresh}
use Rattle.machine.specs.Feed.{Events, Step, step, is_later}
use Rattle.machine.specs.FeedQuestions.{failed}

-- the number of the question that was answered "no", or the strokes made, broken and shed
pub data FeedAnswer : Type 0 where
  Refused : ℕ → FeedAnswer
  Fed : Events → FeedAnswer

-- the number that document 01 gives a refusal; 0 for an answer
unfoldable pub number_of : FeedAnswer → ℕ
number_of (FeedAnswer.Refused n) = n
number_of (FeedAnswer.Fed e) = 0

-- a call gives its answer and the state after it
pub record Call : Type 0 where
  pub answer : FeedAnswer
  pub state : State

-- by the first question that failed: after a refusal the state is as it was
unfoldable pub feed_by : ℕ → Settings → State → Bar → Call
unfolding step
feed_by zero c s b = record { answer = FeedAnswer.Fed (step c s b).events; state = (step c s b).state }
feed_by (suc n) c s b = record { answer = FeedAnswer.Refused (suc n); state = s }

unfoldable pub feed : Settings → State → Bar → Call
unfolding feed_by failed
feed c s b = feed_by (failed c s b) c s b

-- ---- a list of calls

unfoldable pub none_yet : Events
none_yet = record { made = 0; broken = 0; shed = 0 }

-- refused calls add nothing
unfoldable pub plus : Events → FeedAnswer → Events
plus e (FeedAnswer.Refused n) = e
plus e (FeedAnswer.Fed f) = record { made = e.made + f.made; broken = e.broken + f.broken; shed = e.shed + f.shed }

-- the state after the calls, and the answers added up
unfoldable pub run : Settings → Step → List Bar → Step
unfolding feed plus
run c s [] = s
run c s (b ∷ bs) = run c (record { state = (feed c s.state b).state; events = plus s.events (feed c s.state b).answer }) bs

-- before the first call
unfoldable pub start : Step
unfolding fresh none_yet
start = record { state = fresh; events = none_yet }

-- the calls from a fresh analyzer
unfoldable pub calls : Settings → List Bar → Step
unfolding run start
calls c bs = run c start bs

-- ---- the bars that are accepted

unfoldable pub accepted_by : FeedAnswer → Bar → List Bar → List Bar
accepted_by (FeedAnswer.Refused n) b l = l
accepted_by (FeedAnswer.Fed e) b l = b ∷ l

unfoldable pub accepted : Settings → State → List Bar → List Bar
unfolding feed accepted_by
accepted c s [] = []
accepted c s (b ∷ bs) = accepted_by (feed c s b).answer b (accepted c (feed c s b).state bs)

-- each bar is later than the one before it, the first than p
unfoldable pub each_later : Option Bar → List Bar → Bool
unfolding is_later
each_later p [] = true
each_later p (b ∷ l) = is_later p b && each_later (some b) l
