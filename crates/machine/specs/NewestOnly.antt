-- Question 4 asked only as to the newest raw bar: the clause is the one that can fail of a state reached from fresh, so from fresh this is the same machine,
-- and it looks at two bars where soundness looks at all. (Reached has the claim.) Definitions only.
use Rattle.std.specs.Prelude.{ℕ, List, [], ◌∷◌}
use Rattle.bars.specs.declared.Bar.{Bar}
use Rattle.machine.specs.Stand.{Settings, State}
use Rattle.machine.specs.Feed.{Step}
use Rattle.machine.specs.Soundness.{newest_last}
use Rattle.machine.specs.FeedQuestions.{or_else, failed_after4}
use Rattle.machine.specs.Calls.{Call, feed_by, plus, start}

unfoldable pub failed_newest : Settings → State → Bar → ℕ
unfolding or_else newest_last failed_after4
failed_newest c s b = or_else (newest_last s) 4 (failed_after4 c s b)

unfoldable pub feed_newest : Settings → State → Bar → Call
unfolding feed_by failed_newest
feed_newest c s b = feed_by (failed_newest c s b) c s b

unfoldable pub run_newest : Settings → Step → List Bar → Step
unfolding feed_newest plus
run_newest c s [] = s
run_newest c s (b ∷ bs) = run_newest c (record { state = (feed_newest c s.state b).state; events = plus s.events (feed_newest c s.state b).answer }) bs

unfoldable pub calls_newest : Settings → List Bar → Step
unfolding run_newest start
calls_newest c bs = run_newest c start bs
