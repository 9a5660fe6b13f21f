-- What the asking of a feed gives, of the settings, the state and the bar alone: the first of questions 5 to 12 that fails, and what the feed would do.
-- Definitions only.
use Rattle.std.specs.Prelude.{map, ◌≡◌, length, ℤ, pos, IfOk, Result}
use Rattle.std.specs.Prelude.{Some, None}
use Rattle.std.specs.declared.option.Option as Std
use Rattle.std.proofs.Math.Option.{Option, none, some}
use Rattle.bars.specs.declared.Bar.{Bar}
use Rattle.bars.specs.declared.refusals.Question.{Question}
use Rattle.bars.specs.Bars.{Merged}
use Rattle.bars.specs.Refusals.{asked}
use Rattle.bars.specs.Lists.{last, init}
use Rattle.machine.specs.Strokes.{Stroke}
use Rattle.machine.specs.Break.{high_of, low_of}
use Rattle.machine.specs.Stand.{Settings, State}
use Rattle.machine.specs.Feed.{is_later}
use Rattle.machine.specs.FeedQuestions.{merged, failed_after4}
use Rattle.check_bi.specs.Code.Scan.{candle_of}
use Rattle.asking.specs.declared.questions.Asked.{Asked}
use Rattle.asking.specs.declared.plan.Last.{Last}
use Rattle.asking.specs.declared.plan.Plan.{Plan}
use Rattle.asking.specs.Code.FeedPlan.{plan_of}

-- the time of a bar, if there is one
unfoldable pub time_or0 : Option Merged → ℤ
time_or0 none = pos 0
time_or0 (some k) = k.bar.time

-- of the last kept stroke, if there is one, what its break goes by
unfoldable pub last_of : Option Stroke → Std.Option Last
unfolding high_of low_of time_or0 last init
last_of none = None
last_of (some b) =
    Some (record { mark = b.start.mark; high = high_of b; low = low_of b; bars = length b.bars; time = time_or0 (last (init b.bars)) })

-- what the feed of b would do
unfoldable pub plan_for : Settings → State → Bar → Plan
unfolding plan_of last_of last candle_of merged
plan_for c s b = plan_of c.minimum (last_of (last s.strokes)) (map candle_of (merged s b))

-- what the asking answers: refused by the number of the first "no", and where there is none, whether b is later than the newest raw bar, and the plan
pub record AskedOf (c : Settings) (s : State) (b : Bar) (r : Result Asked Question) : Type 0 where
  pub failed : asked r ≡ failed_after4 c s b
  pub later : IfOk r (λ a. a.later ≡ is_later (last s.raw) b)
  pub plan : IfOk r (λ a. a.plan ≡ plan_for c s b)
