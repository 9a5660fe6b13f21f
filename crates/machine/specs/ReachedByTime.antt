-- From a fresh analyzer the rules by place are the Rust's rules by time: what SearchByTime asks of the bars holds before every search. The claim; its proof is
-- `reached_by_time` of proofs/ReachedSound.
use Rattle.std.specs.Prelude.{◌≡◌, List, ◌∷◌, T}
use Rattle.std.proofs.Math.Option.{some}
use Rattle.bars.specs.declared.Bar.{Bar}
use Rattle.bars.specs.Bars.{Merged}
use Rattle.bars.specs.Lists.{All, last, init}
use Rattle.bars.specs.Questions.{question9}
use Rattle.machine.specs.Strokes.{Stroke}
use Rattle.machine.specs.Rising.{Rising}
use Rattle.machine.specs.Stand.{Settings}
use Rattle.machine.specs.FeedQuestions.{merged}
use Rattle.machine.specs.Calls.{calls}

-- of a kept stroke
pub record Cut (b : Stroke) : Type 0 where
  -- its first bar is its start's, by which the Rust drops raw bars
  pub rest : List Merged
  pub first : b.bars ≡ b.start.left ∷ rest
  -- its last but one bar is its end's middle one, from whose time on unfinished bars are joined
  pub last_but_one : last (init b.bars) ≡ some b.end.mid

pub record ReachedByTime : Type 0 where
  -- once a bar that is not earlier is merged, the times of the unfinished bars rise
  pub rising : (c : Settings) (bs : List Bar) (b : Bar) → T (question9 (last (calls c bs).state.raw) b) → Rising (merged (calls c bs).state b)
  pub cut : (c : Settings) (bs : List Bar) → All Cut (calls c bs).state.strokes
