use Rattle.zones.specs.Code.GrowingRun.{longer}
use borrow.Author.Rules.{rules}
use Rattle.zones.proofs.runs_of_strokes.StrokeCount.longer.Goals as goal

pub returns-in-Even : goal.returns-in-Even
unfolding longer
returns-in-Even c = rw c.in-Even.is

pub returns-in_default : goal.returns-in_default
unfolding longer
returns-in_default c = search rules
