use Rattle.std.proofs.Common.{arith}
use Rattle.std.proofs.lemmas.Grind.{common_steps}
use Rattle.bars.specs.Questions.{question5, first_time, last_time}
use mathlib.Core.Path.{◌∙◌}
use Rattle.bars.proofs.questions.time_in_range.Goals as goal

pub returns : goal.returns
unfolding question5 first_time last_time
returns c = let w = c.new.ensures in c.contains.ensures.value ∙ rw (w.start, w.end, w.exhausted) (grind (arith, common_steps))
