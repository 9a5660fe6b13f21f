use Rattle.std.proofs.Common.{arith}
use Rattle.std.proofs.lemmas.Grind.{common_steps}
use mathlib.Core.Path.{◌∙◌}
use Rattle.machine.specs.Soundness.{is_setting}
use Rattle.sound.proofs.soundness.is_setting.Goals as goal

pub returns : goal.returns
unfolding is_setting
returns c = let w = c.new.ensures in c.contains.ensures.value ∙ rw (w.start, w.end, w.exhausted) (grind (arith, common_steps))
