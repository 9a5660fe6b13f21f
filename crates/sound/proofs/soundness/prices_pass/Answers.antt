use Rattle.std.proofs.Common.{arith}
use Rattle.std.proofs.lemmas.Grind.{common_steps}
use Rattle.sound.specs.Code.SoundStand.{prices_by}
use Rattle.sound.proofs.soundness.prices_pass.Goals as goal

pub returns-then-this-ne0 : goal.returns-then-this-ne0
unfolding prices_by
returns-then-this-ne0 g c = grind (arith, common_steps)

pub returns : goal.returns
unfolding prices_by
returns g c = grind (arith, common_steps)
