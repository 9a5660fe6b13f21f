use lib.Signed.{le_z}
use mathlib.Core.Bool.{◌&&◌}
use mir.Syntax.{w64}
use mir.ValLaws.{to_z-of_z}
use Rattle.bars.specs.Questions.{first_time, last_time}
use Rattle.sound.specs.Code.SoundStand.{in_time}
use Rattle.sound.proofs.soundness.is_in_time.Goals as goal

pub returns : goal.returns
unfolding in_time first_time last_time
returns c = let e = to_z-of_z w64 c.args.t c.ranges.t in λ i. le_z first_time (e i) && le_z (e i) last_time
