use Rattle.sound.specs.Code.SoundStand.{merged_row_by}
use Rattle.sound.proofs.soundness.merged_row.Goals as goal

pub returns : goal.returns
unfolding merged_row_by
returns g c = c.bar_passes.ensures
