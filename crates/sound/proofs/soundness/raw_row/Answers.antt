use mathlib.Core.Bool.{◌&&◌}
use Rattle.sound.specs.Code.SoundStand.{raw_row_by}
use Rattle.sound.proofs.soundness.raw_row.Goals as goal

pub returns : goal.returns
unfolding raw_row_by
returns g c = λ i. c.prices_pass.ensures i && (c.is_volume.ensures i && c.is_volume-2.ensures i)
