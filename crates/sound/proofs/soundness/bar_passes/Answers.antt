use mathlib.Core.Bool.{◌&&◌}
use Rattle.sound.specs.Code.SoundStand.{merged_row_by}
use Rattle.sound.proofs.soundness.bar_passes.Goals as goal

pub returns : goal.returns
unfolding merged_row_by
returns g c = λ i. c.prices_pass.ensures i && (c.from_zero.ensures i && c.from_zero-2.ensures i)
