use mathlib.Core.Path.{refl}
use Rattle.sound.specs.Code.SoundStand.{top_row}
use Rattle.sound.proofs.soundness.is_top_row.Goals as goal

pub returns : goal.returns
unfolding top_row
returns c = refl
