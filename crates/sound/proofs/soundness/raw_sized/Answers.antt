use mathlib.Core.Path.{refl}
use Rattle.strokes.specs.StateRead.{raw_sized}
use Rattle.sound.proofs.soundness.raw_sized.Goals as goal

pub returns : goal.returns
unfolding raw_sized
returns c = refl
