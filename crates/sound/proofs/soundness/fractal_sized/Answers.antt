use mathlib.Core.Path.{refl}
use Rattle.strokes.specs.StateRead.{fractal_sized}
use Rattle.sound.proofs.soundness.fractal_sized.Goals as goal

pub returns : goal.returns
unfolding fractal_sized
returns c = refl
