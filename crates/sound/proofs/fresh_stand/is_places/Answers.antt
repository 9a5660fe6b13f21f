use mathlib.Core.Path.{refl}
use Rattle.machine.specs.Soundness.{is_places}
use Rattle.sound.proofs.fresh_stand.is_places.Goals as goal

pub returns : goal.returns
unfolding is_places
returns c = refl
