use mathlib.Core.Path.{refl}
use Rattle.strokes.specs.Lent.{stores_of}
use Rattle.sound.specs.FreshStand.{rooms_of}
use Rattle.sound.proofs.fresh_stand.rooms_of.Goals as goal

pub returns : goal.returns
unfolding rooms_of stores_of
returns c = refl
