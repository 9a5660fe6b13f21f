use mathlib.Core.Bool.{◌&&◌}
use Rattle.sound.specs.FreshStand.{rooms_fit}
use Rattle.sound.proofs.fresh_stand.rooms_fit.Goals as goal

pub returns : goal.returns
unfolding rooms_fit
returns c = λ i. c.is_room.ensures i && (c.is_room-2.ensures i && c.is_room-3.ensures i)
