use Rattle.zones.specs.Code.GrowingZone.{joined_later}
use Rattle.zones.proofs.zone_building.GrowingZone.joined_later.Goals as goal

pub returns : goal.returns
unfolding joined_later
returns c = rw (c.max.ensures, c.min.ensures, c.later_with.ensures)
