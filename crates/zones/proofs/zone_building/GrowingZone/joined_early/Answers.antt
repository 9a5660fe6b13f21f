use Rattle.zones.specs.Code.GrowingZone.{joined_early}
use Rattle.zones.proofs.zone_building.GrowingZone.joined_early.Goals as goal

pub returns : goal.returns
unfolding joined_early
returns c = rw (c.min.ensures, c.max.ensures, c.max-2.ensures, c.min-2.ensures)
