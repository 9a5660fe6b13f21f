use mathlib.Core.Path.{ap}
use Rattle.zones.specs.declared.zone_building.GrowingZone.{GrowingZone}
use Rattle.zones.specs.Code.ZoneSteps.{no_zone, next_of, next_if}
use Rattle.zones.proofs.lent_zone.Building.start.Goals as goal

pub returns : goal.returns
unfolding no_zone next_of next_if
returns c = ap (λ (z : GrowingZone). record { zone = z; size = 1; done = 0 }) c.start.ensures
