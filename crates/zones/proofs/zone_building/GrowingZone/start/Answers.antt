use Rattle.zones.specs.Code.GrowingZone.{started}
use lib.Ieee.{of_bits, div, neg}
use Rattle.zones.proofs.zone_building.GrowingZone.start.Goals as goal

pub returns : goal.returns
unfolding of_bits div neg started
returns c = rw (c.min.ensures, c.max.ensures, c.max-2.ensures, c.min-2.ensures)
