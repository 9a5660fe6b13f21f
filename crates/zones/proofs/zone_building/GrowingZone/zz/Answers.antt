use Rattle.zones.specs.Code.GrowingZone.{zz_of}
use lib.Ieee.{of_bits}
use mathlib.Core.Path.{refl}
use Rattle.zones.proofs.zone_building.GrowingZone.zz.Goals as goal

pub returns : goal.returns
unfolding of_bits zz_of
returns c = refl
