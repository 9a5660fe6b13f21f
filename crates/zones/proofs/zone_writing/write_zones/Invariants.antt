use mathlib.Core.Path.{◌≡◌}
use mathlib.Core.List.{foldl}
use lib.ListN.{drop}
use Rattle.zones.specs.Columns.{zones_of, SameRows}
use Rattle.zones.specs.Code.ZoneSteps.{set_zone}
use Rattle.zones.proofs.zone_writing.write_zones.Given as goal

abbrev pub invariant-loop-b : goal.invariant-loop-b
invariant-loop-b l = (foldl set_zone (zones_of l.to) (drop l.b-index l.built) ≡ foldl set_zone (zones_of l.initial.to) l.built) × SameRows l.initial.to l.to
