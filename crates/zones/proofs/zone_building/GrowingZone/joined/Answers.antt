use mathlib.Core.Path.{◌∙◌}
use Rattle.zones.specs.Code.GrowingZone.{joined_of, joined_if}
use Rattle.zones.proofs.ZoneFolds.{third_joined, later_joined}
use Rattle.zones.proofs.zone_building.GrowingZone.joined.Goals as goal

pub returns-in-None-default : goal.returns-in-None-default
unfolding joined_of joined_if
returns-in-None-default c = rw c.in-None-default.is-0 c.joined_early.ensures

pub returns-in-Some-None : goal.returns-in-Some-None
returns-in-Some-None c = let a = c.args in c.joined_early-in-Some-None.ensures ∙ third_joined a.self a.s _ c.in-Some-None.is-0 c.in-Some-None.is-1

pub returns-in-Some-Some : goal.returns-in-Some-Some
returns-in-Some-Some c = let a = c.args in c.joined_later.ensures ∙ later_joined a.self a.s _ _ c.in-Some-Some.is-0 c.in-Some-Some.is-1
