use Rattle.zones.proofs.zone_building.GrowingZone.later_with.Goals as goal

pub returns-then-self : goal.returns-then-self
returns-then-self c = rw c.if-self.true c.meets_range.ensures

pub returns-else-self : goal.returns-else-self
returns-else-self c = rw c.if-self.false
