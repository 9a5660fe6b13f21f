use borrow.Author.Tests.{ne_eqb}
use native.Mathlib.Omega.{arith}
use Prim.Native.Nat.{◌+◌}
use mathlib.Core.Path.{ap, sym, ◌∙◌}
use Rattle.zones.specs.declared.zone_building.GrowingZone.{GrowingZone}
use Rattle.zones.specs.Code.ZoneSteps.{next_of, next_if}
use Rattle.zones.proofs.lent_zone.Building.next.Goals as goal

pub returns-then-opens : goal.returns-then-opens
unfolding next_of next_if
returns-then-opens c = let a = c.args in let some = c.requires.some in rw (ne_eqb a.self.size 0 (λ z. omega arith), sym c.opens.ensures ∙ c.if-opens.true) (ap (λ (z : GrowingZone). record { zone = z; size = 1; done = a.self.done + 1 }) c.start.ensures)

pub returns : goal.returns
unfolding next_of next_if
returns c = let a = c.args in let some = c.requires.some in rw (ne_eqb a.self.size 0 (λ z. omega arith), sym c.opens.ensures ∙ c.if-opens.false) (ap (λ (z : GrowingZone). record { zone = z; size = a.self.size + 1; done = a.self.done }) c.joined.ensures)
