use borrow.Author.Rules.{rules}
use mir.ValLaws.{to_z-of_z}
use mir.Syntax.{w64}
use Rattle.zones.specs.Code.GrowingRun.{in_order_with}
use Rattle.zones.proofs.runs_of_strokes.GrowingRun.in_order_with.Goals as goal

pub returns-then-self : goal.returns-then-self
unfolding in_order_with
returns-then-self c = let a = c.args in rw (c.if-self.true, to_z-of_z w64 a.self.last.ended (record { sfits = search rules }), to_z-of_z w64 a.s.ended (record { sfits = search rules }))

pub returns-else-self : goal.returns-else-self
unfolding in_order_with
returns-else-self c = rw c.if-self.false
