use Rattle.asking.proofs.PlanLaws.{kept_in}
use Rattle.asking.proofs.plan.kept_plan.Goals as goal

pub returns-clause-in_view : goal.returns-clause-in_view
returns-clause-in_view c = let a = c.args in kept_in a.cut _ a.found a.total c.requires.0 c.requires.1
