use Rattle.std.proofs.Common.{arith}
use Rattle.asking.specs.Code.FeedPlan.{end_in, bars_made}
use Rattle.asking.proofs.PlanLaws.{plan_few, plan_none, plan_some}
use Rattle.asking.proofs.plan.plan_of.Goals as goal

pub kept_plan-requires : goal.kept_plan-requires
unfolding end_in bars_made
kept_plan-requires c = (omega arith, omega arith, omega (arith, c.len-then-len-lt3.ensures, c.requires.few))

pub returns-then-len-lt3-clause-value : goal.returns-then-len-lt3-clause-value
returns-then-len-lt3-clause-value c =
    plan_few c.args.view c.args.minimum _ c.args.last _ c.len-then-len-lt3.ensures (omega (arith, c.len.ensures, c.if-len-lt3.true)) c.kept_plan.ensures.value

pub returns-in-None-clause-value : goal.returns-in-None-clause-value
returns-in-None-clause-value c =
    plan_none c.args.view c.args.minimum _ c.args.last (omega (arith, c.len.ensures, c.if-len-lt3.false)) c.in-None.is c.first_plan.ensures.value

pub returns-in-Some-clause-value : goal.returns-in-Some-clause-value
returns-in-Some-clause-value c =
    plan_some c.args.view c.args.minimum _ c.args.last _ (omega (arith, c.len.ensures, c.if-len-lt3.false)) c.in-Some.is c.later_plan.ensures.value
