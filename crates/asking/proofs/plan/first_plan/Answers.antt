use Rattle.std.proofs.Common.{arith, refl}
use Rattle.check_bi.specs.Code.View.{bars_in, places}
use Rattle.asking.specs.Code.FeedPlan.{end_in, bars_made}
use Rattle.asking.proofs.PlanLaws.{cut_fits, whole_fits, first_none, first_cut, first_whole}
use Rattle.asking.proofs.plan.first_plan.Goals as goal

pub kept_plan-requires : goal.kept_plan-requires
unfolding end_in bars_made
kept_plan-requires c = (omega arith, omega arith, omega (arith, c.len-total.ensures, c.requires.few))

pub returns-in_default-clause-value : goal.returns-in_default-clause-value
returns-in_default-clause-value c = first_none c.args.minimum (bars_in c.args.view) _ _ _ (places c.args.view) c.len-total.ensures c.scan.ensures.value c.in_default.is c.kept_plan.ensures.value

pub kept_plan-requires-then-cut-eq0 : goal.kept_plan-requires-then-cut-eq0
kept_plan-requires-then-cut-eq0 c =
    let q = whole_fits c.args.minimum c.in-Some.s _ (places c.args.view) c.in-Some.ensures.small c.found_bi.ensures in
    (omega (arith, c.len-total.ensures, q.0), omega (arith, c.len-total.ensures, q.1), omega (arith, c.len-total.ensures, c.requires.few))

pub returns-then-cut-eq0-clause-value : goal.returns-then-cut-eq0-clause-value
returns-then-cut-eq0-clause-value c =
    first_whole c.args.minimum _ (bars_in c.args.view) _ c.in-Some.s _ _ _ (places c.args.view) c.len-total.ensures c.scan.ensures.value c.in-Some.is refl c.if-cut-eq0.true c.found_bi.ensures c.kept_plan-then-cut-eq0.ensures.value

pub kept_plan-requires-2 : goal.kept_plan-requires-2
kept_plan-requires-2 c =
    let q = cut_fits c.in-Some.s _ (places c.args.view) c.in-Some.ensures.small c.check_bi.ensures.small in
    (omega (arith, c.len-total.ensures, q.0), omega (arith, c.len-total.ensures, q.1), omega (arith, c.len-total.ensures, c.requires.few))

pub returns-clause-value : goal.returns-clause-value
returns-clause-value c =
    first_cut c.args.minimum _ (bars_in c.args.view) _ c.in-Some.s _ _ _ (places c.args.view) c.len-total.ensures c.scan.ensures.value c.in-Some.is refl c.check_bi.ensures.value c.kept_plan-2.ensures.value
