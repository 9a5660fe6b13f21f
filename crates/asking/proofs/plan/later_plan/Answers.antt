use Rattle.std.proofs.Common.{arith}
use borrow.Author.Rules.{rules}
use mir.Syntax.{w64}
use mir.ValLaws.{to_z-of_z}
use Rattle.check_bi.specs.Code.View.{places}
use Rattle.asking.proofs.PlanLaws.{found_in_view, all_in, last_long, broken_in, later_broken, later_kept}
use Rattle.asking.proofs.plan.later_plan.Goals as goal

pub skip-join-requires : goal.skip-join-requires
skip-join-requires c =
    let q = found_in_view _ (places c.args.view) (all_in _ (places c.args.view) c.check_bi-found.ensures.small) in
    omega (arith, c.end_in.ensures, q.0)

pub overflow_sub-result : goal.overflow_sub-result
overflow_sub-result c =
    (last_long _ c.args.b _ (places c.args.view) (all_in _ (places c.args.view) c.check_bi-found.ensures.small) c.requires.few c.requires.long c.last_with-last.ensures).two

pub overflow_add-result : goal.overflow_add-result
overflow_add-result c =
    let w = last_long _ c.args.b _ (places c.args.view) (all_in _ (places c.args.view) c.check_bi-found.ensures.small) c.requires.few c.requires.long c.last_with-last.ensures in
    omega (arith, w.few, c.len-total.ensures, c.requires.few)

pub returns-then-breaks-clause-value : goal.returns-then-breaks-clause-value
returns-then-breaks-clause-value c =
    let v = c.args.view in
    later_broken v c.args.minimum c.args.b _ _ _ _ _ c.len-total.ensures c.requires.more c.check_bi-found.ensures.value c.last_with-last.ensures c.candle.ensures c.breaks.ensures _ _ _ c.if-breaks.true c.end_in.ensures (to_z-of_z w64 c.last_with-last.result.time (record { sfits = search rules })) c.skip-join.ensures.0

pub returns-then-breaks-clause-in_view : goal.returns-then-breaks-clause-in_view
returns-then-breaks-clause-in_view c = broken_in _ _ _ (places c.args.view) (all_in _ (places c.args.view) c.check_bi-found.ensures.small) c.skip-join.ensures.1

pub kept_plan-requires : goal.kept_plan-requires
kept_plan-requires c =
    let q = found_in_view _ (places c.args.view) (all_in _ (places c.args.view) c.check_bi-found.ensures.small) in
    (omega (arith, c.len-total.ensures, q.0), omega (arith, c.len-total.ensures, q.1), omega (arith, c.len-total.ensures, c.requires.few))

pub returns-clause-value : goal.returns-clause-value
returns-clause-value c =
    let v = c.args.view in
    later_kept v c.args.minimum c.args.b _ _ _ _ _ c.len-total.ensures c.requires.more c.check_bi-found.ensures.value c.last_with-last.ensures c.candle.ensures c.breaks.ensures _ c.if-breaks.false c.kept_plan.ensures.value
