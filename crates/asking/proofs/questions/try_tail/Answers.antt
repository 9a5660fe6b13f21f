use borrow.Author.Rules.{rules}
use native.Mathlib.Omega.{arith}
use mathlib.Core.Path.{ap, sym, ◌∙◌, subst}
use lib.ListN.{take}
use Rattle.std.proofs.Common.{List, Float}
use Rattle.std.proofs.lemmas.Result.{err_from_is_err_and}
use Rattle.stores.specs.Stores.{RawStore}
use Rattle.stores.specs.Columns.{raw_in}
use Rattle.strokes.specs.StateRead.{bar_counts}
use Rattle.strokes.specs.Lent.{stores_of}
use Rattle.strokes.specs.Columns.{stores_in}
use Rattle.check_bi.specs.Code.View.{bars_in}
use Rattle.check_bi.specs.Code.Windows.{NoFractals}
use Rattle.check_bi.proofs.ScanWindows.{clear_take}
use Rattle.asking.specs.Code.MergedTail.{CanTail}
use Rattle.asking.proofs.AskLaws.{seen_as, seen_all, seen_few, try_refused, try_done}
use Rattle.asking.proofs.questions.try_tail.Goals as goal

pub total_bars-used-requires : goal.total_bars-used-requires
unfolding stores_of bar_counts
total_bars-used-requires g c = let h = c.requires.plan.last in let sum = h.sum in record { fact_1 = h.most; fact_2 = omega arith }

pub last_of-last-requires : goal.last_of-last-requires
unfolding stores_of bar_counts
last_of-last-requires g c = record { last = c.requires.plan.last; used = c.total_bars-used.ensures }

pub view-view-requires : goal.view-view-requires
unfolding stores_of
view-view-requires g c = (search rules, subst (λ (x : RawStore). CanTail x c.args.tail.now 0) (sym c.bars.ensures) c.requires.plan.tail)

pub plan_of-plan-requires : goal.plan_of-plan-requires
unfolding stores_of
plan_of-plan-requires g c =
    let a = c.args in
    let w = c.view-view.ensures in
    let e = w.store ∙ ap (λ (x : RawStore). take a.tail.now.base x.prices) c.bars.ensures in
    record {
      few = seen_few a.stand (stores_in a.stores) a.tail.now c.requires.plan (raw_in c.bars.result) c.bars.ensures c.view-view.result w.times w.prices;
      long = c.last_of-last.ensures.long;
      none = subst (λ (ps : List (List Float)). NoFractals ps a.clear) (sym e) (clear_take a.stores.unfinished.prices.now a.tail.now.base a.clear c.requires.clear);
    }

pub refused-requires : goal.refused-requires
unfolding stores_of bar_counts
refused-requires g c =
    let a = c.args in
    let m = stores_in a.stores in
    let t = a.tail.now in
    let w = c.view-view.ensures in
    let few = seen_few a.stand m t c.requires.plan (raw_in c.bars.result) c.bars.ensures c.view-view.result w.times w.prices in
    let made = c.plan_of-plan.ensures.in_view.bars_in in
    let sum = c.requires.plan.last.sum in
    let used = c.total_bars-used.ensures in
    (omega arith, omega arith)

pub returns-in_err-refused : goal.returns-in_err-refused
unfolding stores_of bar_counts
returns-in_err-refused g c =
    let a = c.args in
    let m = stores_in a.stores in
    let t = a.tail.now in
    let w = c.view-view.ensures in
    let p = err_from_is_err_and c.from_residual.result c.from_residual.ensures.1 in
    let is = seen_as a.stand m t c.requires.plan (raw_in c.bars.result) c.bars.ensures c.view-view.result w.times w.prices in
    let all = c.len.ensures ∙ seen_all a.stand m t c.requires.plan (raw_in c.bars.result) c.bars.ensures c.view-view.result w.times w.prices in
    rw (p.1, p.2) (try_refused a.stand (bars_in c.view-view.result) _ _ _ c.last_of-last.result c.plan_of-plan.result c.len.result c.total_bars-used.result c.last_of-last.ensures.value is all c.total_bars-used.ensures c.plan_of-plan.ensures.value _ c.in_err-refused.ensures)

pub returns : goal.returns
unfolding stores_of bar_counts
returns g c =
    let a = c.args in
    let m = stores_in a.stores in
    let t = a.tail.now in
    let w = c.view-view.ensures in
    let is = seen_as a.stand m t c.requires.plan (raw_in c.bars.result) c.bars.ensures c.view-view.result w.times w.prices in
    let all = c.len.ensures ∙ seen_all a.stand m t c.requires.plan (raw_in c.bars.result) c.bars.ensures c.view-view.result w.times w.prices in
    try_done a.stand (bars_in c.view-view.result) _ _ _ c.last_of-last.result c.plan_of-plan.result c.len.result c.total_bars-used.result c.last_of-last.ensures.value is all c.total_bars-used.ensures c.plan_of-plan.ensures.value c.in_ok-refused.ensures
