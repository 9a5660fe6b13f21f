use native.Mathlib.Omega.{arith}
use mathlib.Core.Logic.{inl}
use mathlib.Core.Path.{refl, ap, sym, ◌∙◌}
use lib.ListN.{length, length-map, length-set}
use Rattle.strokes.specs.Columns.{fractals_of}
use Rattle.reports.specs.Code.FxListing.{rows_of, listed_left, rows_left}
use Rattle.std.proofs.lemmas.Iterator.Consumers.{count_from_yields_List, YieldsList-from_first}
use Rattle.reports.proofs.FxWritten.{put_at, put_end}
use Rattle.reports.proofs.FxPasses.{few_places, all_written}
use Rattle.reports.proofs.fx_list.list.Goals as goal

pub count-n-requires-clause-fits : goal.count-n-requires-clause-fits
unfolding rows_left
count-n-requires-clause-fits c = let n = length-map (listed_left c.args.fxs) rows_of in
    let few = c.requires.few in
    inl (omega arith)

pub returns-then-min-n-clause-done : goal.returns-then-min-n-clause-done
unfolding rows_left
returns-then-min-n-clause-done c =
    few_places (listed_left c.args.fxs) (fractals_of c.args.out.now) _ (count_from_yields_List _ _ c.count-n.ensures.ran (YieldsList-from_first (λ x. x) rows_left _ refl)) (omega (arith, c.min.ensures, c.if-min-n.true))

pub loop-at-preserved : goal.loop-at-preserved
loop-at-preserved c = let l = c.loop-at in
    let v = l.invariant in
    let n = count_from_yields_List _ _ c.count-n.ensures.ran (YieldsList-from_first (λ x. x) rows_left _ refl) in
    let s = c.in-Some.ensures.steps in
    let e = s.0 in
    let k = ap length e in
    let fit = c.if-min-n.false in
    let least = c.min.ensures in
    let t = v.0.stamps_room in
    let p = v.0.prices_room in
    let next = s.2 in (
      record {
        stamps = v.0.stamps;
        prices = v.0.prices;
        stamps_room = length-set l.out.stamps.now _ c.in-Some.rows.stamps ∙ t;
        prices_room = length-set l.out.prices.now _ c.in-Some.rows.prices ∙ p;
      },
      put_at (fractals_of l.out) _ _ _ c.in-Some.rows _ _ s.1 s.2 e (omega arith) (omega arith) ∙ v.1,
      omega arith,
    )

pub returns-clause-done : goal.returns-clause-done
unfolding rows_left
returns-clause-done c = let l = c.loop-at in
    let v = l.invariant in
    let s = c.in-None.ensures.steps in
    all_written (listed_left c.args.fxs) (fractals_of c.args.out.now) _ (count_from_yields_List _ _ c.count-n.ensures.ran (YieldsList-from_first (λ x. x) rows_left _ refl)) (fractals_of l.out)
    (omega (arith, c.min.ensures, c.if-min-n.false)) (omega (arith, c.min.ensures, c.if-min-n.false))
    (sym (put_end (fractals_of l.out) _ _ s.0.0) ∙ v.1)
