use native.Mathlib.Omega.{arith}
use mathlib.Core.Logic.{inl}
use mathlib.Core.Path.{refl, sym, ap, ◌∙◌}
use lib.ListN.{length}
use lib.Seq.{length-take-le}
use Rattle.strokes.specs.Lent.{stores_of}
use Rattle.reports.specs.Code.FractalWalk.{plain, left}
use Rattle.std.proofs.lemmas.Iterator.Consumers.{count_from_yields_List, YieldsList-from_first}
use Rattle.reports.proofs.ListFacts.{not-zero, last-asked}
use Rattle.reports.proofs.UbiFacts.{rising-here, counts_fit_lem, elements_fit, rows_alike, walk_room, few_over, no_strokes, no_bars, no_fxs, summed_is}
use Rattle.reports.proofs.ubi.summary.Goals as goal

pub returns-then-k-eq0 : goal.returns-then-k-eq0
unfolding stores_of
returns-then-k-eq0 c = let k = c.kept-k.ensures in no_strokes _ _ k.1 k.2 c.requires (sym k.0 ∙ c.if-k-eq0.true)

pub slice_bounds-see_rows-end : goal.slice_bounds-see_rows-end
unfolding stores_of
slice_bounds-see_rows-end c = let k = c.kept-k.ensures in sym (length-take-le _ _ (counts_fit_lem _ _ k.1 k.2 c.requires))

pub slice_bounds-see_rows-end-2 : goal.slice_bounds-see_rows-end-2
unfolding stores_of
slice_bounds-see_rows-end-2 c = let k = c.kept-k.ensures in sym (length-take-le _ _ (elements_fit _ _ k.1 k.2 c.requires))

pub see_rows-requires : goal.see_rows-requires
unfolding stores_of
see_rows-requires c = let k = c.kept-k.ensures in
    record { fact_1 = rising-here _ _ k.1 k.2 c.requires; fact_2 = rows_alike _ _ k.1 k.2 c.requires }

pub returns-in_default : goal.returns-in_default
unfolding stores_of
returns-in_default c = let k = c.kept-k.ensures in no_bars _ _ k.1 k.2 c.requires _ c.see_rows.ensures c.in_default.is

pub next-requires : goal.next-requires
unfolding stores_of
next-requires c = let k = c.kept-k.ensures in rw (c.new-fractals.ensures.bars, c.new-fractals.ensures.end, c.bars.ensures) (walk_room _ _ k.1 k.2 c.requires)

pub returns-in_default-next : goal.returns-in_default-next
unfolding stores_of
returns-in_default-next c = let k = c.kept-k.ensures in
    no_fxs _ _ k.1 k.2 c.requires (sym (rw c.bars.ensures at c.new-fractals.ensures.left) ∙ c.in_default-next.ensures.steps.0)

pub last_stroke-b-requires : goal.last_stroke-b-requires
unfolding stores_of
last_stroke-b-requires c = let k = c.kept-k.ensures in
    let asked = last-asked _ _ k.1 k.2 c.requires (not-zero _ _ k.0 c.if-k-eq0.false) in record { fact_1 = asked.0; fact_2 = asked.1 }

pub count-requires-clause-fits : goal.count-requires-clause-fits
unfolding stores_of
count-requires-clause-fits c = let k = c.kept-k.ensures in
    let few = few_over _ _ k.1 k.2 c.requires in
    let n = ap length (sym (rw c.bars.ensures at c.new-fractals.ensures.left) ∙ c.in-Some-next.ensures.steps) in
    inl (omega (arith, few, n))

pub overflow_add-result : goal.overflow_add-result
unfolding stores_of
overflow_add-result c = let k = c.kept-k.ensures in
    let few = few_over _ _ k.1 k.2 c.requires in
    let n = ap length (sym (rw c.bars.ensures at c.new-fractals.ensures.left) ∙ c.in-Some-next.ensures.steps) in
    let most = c.count.ensures.bound in
    omega (arith, few, n, most)

pub returns : goal.returns
unfolding stores_of
returns c = let k = c.kept-k.ensures in
    summed_is _ _ k.1 k.2 c.requires _ _ _ _ _ _ _ (not-zero _ _ k.0 c.if-k-eq0.false) c.see_rows.ensures c.in-Some.is
    (sym (rw c.bars.ensures at c.new-fractals.ensures.left) ∙ c.in-Some-next.ensures.steps)
    (count_from_yields_List _ _ c.count.ensures.ran (YieldsList-from_first plain left _ refl)) c.last_stroke-b.ensures c.turned.ensures
