use mathlib.Core.Bool.{true}
use mathlib.Core.Path.{sym, ap, subst, ◌∙◌}
use mathlib.Core.List.{List, foldl}
use lib.Dec.{T}
use lib.IntN.{ℤ}
use Rattle.bars.specs.Lists.{every}
use Rattle.sound.specs.Code.SoundStand.{is_time}
use Rattle.reports.specs.Code.ElementPrices.{elements_in, taken}
use Rattle.reports.proofs.MeasureLaws.{row_named, row-turn, row-end, taken-sums, taken_fits}
use Rattle.reports.proofs.inner_bars.InnerBars.add_to.Goals as goal

pub with_named-sums-requires : goal.with_named-sums-requires
with_named-sums-requires g c =
    let s = c.args.self in
    let ts = s.raw.columns.times.now in
    subst (λ (l : List ℤ). T (every (is_time ts) l)) (sym c.elements_at.ensures.value) (row_named s.counts.now s.elements.now c.loop-i.i s.even c.loop-i-test.true ts s.named)

pub loop-i-preserved : goal.loop-i-preserved
loop-i-preserved g c =
    let s = c.args.self in
    let l = c.loop-i in
    let f = taken g.S.PriceSums.taking s.raw in
    row-turn s.counts.now s.elements.now l.i s.even c.loop-i-test.true f (l.sums, true) (c.with_named-sums.result, true) _ (c.with_named-sums.ensures ∙ ap (λ (e : List ℤ). foldl f (l.sums, true) e) c.elements_at.ensures.value) l.invariant

pub returns : goal.returns
returns g c =
    let s = c.args.self in
    let l = c.loop-i in
    let f = g.S.PriceSums.taking in
    let e = row-end (taken f s.raw) s.counts.now s.elements.now l.i (l.sums, true) _ s.even c.loop-i-test.false l.invariant in
    let all = elements_in s.counts.now s.elements.now in
    record { value = taken-sums f s.raw c.args.sums l.sums all e; fits = taken_fits f s.raw c.args.sums l.sums all e }
