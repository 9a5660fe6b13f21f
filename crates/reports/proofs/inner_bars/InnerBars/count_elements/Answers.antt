use native.Mathlib.Omega.{arith}
use mathlib.Core.Path.{ap}
use mathlib.Core.List.{List}
use lib.IntN.{ℤ}
use lib.ListN.{length}
use Rattle.reports.proofs.InnerRawLaws.{count_turn, count-end}
use Rattle.reports.proofs.inner_bars.InnerBars.count_elements.Goals as goal

pub overflow_add-sum : goal.overflow_add-sum
overflow_add-sum c = omega (arith, c.args.self.few, c.loop-i-test.true, c.loop-i.invariant.0, c.elements_at.ensures.few)

pub loop-i-preserved : goal.loop-i-preserved
loop-i-preserved c =
    let s = c.args.self in
    let l = c.loop-i in
    let e = c.elements_at.ensures in
    (omega (arith, e.few, l.invariant.0), count_turn s.counts.now s.elements.now l.i s.even c.loop-i-test.true l.sum _ _ (ap (λ (x : List ℤ). length x) e.value) l.invariant.1)

pub returns : goal.returns
returns c = let s = c.args.self in count-end s.counts.now s.elements.now c.loop-i.i _ _ s.even c.loop-i-test.false c.loop-i.invariant.1
