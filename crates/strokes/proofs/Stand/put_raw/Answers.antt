use native.Mathlib.Omega.{arith}
use mathlib.Core.Path.{refl}
use Rattle.stores.specs.Columns.{raw_of}
use Rattle.strokes.specs.Code.BarSteps.{with_raw}
use Rattle.strokes.proofs.StoredRaw.{later_put, last_replaced}
use Rattle.strokes.proofs.Stand.put_raw.Goals as goal

pub put_bar-requires : goal.put_bar-requires
put_bar-requires c =
    let h = c.requires.fact_1 in
    let k = c.requires.fact_3 c.if-later.true in
    record { times = omega arith; ids = omega arith; prices = omega arith }

pub returns-then-later-clause-has : goal.returns-then-later-clause-has
unfolding with_raw
returns-then-later-clause-has c =
    let a = c.args in
    later_put a.self _ (raw_of a.raw.now) _ c.requires.fact_1 a.b a.later c.if-later.true (c.requires.fact_3 c.if-later.true) c.put_bar.ensures.store refl

pub overflow_sub-n : goal.overflow_sub-n
overflow_sub-n c =
    let k = c.requires.fact_4 c.if-later.false in
    omega arith

pub put_bar-requires-2 : goal.put_bar-requires-2
put_bar-requires-2 c =
    let h = c.requires.fact_1 in
    let g = c.requires.fact_2 in
    let k = c.requires.fact_4 c.if-later.false in
    record { times = omega arith; ids = omega arith; prices = omega arith }

pub returns-clause-has : goal.returns-clause-has
unfolding with_raw
returns-clause-has c =
    let a = c.args in
    last_replaced a.self _ (raw_of a.raw.now) _ c.requires.fact_1 a.b a.later c.if-later.false (c.requires.fact_4 c.if-later.false) c.requires.fact_2 c.put_bar-2.ensures.store refl
