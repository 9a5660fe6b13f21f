use native.Mathlib.Omega.{arith}
use Rattle.asking.proofs.AskLaws.{last_none, last_some, last_two}
use Rattle.asking.proofs.questions.last_of.Goals as goal

pub returns-then-stand-eq0-clause-value : goal.returns-then-stand-eq0-clause-value
returns-then-stand-eq0-clause-value c =
    let a = c.args in
    last_none a.stand a.stores.strokes.times.now a.stores.fractals.prices.now a.stand.strokes c.if-stand-eq0.true

pub last_stroke_within-k-requires : goal.last_stroke_within-k-requires
last_stroke_within-k-requires c =
    let h = c.requires.last in
    record { fact_1 = h.stands (omega (arith, c.if-stand-eq0.false)); fact_2 = h.even; fact_3 = c.requires.used }

pub returns-clause-value : goal.returns-clause-value
returns-clause-value c =
    let a = c.args in
    last_some a.stand a.stores.strokes.times.now a.stores.fractals.prices.now _ _ c.requires.last c.if-stand-eq0.false c.last_stroke_within-k.ensures c.from.ensures

pub returns-clause-long : goal.returns-clause-long
returns-clause-long c =
    let a = c.args in
    last_two a.stand a.stores.strokes.times.now a.stores.fractals.prices.now _ _ c.requires.last c.if-stand-eq0.false c.last_stroke_within-k.ensures c.from.ensures
