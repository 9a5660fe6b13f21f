use Rattle.arith.proofs.ExactDivisor.{exact_divisor}
use Rattle.strokes.specs.Lent.{stores_of}
use Rattle.reports.proofs.NamedAnswers.{measures_refused, measures_given}
use Rattle.reports.proofs.StrokeColumns.{lends-named, can_read, shown_by}
use Rattle.reports.proofs.asked_measures.measures_at.Goals as goal

pub returns-in_err-rows : goal.returns-in_err-rows
returns-in_err-rows c = let k = c.in_err-rows.ensures in (measures_refused _ _ _ _ _ k.bars k.fractals c.from_residual.ensures.1 k.value, exact_divisor)

pub stroke_in-stroke-requires : goal.stroke_in-stroke-requires
unfolding stores_of
stroke_in-stroke-requires c = let k = c.in_ok-rows.ensures in can_read _ _ _ _ (lends-named _ _ _ _ k.value k.bars k.fractals).1

pub returns : goal.returns
unfolding stores_of
returns c =
    let k = c.in_ok-rows.ensures in
    let l = lends-named _ _ _ _ k.value k.bars k.fractals in
    (measures_given _ _ _ _ _ (c.measures.ensures _ _ (c.stroke_in-stroke.ensures _ _ (shown_by _ _ _ _ l.1))) l.0 l.1.is, exact_divisor)
