use Rattle.strokes.specs.Lent.{stores_of}
use Rattle.reports.proofs.StrokeColumns.{lends-named, can_read}
use Rattle.reports.proofs.InnerRawLaws.{same_none, bars_refused, bars_given}
use Rattle.reports.proofs.asked_raw_bars.raw_bars.Goals as goal

pub returns-in_err-rows : goal.returns-in_err-rows
returns-in_err-rows c = let k = c.in_err-rows.ensures in record { listed = bars_refused _ _ _ _ _ _ k.bars k.fractals c.from_residual.ensures.1 k.value; same = same_none _ }

pub inner_bars-requires : goal.inner_bars-requires
inner_bars-requires c = let k = c.in_ok-rows.ensures in can_read _ _ _ _ (lends-named _ _ _ _ k.value k.bars k.fractals).1

pub returns : goal.returns
unfolding stores_of
returns c =
    let k = c.in_ok-rows.ensures in
    let l = lends-named _ _ _ _ k.value k.bars k.fractals in
    record { listed = bars_given _ _ _ _ _ _ _ l.1 l.0 c.inner_bars.ensures c.list_rows.ensures.listed; same = c.list_rows.ensures.same }
