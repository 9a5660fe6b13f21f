use native.Mathlib.Omega.{arith}
use Rattle.zones.specs.Code.StrokesRead.{stroke_place, fractal_number}
use Rattle.zones.proofs.RunReads.{summary_done}
use Rattle.zones.proofs.reading.summary_at.Goals as goal

pub total_bars-place-requires-clause-fact_2 : goal.total_bars-place-requires-clause-fact_2
unfolding stroke_place
total_bars-place-requires-clause-fact_2 c = let p = c.requires in let b = p.small in omega arith

pub overflow_add-end : goal.overflow_add-end
unfolding stroke_place fractal_number
overflow_add-end c = let p = c.requires in let b = p.small in let one = p.some in let e = c.total_bars-place.ensures in let j = c.end_index.ensures in omega arith

pub mark_at-requires : goal.mark_at-requires
unfolding stroke_place fractal_number
mark_at-requires c = let p = c.requires in let b = p.prices in let one = p.some in let e = c.total_bars-place.ensures in omega arith

pub middle_at-requires : goal.middle_at-requires
unfolding stroke_place fractal_number
middle_at-requires c = let p = c.requires in let b = p.prices in let d = p.stamps in let one = p.some in let e = c.total_bars-place.ensures in (omega arith, omega arith)

pub middle_at-requires-2 : goal.middle_at-requires-2
unfolding stroke_place fractal_number
middle_at-requires-2 c = let p = c.requires in let b = p.prices in let d = p.stamps in let one = p.some in let e = c.total_bars-place.ensures in let j = c.end_index.ensures in (omega arith, omega arith)

pub returns : goal.returns
returns c = summary_done c.args.stand _ c.args.i c.total_bars-place.result c.end_index.result c.mark_at.result c.middle_at.result c.middle_at-2.result _ c.total_bars-place.ensures c.end_index.ensures c.mark_at.ensures c.middle_at.ensures c.middle_at-2.ensures c.summary_from.ensures
