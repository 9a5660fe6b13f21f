use native.Mathlib.Omega.{arith}
use Rattle.strokes.specs.Columns.{fractals_in}
use Rattle.zones.specs.Columns.{fakes_of}
use Rattle.zones.specs.Code.StrokesRead.{stroke_place, fractal_number}
use Rattle.zones.proofs.FakeReads.{put_done, rows_fit}
use Rattle.zones.proofs.NamedRunLaws.{fakes_put, fakes_full}
use Rattle.zones.proofs.fake_writing.list_fakes.Goals as goal

pub returns-then-not-fits-clause-listed : goal.returns-then-not-fits-clause-listed
unfolding fractal_number
returns-then-not-fits-clause-listed c = let a = c.args in fakes_full a.stand (fractals_in a.fractals) a.i c.fake_count-n.result (fakes_of a.to.now) c.fits.result c.fake_count-n.ensures c.fits.ensures c.if-not-fits.true

pub total_bars-place-requires-clause-fact_2 : goal.total_bars-place-requires-clause-fact_2
unfolding stroke_place
total_bars-place-requires-clause-fact_2 c = let p = c.requires in let b = p.small in omega arith

pub write_fakes-requires-clause-fact_1 : goal.write_fakes-requires-clause-fact_1
write_fakes-requires-clause-fact_1 c = let a = c.args in rows_fit a.stand (fractals_in a.fractals) a.i c.total_bars-place.result c.fake_count-n.result c.requires c.total_bars-place.ensures c.fake_count-n.ensures

pub returns-clause-listed : goal.returns-clause-listed
unfolding fractal_number
returns-clause-listed c =
    let a = c.args in
    fakes_put a.stand (fractals_in a.fractals) a.i c.fake_count-n.result (fakes_of a.to.now) c.fits.result c.fake_count-n.ensures c.fits.ensures c.fake_count-n.result _ c.if-not-fits.false c.fake_count-n.ensures
    (put_done a.stand (fractals_in a.fractals) a.i c.total_bars-place.result c.fake_count-n.result (fakes_of a.to.now) _ c.total_bars-place.ensures c.fake_count-n.ensures c.write_fakes.ensures.written)
