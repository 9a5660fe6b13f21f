use Rattle.strokes.proofs.StoredStrokes.{make-rooms, end_after, window_room, fractal-room, counts_fit_lem, made_means}
use Rattle.strokes.specs.StateRead.{bar_counts}
use native.Mathlib.Omega.{arith}
use Rattle.strokes.proofs.Stand.make_stroke.Goals as goal

pub total_bars-used-requires : goal.total_bars-used-requires
unfolding bar_counts
total_bars-used-requires c = let k = c.requires.fact_2 in
    let t = k.merged.raw.times in
    let u = k.fits in
    record { fact_1 = k.strokes; fact_2 = omega arith }

pub windows_end-end-requires : goal.windows_end-end-requires
windows_end-end-requires c = c.requires.fact_1.inside

pub join-requires : goal.join-requires
join-requires c = let a = c.args in let p = c.requires in make-rooms a.self _ _ _ a.first a.bars p.fact_2 p.fact_1 _ c.total_bars-used.ensures

pub check_fxs-m-requires : goal.check_fxs-m-requires
check_fxs-m-requires c = let a = c.args in
    let p = c.requires in
    let e = c.windows_end-end.ensures in
    record {
      fact_1 = end_after a.self _ _ _ a.first a.bars p.fact_2 p.fact_1 c.windows_end-end.result e;
      fact_2 = rw c.bars.ensures (window_room a.self _ _ _ a.first a.bars p.fact_2 p.fact_1 c.windows_end-end.result e);
      fact_3 = fractal-room a.self _ _ _ a.first a.bars p.fact_2 p.fact_1 c.windows_end-end.result c.total_bars-used.result e c.total_bars-used.ensures;
    }

pub with_stroke-requires : goal.with_stroke-requires
with_stroke-requires c =
    let a = c.args in
    let p = c.requires in
    counts_fit_lem a.self _ _ _ a.first a.bars p.fact_2 p.fact_1 c.windows_end-end.result c.check_fxs-m.result c.windows_end-end.ensures (rw c.bars.ensures at c.check_fxs-m.ensures.count)

pub returns-clause-made : goal.returns-clause-made
returns-clause-made c =
    let a = c.args in
    let p = c.requires in
    let w = c.check_fxs-m.ensures in
    let s = c.with_stroke.ensures in
    made_means a.self _ _ _ a.first a.bars p.fact_2 p.fact_1 _ _ _ c.total_bars-used.result c.windows_end-end.result c.check_fxs-m.result
    c.total_bars-used.ensures c.windows_end-end.ensures c.join.ensures.store (rw c.bars.ensures at w.count) (rw c.bars.ensures at w.store) s.0 s.1 s.2 s.3
