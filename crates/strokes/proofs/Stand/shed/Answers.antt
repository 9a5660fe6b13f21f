use Rattle.strokes.proofs.StoredStrokes.{first-within, shed-rooms, shed-fractals, shed_done}
use Rattle.strokes.proofs.StoredUnfinished.{room-merged}
use Rattle.strokes.specs.StateRead.{bar_counts}
use native.Mathlib.Omega.{arith}
use Rattle.strokes.proofs.Stand.shed.Goals as goal

pub total_bars-used-requires : goal.total_bars-used-requires
unfolding bar_counts
total_bars-used-requires c = let k = c.requires.fact_2 in
    let t = k.merged.raw.times in
    let u = k.fits in
    record { fact_1 = k.strokes; fact_2 = omega arith }

pub overflow_sub-used : goal.overflow_sub-used
overflow_sub-used c = let a = c.args in first-within a.self.bars a.self.strokes _ c.requires.fact_1 c.total_bars-used.ensures

pub move_bars-requires : goal.move_bars-requires
move_bars-requires c =
    let a = c.args in
    let p = c.requires in
    let room = shed-rooms a.self _ _ _ p.fact_2 p.fact_1 c.total_bars-used.ensures in
    (room, room-merged _ _ _ room (omega arith))

pub move_down-requires : goal.move_down-requires
move_down-requires c =
    let p = c.requires in
    let moved = shed-fractals c.args.self _ _ p.fact_2 p.fact_1 in
    record { fact_1 = p.fact_2.strokes; fact_2 = moved.0; fact_3 = moved.1 }

pub shed_counts-requires : goal.shed_counts-requires
shed_counts-requires c = let p = c.requires in (p.fact_1, p.fact_2.strokes)

pub returns-clause-shed : goal.returns-clause-shed
returns-clause-shed c =
    let p = c.requires in
    let s = c.shed_counts.ensures in
    shed_done c.args.self _ _ _ _ _ c.total_bars-used.result p.fact_2 p.fact_1 c.total_bars-used.ensures c.move_bars.ensures.store c.move_down.ensures.store s.0 s.1 s.2
