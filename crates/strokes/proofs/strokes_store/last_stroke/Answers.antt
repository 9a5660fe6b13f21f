use Rattle.strokes.proofs.StoredStrokes.{last-sums}
use Rattle.strokes.specs.StateRead.{bar_counts}
use Rattle.strokes.specs.Code.StrokeSteps.{last_place, last_bars}
use native.Mathlib.Omega.{arith}
use Rattle.strokes.proofs.strokes_store.last_stroke.Goals as goal

pub total_bars-used-requires : goal.total_bars-used-requires
unfolding last_place last_bars
total_bars-used-requires c = let s = c.args.stand in
    let p = c.requires.fact_1 in
    let fits = p.fits in
    record { fact_1 = p.most; fact_2 = omega (arith, last-sums s.bars s.strokes p.strokes) }

pub last_stroke_within-requires : goal.last_stroke_within-requires
unfolding bar_counts
last_stroke_within-requires c = record { fact_1 = c.requires.fact_1; fact_2 = c.requires.fact_2; fact_3 = c.total_bars-used.ensures }

pub returns : goal.returns
returns c = c.last_stroke_within.ensures
