use native.Mathlib.Omega.{arith}
use Rattle.stores.specs.Columns.{raw_in}
use Rattle.strokes.specs.Code.StrokeSteps.{last_mark}
use Rattle.reports.specs.Code.FractalWalk.{NextFractal}
use Rattle.reports.proofs.WalkLaws.{window_over, window_here, no_window}
use Rattle.reports.proofs.fractal_walk.next_fractal.Goals as goal

pub loop-at-preserved : goal.loop-at-preserved
loop-at-preserved c = let a = c.args in
    let l = c.loop-at in
    let h = c.loop-at-test.true in
    let s = c.saturating_sub-at-end.ensures in
    window_over (raw_in a.bars) a.end l.at (last_mark a.last) c.requires (omega arith) _ _ _ c.bar-a.ensures c.bar-b.ensures c.bar-c.ensures _ c.fractal_after.ensures _ c.in_default.is l.invariant

pub returns-in-Some : goal.returns-in-Some
returns-in-Some c = let a = c.args in
    let l = c.loop-at in
    let h = c.loop-at-test.true in
    let s = c.saturating_sub-at-end.ensures in
    window_here (raw_in a.bars) a.end l.at (last_mark a.last) c.requires (omega arith) _ _ _ c.bar-a.ensures c.bar-b.ensures c.bar-c.ensures _ c.fractal_after.ensures _ _ c.in-Some.is l.invariant

pub returns : goal.returns
unfolding NextFractal
returns c = let a = c.args in
    let l = c.loop-at in
    let h = c.loop-at-test.false in
    let s = c.saturating_sub-at-end.ensures in
    no_window (raw_in a.bars) a.end l.at (last_mark a.last) _ (omega arith) l.invariant
