use Rattle.strokes.proofs.StoredFractals.{write_start, write_more, write_turn, write_end}
use Rattle.strokes.specs.Code.StrokeSteps.{writing, fractals_between}
use Rattle.strokes.specs.Columns.{fractals_of}
use Rattle.stores.specs.Columns.{raw_in}
use native.Mathlib.Omega.{arith}
use borrow.Author.Rules.{rules}
use Rattle.strokes.proofs.lent_columns.FractalColumnsMut.check_fxs.Goals as goal

pub loop-i-init : goal.loop-i-init
loop-i-init c = let a = c.args in (search rules, write_start (raw_in a.bars) (fractals_of a.self.now) a.at a.first a.end, search rules)

pub put_window-w-requires : goal.put_window-w-requires
put_window-w-requires c =
    let a = c.args in
    let l = c.loop-i in
    let h = c.loop-i-test.true in
    let n = c.saturating_sub-i-end.ensures in
    let room = c.requires.fact_3 in
    let same = l.invariant.2 in
    let few = l.invariant.0 in
    record { stamps = omega arith; prices = omega arith }

pub loop-i-preserved : goal.loop-i-preserved
loop-i-preserved c =
    let a = c.args in
    let p = c.requires in
    let l = c.loop-i in
    let h = c.loop-i-test.true in
    let n = c.saturating_sub-i-end.ensures in
    let e = c.put_window-w.ensures.store in
    let s = writing (fractals_of l.self) l.w in
    let room = p.fact_3 in
    let same = l.invariant.2 in
    let few = l.invariant.0 in
    let t = write_turn (raw_in a.bars) (fractals_of a.self.now) a.at a.end l.i s _ _ _ _ (fractals_between (raw_in a.bars) a.first a.end) p.fact_2 (omega arith) c.bar.ensures c.bar-in-loop-i.ensures c.bar-in-loop-i-2.ensures e (record { stamps = omega arith; prices = omega arith }) l.invariant.1 in
    (omega (arith, write_more a.at s _ _ _ _ e), t, search rules)

pub returns-clause-count : goal.returns-clause-count
returns-clause-count c =
    let a = c.args in
    let l = c.loop-i in
    let n = c.saturating_sub-i-end.ensures in
    (write_end (raw_in a.bars) (fractals_of a.self.now) a.at a.end l.i (writing (fractals_of l.self) l.w) (fractals_between (raw_in a.bars) a.first a.end) (omega arith) l.invariant.1).0

pub returns-clause-store : goal.returns-clause-store
returns-clause-store c =
    let a = c.args in
    let l = c.loop-i in
    let n = c.saturating_sub-i-end.ensures in
    (write_end (raw_in a.bars) (fractals_of a.self.now) a.at a.end l.i (writing (fractals_of l.self) l.w) (fractals_between (raw_in a.bars) a.first a.end) (omega arith) l.invariant.1).1
