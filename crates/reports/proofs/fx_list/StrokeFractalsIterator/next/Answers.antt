use Prim.Native.Nat.{◌+◌}
use native.Mathlib.Omega.{arith}
use mathlib.Core.Path.{sym, ◌∙◌}
use mathlib.Core.List.{[]}
use lib.ListN.{get_or}
use Rattle.strokes.specs.StateRead.{row_fractal, stored_fractals}
use Rattle.strokes.specs.Columns.{fractals_in}
use Rattle.reports.specs.Code.FxListing.{strokes_left}
use Rattle.reports.proofs.WalkLaws.{goes_on}
use Rattle.reports.proofs.FxLaws.{row_cons, stroke_row, stroke_over, strokes_end, counted_too, fractals_fit, can_over}
use Rattle.reports.proofs.fx_list.StrokeFractalsIterator.next.Goals as goal

pub at-rows-requires : goal.at-rows-requires
at-rows-requires c = let s = c.loop-self.self in
    let v = c.loop-self.invariant in
    let fit = fractals_fit (fractals_in s.kept) s.bars.now s.fractals.now s.stroke s.at v.0 c.loop-self-test.true in
    let even = v.0.even in
    let here = c.if-self.true in
    (omega arith, omega arith)

pub returns-then-self-clause-steps : goal.returns-then-self-clause-steps
unfolding strokes_left
returns-then-self-clause-steps c = let s = c.loop-self.self in
    let v = c.loop-self.invariant in
    let a = c.loop-self-test.true in
    let b = counted_too (fractals_in s.kept) s.bars.now s.fractals.now s.stroke s.at v.0 a in
    let fit = fractals_fit (fractals_in s.kept) s.bars.now s.fractals.now s.stroke s.at v.0 a in
    let f = row_fractal (get_or s.kept.stamps.now (s.at + s.next) []) (get_or s.kept.prices.now (s.at + s.next) []) in
    ((f, c.at-rows.ensures, sym v.1 ∙ stroke_row s.bars.now s.fractals.now (stored_fractals (fractals_in s.kept)) s.at s.stroke a b s.next f (row_cons s.kept.stamps.now s.kept.prices.now v.0.even s.at (get_or s.fractals.now s.stroke 0) s.next fit c.if-self.true)), v.0)

pub returns-then-self-clause-goes : goal.returns-then-self-clause-goes
unfolding strokes_left
returns-then-self-clause-goes c = let s = c.loop-self.self in
    let v = c.loop-self.invariant in
    let a = c.loop-self-test.true in
    let b = counted_too (fractals_in s.kept) s.bars.now s.fractals.now s.stroke s.at v.0 a in
    let fit = fractals_fit (fractals_in s.kept) s.bars.now s.fractals.now s.stroke s.at v.0 a in
    let f = row_fractal (get_or s.kept.stamps.now (s.at + s.next) []) (get_or s.kept.prices.now (s.at + s.next) []) in
    goes_on _ strokes_left _ _ _ f (sym v.1 ∙ stroke_row s.bars.now s.fractals.now (stored_fractals (fractals_in s.kept)) s.at s.stroke a b s.next f (row_cons s.kept.stamps.now s.kept.prices.now v.0.even s.at (get_or s.fractals.now s.stroke 0) s.next fit c.if-self.true)) v.0

pub loop-self-preserved : goal.loop-self-preserved
unfolding strokes_left
loop-self-preserved c = let s = c.loop-self.self in
    let v = c.loop-self.invariant in
    let a = c.loop-self-test.true in
    let b = counted_too (fractals_in s.kept) s.bars.now s.fractals.now s.stroke s.at v.0 a in
    (can_over (fractals_in s.kept) s.bars.now s.fractals.now s.stroke s.at v.0 a, sym (stroke_over s.bars.now s.fractals.now (stored_fractals (fractals_in s.kept)) s.at s.stroke a b s.next c.if-self.false) ∙ v.1)

pub returns-clause-steps : goal.returns-clause-steps
unfolding strokes_left
returns-clause-steps c = let s = c.loop-self.self in
    let v = c.loop-self.invariant in
    let none = strokes_end s.bars.now s.fractals.now s.stroke s.next _ c.loop-self-test.false in
    ((sym v.1 ∙ none, none), v.0)
