use borrow.Author.Rules.{rules}
use native.Mathlib.Omega.{arith}
use mathlib.Core.Path.{◌≡◌, refl}
use lib.ListN.{length}
use Rattle.strokes.specs.Lent.{fractal_store}
use Rattle.strokes.specs.Code.StrokeSteps.{copied_fractals, moved_fractals}
use Rattle.strokes.proofs.MovedFractals.{next_fits, move-turn, move-end}
use Rattle.strokes.proofs.lent_columns.FractalColumnsMut.move_down.Goals as goal

pub move_rows-requires-clause-fact_1 : goal.move_rows-requires-clause-fact_1
move_rows-requires-clause-fact_1 c =
    let a = c.args in
    let l = c.loop-k in
    let e : length a.bars.now ≡ 65 = search rules in
    let f : length a.fractals.now ≡ 65 = search rules in
    let p = c.requires.fact_1 in
    let h = c.loop-k-test.true in
    let s = next_fits a.bars.now a.fractals.now a.n l.k l.to a.first l.self.stamps.now _ (omega arith) (omega arith) h l.invariant.0 in
    let t = next_fits a.bars.now a.fractals.now a.n l.k l.to a.first l.self.prices.now _ (omega arith) (omega arith) h l.invariant.1 in
    record { stamps = omega arith; prices = omega arith }

pub move_rows-requires-clause-fact_2 : goal.move_rows-requires-clause-fact_2
move_rows-requires-clause-fact_2 c =
    let a = c.args in
    let l = c.loop-k in
    let e : length a.bars.now ≡ 65 = search rules in
    let f : length a.fractals.now ≡ 65 = search rules in
    let p = c.requires.fact_1 in
    let h = c.loop-k-test.true in
    let s = next_fits a.bars.now a.fractals.now a.n l.k l.to a.first l.self.stamps.now _ (omega arith) (omega arith) h l.invariant.0 in
    let t = next_fits a.bars.now a.fractals.now a.n l.k l.to a.first l.self.prices.now _ (omega arith) (omega arith) h l.invariant.1 in
    record { stamps = omega arith; prices = omega arith }

pub loop-k-preserved : goal.loop-k-preserved
unfolding copied_fractals
loop-k-preserved c =
    let a = c.args in
    let l = c.loop-k in
    let e : length a.bars.now ≡ 65 = search rules in
    let f : length a.fractals.now ≡ 65 = search rules in
    let p = c.requires.fact_1 in
    let h = c.loop-k-test.true in
    let d = c.move_rows.ensures.store in (
      move-turn a.bars.now a.fractals.now a.n l.k l.to a.first l.self.stamps.now _ (omega arith) (omega arith) h l.invariant.0 _ _ _ (λ t. (d t).stamps) refl refl,
      move-turn a.bars.now a.fractals.now a.n l.k l.to a.first l.self.prices.now _ (omega arith) (omega arith) h l.invariant.1 _ _ _ (λ t. (d t).prices) refl refl,
      search rules,
    )

pub returns-clause-store : goal.returns-clause-store
unfolding moved_fractals
returns-clause-store c =
    let a = c.args in
    let l = c.loop-k in
    let h = c.loop-k-test.false in
    let s = move-end a.bars.now a.fractals.now a.n l.k l.to a.first l.self.stamps.now _ h l.invariant.0 in
    let p = move-end a.bars.now a.fractals.now a.n l.k l.to a.first l.self.prices.now _ h l.invariant.1 in
    λ t. fractal_store (s t) (p t)
