use Rattle.strokes.proofs.StoredStrokes.{counts-more}
use Rattle.strokes.specs.Code.StrokeSteps.{with_stroke}
use Rattle.strokes.specs.StateRead.{bar_counts, fractal_counts}
use lib.Seq.{length-take-le}
use lib.ListN.{length}
use native.Mathlib.Omega.{arith}
use mathlib.Core.Path.{◌≡◌, refl, sym, ◌∙◌}
use borrow.Author.Rules.{rules}
use Rattle.strokes.proofs.Stand.with_stroke.Goals as goal

pub returns : goal.returns
unfolding with_stroke bar_counts fractal_counts
returns c =
    let a = c.args in
    let s = a.self in
    let p = c.requires.0 in
    let b : length s.bars ≡ 65 = search rules in
    let f : length s.fractals ≡ 65 = search rules in (
      refl,
      counts-more s.bars s.strokes a.n (omega arith),
      counts-more s.fractals s.strokes a.m (omega arith),
      length-take-le s.strokes s.bars (omega arith) ∙ sym (length-take-le s.strokes s.fractals (omega arith)),
    )
