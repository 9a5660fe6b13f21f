use Rattle.strokes.proofs.StoredStrokes.{counts-down}
use Rattle.strokes.specs.Code.StrokeSteps.{shed_stand}
use Rattle.strokes.specs.StateRead.{bar_counts, fractal_counts}
use lib.ListN.{length}
use Prim.Native.Nat.{◌-◌}
use mathlib.Core.Path.{◌≡◌}
use native.Mathlib.Omega.{arith}
use borrow.Author.Rules.{rules}
use Rattle.strokes.proofs.Stand.shed_counts.Goals as goal

pub returns : goal.returns
unfolding shed_stand bar_counts fractal_counts
returns c =
    let s = c.args.self in
    let p = c.requires in
    let b : length s.bars ≡ 65 = search rules in
    let f : length s.fractals ≡ 65 = search rules in
    let x = c.one_down.ensures in
    let y = c.one_down-2.ensures in (
      λ i. record { minimum = s.minimum; most = s.most; rooms = s.rooms; raw = s.raw; unfinished = s.unfinished; strokes = s.strokes - 1; bars = x i; fractals = y i; power_places = s.power_places; ratio_places = s.ratio_places },
      counts-down s.bars c.one_down.result s.strokes x (omega arith) p.0 p.1,
      counts-down s.fractals c.one_down-2.result s.strokes y (omega arith) p.0 p.1,
    )
