use mathlib.Core.Path.{◌≡◌}
use Rattle.stores.specs.Columns.{raw_in}
use Rattle.strokes.specs.Code.StrokeSteps.{last_mark}
use Rattle.reports.specs.Code.FractalWalk.{from_place}
use Rattle.reports.proofs.fractal_walk.next_fractal.Given as goal

abbrev pub invariant-loop-at : goal.invariant-loop-at
invariant-loop-at l = from_place (raw_in l.bars) l.end (last_mark l.last) l.at ≡ from_place (raw_in l.bars) l.end (last_mark l.last) l.from
