use mathlib.Core.Path.{refl}
use Rattle.strokes.specs.Code.StrokeSteps.{fractals_between, last_mark}
use Rattle.machine.specs.Fractals.{check_fxs}
use Rattle.reports.specs.Code.FractalWalk.{from_place, left}
use Rattle.reports.proofs.fractal_walk.FractalWalk.new.Goals as goal

pub returns : goal.returns
unfolding left from_place last_mark fractals_between check_fxs
returns c = record { bars = refl; end = refl; left = refl }
