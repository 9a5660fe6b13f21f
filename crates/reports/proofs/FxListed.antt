-- The rows of the strokes are those of get_fx_list. Assumes nothing.
use Prim.Native.Nat.{ℕ}
use mathlib.Core.Path.{◌≡◌, refl, ap}
use mathlib.Core.List.{List, [], ◌∷◌, ◌++◌}
use lib.ListN.{take, drop}
use Rattle.bars.specs.Bars.{Merged}
use Rattle.bars.specs.Lists.{join}
use Rattle.machine.specs.Fractals.{Fractal}
use Rattle.strokes.specs.StateRead.{stroke_with, strokes_with}
use Rattle.reports.specs.FractalList.{stroke_fxs}
use Rattle.reports.specs.Code.FxListing.{stroke_rows}

pub strokes_are : (ns ms : List ℕ) (ks : List Merged) (fs : List Fractal) → stroke_fxs (strokes_with ns ms ks fs) ≡ stroke_rows ns ms fs
unfolding stroke_fxs strokes_with stroke_with stroke_rows join
strokes_are [] ms ks fs = refl
strokes_are (n ∷ ns) [] ks fs = refl
strokes_are (n ∷ ns) (m ∷ ms) ks fs = ap (λ (l : List Fractal). drop 1 (take m fs) ++ l) (strokes_are ns ms (drop n ks) (drop n fs))
