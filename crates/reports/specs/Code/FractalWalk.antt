-- The fractals of a run of bars one by one, as check_fxs takes them: what is left of them. Definitions only.
use Rattle.std.specs.Prelude.{ℕ, ◌≡◌, List, [], ◌∷◌, map, drop, take}
use Rattle.std.specs.Prelude as Std
use Rattle.std.specs.Prelude.{Some, None}
use Rattle.std.proofs.Math.Option.{Option, none, some}
use Rattle.bars.specs.declared.Bar.{Bar}
use Rattle.stores.specs.Stores.{RawStore, raw_bars}
use Rattle.stores.specs.Columns.{raw_in}
use Rattle.machine.specs.declared.Mark.{Mark}
use Rattle.machine.specs.Fractals.{Fractal, fxs_after}
use Rattle.strokes.specs.Code.StrokeSteps.{plain_bar, last_mark}
use Rattle.reports.specs.declared.fractal_walk.FractalBars.{FractalBars}
use Rattle.reports.specs.declared.fractal_walk.PlacedFractal.{PlacedFractal}
use Rattle.reports.specs.declared.fractal_walk.FractalWalk.{FractalWalk}

-- of three bars without elements
abbrev pub plain_of : Mark → Bar → Bar → Bar → Fractal
plain_of m a b c = record { mark = m; left = plain_bar a; mid = plain_bar b; right = plain_bar c }

abbrev pub plain : FractalBars → Fractal
plain f = plain_of f.mark f.left f.mid f.right

-- the fractal of three bars that form one of this mark
unfoldable pub fractal_if : Std.Option Mark → Bar → Bar → Bar → Option Fractal
unfolding plain_bar
fractal_if None a b c = none
fractal_if (Some m) a b c = some (plain_of m a b c)

-- the fractals of the first `end` bars from place i on, behind one of mark p
unfoldable pub from_place : RawStore → ℕ → Option Mark → ℕ → List Fractal
unfolding fxs_after raw_bars plain_bar
from_place s end p i = fxs_after p (drop i (take end (map plain_bar (raw_bars s))))

unfoldable pub left : FractalWalk → List Fractal
unfolding from_place last_mark
left w = from_place (raw_in w.bars) w.end (last_mark w.last) w.next

-- what the window of three bars adds to the fractals of those behind them
unfoldable pub window_gives : Option Mark → Std.Option FractalBars → (Option Mark → List Fractal) → List Fractal
unfolding plain_bar
window_gives p None rest = rest p
window_gives p (Some f) rest = plain f ∷ rest (some f.mark)

-- the fractal of the first window from place i on that has one, and the place behind that window's first bar; l are those from place i on
unfoldable pub NextFractal : RawStore → ℕ → List Fractal → Std.Option PlacedFractal → Type 0
unfolding from_place plain_bar
NextFractal s end l None = l ≡ []
NextFractal s end l (Some x) = l ≡ plain x.fractal ∷ from_place s end (some x.fractal.mark) x.behind

unfoldable pub plain_if : Std.Option FractalBars → Option Fractal
unfolding plain_bar
plain_if None = none
plain_if (Some f) = some (plain f)
