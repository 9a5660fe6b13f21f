-- All rows of the list of fractals, as the code goes over them. Definitions only.
use Rattle.std.specs.Prelude.{◌≤◌, List, ◌++◌, ◌≡◌, length}
use Rattle.stores.specs.Stores.{RawStore}
use Rattle.stores.specs.Code.StoreRows.{RoomRaw}
use Rattle.machine.specs.Fractals.{Fractal}
use Rattle.strokes.specs.declared.Stand.{Stand}
use Rattle.strokes.specs.StateRead.{stored_fractals, bar_counts, fractal_counts, total}
use Rattle.strokes.specs.Lent.{FractalStore}
use Rattle.strokes.specs.Code.StrokeSteps.{Fewer, fractals_between}
use Rattle.reports.specs.Code.FxListing.{stroke_rows}

-- of a stand, its unfinished bars and its rows of fractals: those of the kept strokes, then those of the unfinished bars
unfoldable pub all_rows : Stand → RawStore → FractalStore → List Fractal
unfolding stroke_rows bar_counts fractal_counts stored_fractals fractals_between
all_rows s u f = stroke_rows (bar_counts s) (fractal_counts s) (stored_fractals f) ++ fractals_between u 0 s.unfinished

-- the columns have what the stand counts
pub record CanGo (s : Stand) (u : RawStore) (f : FractalStore) : Type 0 where
  pub strokes : s.strokes ≤ 65
  pub same : length f.prices ≡ length f.stamps
  pub small : length f.stamps ≤ 65536
  pub fits : total (bar_counts s) ≤ length f.stamps
  pub fewer : Fewer (bar_counts s) (fractal_counts s)
  pub bars : RoomRaw u s.unfinished
  pub few : s.unfinished ≤ 65536
