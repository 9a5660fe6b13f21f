-- get_fx_list fractal by fractal: the rows of a fractal, and what is still to come. Definitions only.
use Rattle.std.specs.Prelude.{ℕ, ◌+◌, ◌≤◌, ◌≡◌, List, [], ◌∷◌, ◌++◌, map, length, take, drop, ℤ, MatchOption}
use Rattle.std.specs.Prelude as Std
use Rattle.std.specs.Prelude.{Some, None}
use Rattle.std.proofs.Math.Option.{Option, none, some}
use Rattle.stores.specs.Columns.{raw_in}
use Rattle.stores.specs.Code.StoreRows.{RoomRaw}
use Rattle.machine.specs.Fractals.{Fractal}
use Rattle.strokes.specs.StateRead.{stored_fractals, total}
use Rattle.strokes.specs.Columns.{fractals_in}
use Rattle.strokes.specs.Lent.{FractalStore}
use Rattle.strokes.specs.Code.StrokeSteps.{Fewer}
use Rattle.strokes.specs.FractalRows.{stamp_row, price_row}
use Rattle.reports.specs.declared.fx_list.FractalRows.{FractalRows}
use Rattle.reports.specs.declared.fx_list.StrokeFractals.{StrokeFractals}
use Rattle.reports.specs.declared.fx_list.FxList.{FxList}
use Rattle.reports.specs.FractalList.{later_than}
use Rattle.reports.specs.Code.FractalWalk.{left}

-- ---- the rows of a fractal

unfoldable pub rows_of : Fractal → FractalRows
unfolding stamp_row price_row
rows_of f = record { stamps = stamp_row f; prices = price_row f }

-- of the fractals l the first is handed out by its rows, if there is one, and m are left
abbrev pub GivesRows : List Fractal → Std.Option FractalRows → List Fractal → Type 0
GivesRows l r m = MatchOption r ((l ≡ []) × (m ≡ [])) (λ x. (f : Fractal) × (x ≡ rows_of f) × (l ≡ f ∷ m))

-- ---- those of the strokes

-- the fractals of strokes of these numbers of bars and of fractals, each stroke's list without its first
unfoldable pub stroke_rows : List ℕ → List ℕ → List Fractal → List Fractal
stroke_rows [] ms fs = []
stroke_rows (n ∷ ns) [] fs = []
stroke_rows (n ∷ ns) (m ∷ ms) fs = drop 1 (take m fs) ++ stroke_rows ns ms (drop n fs)

-- the same, of the first stroke those from place j on
unfoldable pub rows_from : List ℕ → List ℕ → ℕ → List Fractal → List Fractal
unfolding stroke_rows
rows_from [] ms j fs = []
rows_from (n ∷ ns) [] j fs = []
rows_from (n ∷ ns) (m ∷ ms) j fs = drop j (take m fs) ++ stroke_rows ns ms (drop n fs)

unfoldable pub strokes_left : StrokeFractals → List Fractal
unfolding rows_from stored_fractals
strokes_left w = rows_from (drop w.stroke w.bars.now) (drop w.stroke w.fractals.now) w.next (drop w.at (stored_fractals (fractals_in w.kept)))

-- the columns have the rows of these strokes, of which the i-th begins at place `at`
pub record CanRead (r : FractalStore) (ns ms : List ℕ) (i at : ℕ) : Type 0 where
  pub even : length r.prices ≡ length r.stamps
  pub small : length r.stamps ≤ 65536
  pub alike : length ms ≡ length ns
  pub fewer : Fewer ns ms
  pub fits : at + total (drop i ns) ≤ length r.stamps

abbrev pub CanReadOn : StrokeFractals → Type 0
CanReadOn w = CanRead (fractals_in w.kept) w.bars.now w.fractals.now w.stroke w.at

-- ---- the list

unfoldable pub all_left : FxList → List Fractal
unfolding strokes_left left
all_left w = strokes_left w.strokes ++ left w.unfinished

-- the time of the last one listed, if one was
unfoldable pub time_of_last : Std.Option ℤ → Option ℤ
time_of_last None = none
time_of_last (Some t) = some t

unfoldable pub listed_left : FxList → List Fractal
unfolding later_than all_left time_of_last
listed_left w = later_than (time_of_last w.last) (all_left w)

unfoldable pub rows_left : FxList → List FractalRows
unfolding rows_of listed_left
rows_left w = map rows_of (listed_left w)

pub record CanList (w : FxList) : Type 0 where
  pub strokes : CanReadOn w.strokes
  pub unfinished : RoomRaw (raw_in w.unfinished.bars) w.unfinished.end
