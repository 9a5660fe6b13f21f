-- A kept stroke that is named by its place, oldest 0: where its rows stand in the stroke store; and what a row of the fractals' columns shows. Definitions only.
use Rattle.std.specs.Prelude.{ℕ, ◌+◌, ◌-◌, ◌*◌, ◌/◌, ◌≤◌, List, [], take, drop, get_or, pos}
use Rattle.std.specs.Float.{nan}
use Rattle.stores.specs.Stores.{merged_bars}
use Rattle.machine.specs.declared.Mark.{Mark}
use Rattle.machine.specs.Strokes.{Stroke}
use Rattle.check_bi.specs.declared.check_fx.Candle.{Candle}
use Rattle.strokes.specs.declared.Stand.{Stand}
use Rattle.strokes.specs.Lent.{Stores, FractalStore}
use Rattle.strokes.specs.StateRead.{stored_fractals, stroke_with, total}
use Rattle.strokes.specs.FractalRows.{row_mark}
use Rattle.named.specs.declared.stroke_rows.StrokeRows.{StrokeRows}

-- ---- a stroke's rows

-- behind those of the strokes before it; so many of bars, and from the same place on so many of fractals
unfoldable pub rows_of : Stand → ℕ → StrokeRows
unfolding total
rows_of s i = record { first = total (take i s.bars); bars = get_or s.bars i 0; fractals = get_or s.fractals i 0 }

-- where its end stands: on its last fractal, or the last but one where they are odd in number
unfoldable pub end_row : StrokeRows → ℕ
end_row r = r.first + (2 * (r.fractals / 2) - 1)

-- the stroke of these rows
unfoldable pub stroke_in : Stores → StrokeRows → Stroke
unfolding stroke_with merged_bars stored_fractals
stroke_in m r = stroke_with (take r.fractals (drop r.first (stored_fractals m.fractals))) (take r.bars (drop r.first (merged_bars m.strokes)))

-- the rows lie in a store of n places, with four bars or more and a fractal or more
pub record RowsStand (r : StrokeRows) (n : ℕ) : Type 0 where
  pub fits : r.first + r.bars ≤ n
  pub four : 4 ≤ r.bars
  pub one : 1 ≤ r.fractals
  pub fewer : r.fractals ≤ r.bars

-- the rows of a column from place a on and before place z
abbrev pub cut : {A : Type 0} → ℕ → ℕ → List A → List A
cut a z l = take (z - a) (drop a l)

-- the rows of its merged bars but the first and the last
abbrev pub inner_rows : {A : Type 0} → StrokeRows → List A → List A
inner_rows r l = cut (r.first + 1) (r.first + r.bars - 1) l

-- ---- a fractal's row

-- the mark of the fractal in a row, and its middle bar: its time at 1 of the stamps, its high and low at 8 and 9 of the prices
unfoldable pub mark_at : FractalStore → ℕ → Mark
unfolding row_mark
mark_at f p = row_mark (get_or f.prices p [])

unfoldable pub middle_at : FractalStore → ℕ → Candle
middle_at f p = record { time = get_or (get_or f.stamps p []) 1 (pos 0); high = get_or (get_or f.prices p []) 8 nan; low = get_or (get_or f.prices p []) 9 nan }
