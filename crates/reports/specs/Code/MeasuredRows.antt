-- A stroke's rows in the lent stores: what is read of them, and what it gives. Definitions only.
use Rattle.std.specs.Prelude.{ℕ, ◌≤◌, List, [], ◌≡◌, T, length, take, get_or}
use Rattle.bars.specs.declared.Bar.{Bar}
use Rattle.stores.specs.Stores.{RawStore, raw_store, MergedStore}
use Rattle.stores.specs.Columns.{raw_in}
use Rattle.stores.specs.Code.StoreRows.{rising}
use Rattle.machine.specs.Strokes.{Stroke}
use Rattle.strokes.specs.Lent.{Stores}
use Rattle.strokes.specs.StateRead.{row_fractal}
use Rattle.sound.specs.Code.SoundStand.{named_rows}
use Rattle.named.specs.declared.stroke_rows.StrokeRows.{StrokeRows}
use Rattle.reports.specs.declared.inner_bars.RawBars.{RawBars}
use Rattle.reports.specs.declared.inner_bars.InnerBars.{InnerBars}
use Rattle.reports.specs.Code.ElementPrices.{end_of, InColumns}
use Rattle.named.specs.Code.NamedRows.{end_row, RowsStand, cut, inner_rows}

-- the columns that are lent are of one length each, and the elements of its inner bars name the first n raw bars
pub record CanRead (r : StrokeRows) (n : ℕ) (m : Stores) : Type 0 where
  pub raw : n ≤ length m.raw.times
  pub ids : length m.raw.ids ≡ length m.raw.times
  pub prices : length m.raw.prices ≡ length m.raw.times
  pub stands : RowsStand r (length m.strokes.prices)
  pub small : length m.strokes.prices ≤ 65536
  pub counts : length m.strokes.counts ≡ length m.strokes.prices
  pub elements : length m.strokes.elements ≡ length m.strokes.prices
  pub fractals : length m.fractals.prices ≡ length m.strokes.prices
  pub rises : T (rising (take n m.raw.times))
  pub named : T (named_rows (take n m.raw.times) (inner_rows r m.strokes.counts) (inner_rows r m.strokes.elements))

-- the first n bars
abbrev pub first_raw : ℕ → RawStore → RawStore
first_raw n s = raw_store (take n s.times) (take n s.ids) (take n s.prices)

-- i has the rows of k from place a on and before place z, over these raw bars
pub record Between (a z : ℕ) (raw : RawBars) (k : MergedStore) (i : InnerBars) : Type 0 where
  pub same : i.raw ≡ raw
  pub prices : i.prices.now ≡ cut a z k.prices
  pub counts : i.counts.now ≡ cut a z k.counts
  pub elements : i.elements.now ≡ cut a z k.elements

-- i has the rows of the stroke's merged bars but the first and the last, over the first n raw bars
pub record InnerIs (r : StrokeRows) (n : ℕ) (m : Stores) (i : InnerBars) : Type 0 where
  pub raw : raw_in i.raw.columns ≡ first_raw n m.raw
  pub prices : i.prices.now ≡ inner_rows r m.strokes.prices
  pub counts : i.counts.now ≡ inner_rows r m.strokes.counts
  pub elements : i.elements.now ≡ inner_rows r m.strokes.elements

-- the stroke b over the raw bars `raw` is what the columns show
pub record ShownBy (raw : List Bar) (b : Stroke) (r : StrokeRows) (n : ℕ) (m : Stores) : Type 0 where
  pub starts : end_of b.start ≡ end_of (row_fractal [] (get_or m.fractals.prices r.first []))
  pub ends : end_of b.end ≡ end_of (row_fractal [] (get_or m.fractals.prices (end_row r) []))
  pub count : r.bars ≡ length b.bars
  pub columns : InColumns raw b (take n m.raw.times) (take n m.raw.prices) (inner_rows r m.strokes.prices) (inner_rows r m.strokes.counts) (inner_rows r m.strokes.elements)
