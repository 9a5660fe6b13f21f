-- The raw bars that elements name, read in the columns of raw times `ts` and of rows of prices `ps`: the bar of the time t stands where place_of says.
-- What the passes over them add up. Definitions only.
use Rattle.std.specs.Prelude.{ℕ, ◌≡◌, Bool, ◌&&◌, length, take, get_or, ℤ, Float}
use mathlib.Core.List.{List, [], map}
use Rattle.std.specs.Float.{nan, binary64}
use Rattle.std.specs.Float.Ieee.{fits}
use Rattle.arith.specs.Code.Accumulators.{mean_start, mean_more, fit_start, fit_more, snr_start, snr_more, slope_more}
use Rattle.arith.specs.declared.sums.SlopeSums.{SlopeSums}
use Rattle.bars.specs.declared.Bar.{Bar}
use Rattle.bars.specs.Lists.{join}
use Rattle.stores.specs.Stores.{zip_with}
use Rattle.stores.specs.Code.StoreRows.{bar_at, place_of}
use Rattle.stores.specs.Columns.{raw_in}
use Rattle.machine.specs.Fractals.{Fractal}
use Rattle.machine.specs.Strokes.{Stroke}
use Rattle.machine.specs.Soundness.{inner}
use Rattle.reports.specs.declared.inner_bars.RawBars.{RawBars}
use Rattle.reports.specs.declared.inner_bars.InnerBars.{InnerBars}
use Rattle.reports.specs.declared.measures.StrokeEnd.{StrokeEnd}
use Rattle.reports.specs.declared.measures.StrokeEnds.{StrokeEnds}
use Rattle.reports.specs.declared.measures.InnerSums.{InnerSums}
use Rattle.reports.specs.declared.measures.MeasuredStroke.{MeasuredStroke}
use Rattle.reports.specs.Measures.{closes_of, opens_and_closes, get_raw_bars}

-- ---- in columns

-- the elements of merged bars in the columns of counts and of elements, one bar's behind the other's
abbrev pub elements_in : List ℕ → List (List ℤ) → List ℤ
elements_in cs es = join (zip_with take cs es)

-- the row of prices of the raw bar of the time t: open stands at 0, close at 1
abbrev pub prices_at : List ℤ → List (List Float) → ℤ → List Float
prices_at ts ps t = get_or ps (place_of t ts) []

abbrev pub close_at : List ℤ → List (List Float) → ℤ → Float
close_at ts ps t = get_or (prices_at ts ps t) 1 nan

abbrev pub open_close_at : List ℤ → List (List Float) → ℤ → Float × Float
open_close_at ts ps t = (get_or (prices_at ts ps t) 0 nan, get_or (prices_at ts ps t) 1 nan)

-- ---- as the code has them

-- of the raw bar of the time t its open and close, and the bar
abbrev pub open_close : RawBars → ℤ → Float × Float
open_close r t = open_close_at r.columns.times.now r.columns.prices.now t

abbrev pub named_bar : RawBars → ℤ → Bar
named_bar r t = bar_at (raw_in r.columns) (place_of t r.columns.times.now)

-- of the raw bars that the elements name, in turn, their opens and closes, and the bars
abbrev pub prices_named : InnerBars → List (Float × Float)
prices_named s = map (open_close s.raw) (elements_in s.counts.now s.elements.now)

abbrev pub bars_named : InnerBars → List Bar
bars_named s = map (named_bar s.raw) (elements_in s.counts.now s.elements.now)

-- whether the close is a value of f64, as each that is read is
abbrev pub close_fits : Float × Float → Bool
close_fits p = fits binary64 p.1

-- how sums go on with the raw bar of the time t, and whether all closes up to it are values of f64
abbrev pub taken : {S : Type 0} → (S → Float × Float → S) → RawBars → S × Bool → ℤ → S × Bool
taken f r s t = (f s.0 (open_close r t), s.1 && close_fits (open_close r t))

-- the sums of the first pass, and how they go on with an open and a close
abbrev pub inner_start : InnerSums
inner_start = record { mean = mean_start; fit = fit_start; snr = snr_start }

abbrev pub inner_more : InnerSums → Float × Float → InnerSums
inner_more s p = record { mean = mean_more s.mean p.1; fit = fit_more s.fit p.1; snr = snr_more s.snr p }

-- and those of the second
abbrev pub slope_with : SlopeSums → Float × Float → SlopeSums
slope_with s p = slope_more s p.1

-- ---- a stroke in the columns

-- what the measures ask of an end fractal
unfoldable pub end_of : Fractal → StrokeEnd
end_of f = record { mark = f.mark; high = f.mid.bar.high; low = f.mid.bar.low }

-- and of both
abbrev pub ends_of : Stroke → StrokeEnds
ends_of b = record { start = end_of b.start; end = end_of b.end }

-- sp, sc and se have the rows of the merged bars of b but the first and the last, whose elements name bars of `raw`, of which rt and rp are columns
pub record InColumns (raw : List Bar) (b : Stroke) (rt : List ℤ) (rp sp : List (List Float)) (sc : List ℕ) (se : List (List ℤ)) : Type 0 where
  pub vols : map (λ k. k.bar.vol) (inner b) ≡ map (λ p. get_or p 4 nan) sp
  pub closes : closes_of (get_raw_bars raw b) ≡ map (close_at rt rp) (elements_in sc se)
  pub opens : opens_and_closes (get_raw_bars raw b) ≡ map (open_close_at rt rp) (elements_in sc se)

-- m shows the stroke b over the raw bars `raw`
pub record Shows (m : MeasuredStroke) (raw : List Bar) (b : Stroke) : Type 0 where
  pub ends : ends_of b ≡ m.ends
  pub bars : m.bars ≡ length b.bars
  pub columns : InColumns raw b m.inner.raw.columns.times.now m.inner.raw.columns.prices.now m.inner.prices.now m.inner.counts.now m.inner.elements.now
