-- The summary of the unfinished stroke: get_ubi, and question 15. Definitions only.
use Rattle.std.specs.Prelude.{Bool, true, false, ◌&&◌, List, [], ◌∷◌, Float}
use Rattle.std.proofs.Math.Option.{Option, none, some}
use Rattle.std.specs.Float.Ieee.{lt, le}
use Rattle.bars.specs.declared.Bar.{Bar}
use Rattle.bars.specs.Bars.{Merged}
use Rattle.bars.specs.Lists.{last}
use Rattle.bars.specs.Merging.{at_times}
use Rattle.machine.specs.declared.Direction.{Direction}
use Rattle.machine.specs.Fractals.{Fractal, check_fxs}
use Rattle.machine.specs.Strokes.{Stroke, direction_of, turned}
use Rattle.reports.specs.Measures.{elements_of}

unfoldable pub non_empty : {A : Type 0} → List A → Bool
non_empty [] = false
non_empty (a ∷ l) = true

-- For the unfinished summary, is there a stroke, an unfinished bar and a fractal among those? Behind the unfinished bars there has to be a kept raw bar, too,
-- since high and low are those of raw bars: in a sound stand there is one, unless it keeps no raw bar at all. A feed from a sound stand that no list of feeds reached can leave such a one;
-- from a fresh analyzer none does (ReachedUbi).
unfoldable pub question15 : List Bar → List Merged → List Stroke → Bool
unfolding non_empty at_times elements_of check_fxs
question15 raw l bs = non_empty bs && (non_empty (at_times raw (elements_of l)) && non_empty (check_fxs l))

-- ---- the highest and the lowest bar

unfoldable pub one_of : Bool → Bar → Bar → Bar
one_of true a b = a
one_of false a b = b

-- tied highs give the last bar (max_by)
unfoldable pub highest : Bar → List Bar → Bar
unfolding one_of lt
highest b [] = b
highest b (c ∷ l) = highest (one_of (lt c.high b.high) b c) l

-- tied lows give the first bar (min_by)
unfoldable pub lowest : Bar → List Bar → Bar
unfolding one_of le
lowest b [] = b
lowest b (c ∷ l) = lowest (one_of (le b.low c.low) b c) l

-- ---- the summary

-- UBI of the source. `raw` is all kept raw bars, and `first` the first fractal of the unfinished bars, fx_a there.
pub record Ubi : Type 0 where
  pub direction : Direction
  pub high : Float
  pub low : Float
  pub high_bar : Bar
  pub low_bar : Bar
  pub bars : List Merged
  pub raw : List Bar
  pub fractals : List Fractal
  pub first : Fractal

-- of the last stroke b, the highest bar h and the lowest bar w of the unfinished bars l, and their fractals, of which f is the first
unfoldable pub ubi_with : List Bar → List Merged → Stroke → Bar → Bar → Fractal → List Fractal → Ubi
unfolding turned direction_of
ubi_with raw l b h w f fs =
    record {
      direction = turned (direction_of b.start.mark);
      high = h.high;
      low = w.low;
      high_bar = h;
      low_bar = w;
      bars = l;
      raw = raw;
      fractals = f ∷ fs;
      first = f;
    }

-- by the last stroke, the raw bars behind the unfinished bars, and the fractals among those
unfoldable pub ubi_from : List Bar → List Merged → Option Stroke → List Bar → List Fractal → Option Ubi
unfolding ubi_with highest lowest
ubi_from raw l none rs fs = none
ubi_from raw l (some b) [] fs = none
ubi_from raw l (some b) (r ∷ rs) [] = none
ubi_from raw l (some b) (r ∷ rs) (f ∷ fs) = some (ubi_with raw l b (highest r rs) (lowest r rs) f fs)

-- get_ubi: high and low are those of the kept raw bars that the unfinished bars' elements name. `none` where question 15 says no.
unfoldable pub get_ubi : List Bar → List Merged → List Stroke → Option Ubi
unfolding ubi_from last at_times elements_of check_fxs
get_ubi raw l bs = ubi_from raw l (last bs) (at_times raw (elements_of l)) (check_fxs l)
