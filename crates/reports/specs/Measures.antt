-- Document 01's measures of a stroke: what bi.rs answers. `raw` is the list of kept raw bars, in which elements are looked up. Power price is rounded to the
-- places for power, change and power SNR to those for ratios, and nothing else is rounded (document 02, request two). Definitions only.
use Rattle.std.specs.Prelude.{ℕ, Bool, true, false, List, [], ◌∷◌, map, length, ℤ, pos, Float}
use Rattle.std.specs.Float.{fin, binary64}
use Rattle.std.specs.Float.Ieee.{sub, div, eq}
use Rattle.arith.specs.Order.{abs_of}
use Rattle.arith.specs.Rounding.{round_to}
use Rattle.arith.specs.Sums.{sum_of, slope_of, acceleration_of, snr_of}
use Rattle.bars.specs.declared.Bar.{Bar}
use Rattle.bars.specs.Bars.{Merged}
use Rattle.bars.specs.Lists.{join}
use Rattle.bars.specs.Merging.{at_times}
use Rattle.reports.specs.declared.measures.Measures.{Measures}
use Rattle.machine.specs.Fractals.{fx_of}
use Rattle.machine.specs.Strokes.{Stroke}
use Rattle.machine.specs.Break.{high_of, low_of}
use Rattle.machine.specs.Soundness.{inner}

-- ---- of the end fractals

-- high and low (get_high, get_low) are high_of and low_of of Break

-- power price: how far the end's fx lies from the start's, to d places (get_power_price)
unfoldable pub power_price : ℕ → Stroke → Float
unfolding round_to abs_of sub fx_of
power_price d b = round_to d (abs_of (sub binary64 (fx_of b.end) (fx_of b.start)))

-- change from s to e relative to s, to d places; 0.0 where s is 0.0
unfoldable pub change_if : Bool → ℕ → Float → Float → Float
unfolding round_to div sub
change_if true d s e = fin false 0 (pos 0)
change_if false d s e = round_to d (div binary64 (sub binary64 e s) s)

-- change (get_change)
unfoldable pub change : ℕ → Stroke → Float
unfolding change_if eq fx_of
change d b = change_if (eq (fx_of b.start) (fin false 0 (pos 0))) d (fx_of b.start) (fx_of b.end)

-- ---- of the merged bars

-- the sum of their vol, from its first term; 0.0 where there are none
unfoldable pub volume_of : List Merged → Float
unfolding sum_of
volume_of [] = fin false 0 (pos 0)
volume_of (k ∷ l) = sum_of (map (λ m. m.bar.vol) (k ∷ l))

-- Power volume: over all merged bars but the first and the last, which are `inner` of Soundness. vol was added as bars merged, so it counts more than
-- the 101 elements (get_power_volume).
unfoldable pub power_volume : Stroke → Float
unfolding volume_of inner
power_volume b = volume_of (inner b)

-- ---- of the inner raw bars

unfoldable pub elements_of : List Merged → List ℤ
unfolding join
elements_of l = join (map (λ k. k.elements) l)

-- inner raw bars: the elements of all merged bars but the first and the last (get_raw_bars)
unfoldable pub get_raw_bars : List Bar → Stroke → List Bar
unfolding at_times elements_of inner
get_raw_bars raw b = at_times raw (elements_of (inner b))

unfoldable pub closes_of : List Bar → List Float
closes_of l = map (λ r. r.close) l

unfoldable pub opens_and_closes : List Bar → List (Float × Float)
opens_and_closes l = map (λ r. (r.«open», r.close)) l

-- SNR, power SNR, slope and acceleration, each over the inner raw bars rs

-- SNR (get_snr)
unfoldable pub snr : List Bar → Float
unfolding snr_of opens_and_closes
snr rs = snr_of (opens_and_closes rs)

-- power SNR: SNR to d places (get_power_snr)
unfoldable pub power_snr : ℕ → List Bar → Float
unfolding round_to snr
power_snr d rs = round_to d (snr rs)

-- slope (get_slope)
unfoldable pub slope : List Bar → Float
unfolding slope_of closes_of
slope rs = slope_of (closes_of rs)

-- acceleration (get_acceleration)
unfoldable pub acceleration : List Bar → Float
unfolding acceleration_of closes_of
acceleration rs = acceleration_of (closes_of rs)

-- ---- all of them

-- of the stroke b with the inner raw bars rs; `length` is the number of merged bars (get_length). `power` and `ratio` are the places for power and for ratios.
unfoldable pub measures_with : ℕ → ℕ → List Bar → Stroke → Measures
unfolding high_of low_of power_price power_volume snr power_snr change slope acceleration
measures_with power ratio rs b =
    record {
      high = high_of b;
      low = low_of b;
      power_price = power_price power b;
      power_volume = power_volume b;
      snr = snr rs;
      power_snr = power_snr ratio rs;
      change = change ratio b;
      slope = slope rs;
      acceleration = acceleration rs;
      length = length b.bars;
    }

unfoldable pub measures_of : ℕ → ℕ → List Bar → Stroke → Measures
unfolding measures_with get_raw_bars
measures_of power ratio raw b = measures_with power ratio (get_raw_bars raw b) b
