-- The unfinished bars as they would be once a bar has come: the first n of the store, and behind them the first m of a tail. Definitions only.
use Rattle.std.specs.Prelude.{ℕ, List, ◌++◌, ◌+◌, length, take, get_or, ℤ, Float}
use Rattle.std.specs.Float.{nan}
use Rattle.stores.specs.Stores.{zip_with}
use Rattle.check_bi.specs.declared.check_fx.Candle.{Candle}
use Rattle.check_bi.specs.declared.view.View.{View}

unfoldable pub view : {A : Type 0} → ℕ → List A → ℕ → List A → List A
view n s m t = take n s ++ take m t

-- of a bar's time and its row of prices: open, close, high, low, vol, amount
unfoldable pub candle_from : ℤ → List Float → Candle
candle_from t p = record { time = t; high = get_or p 2 nan; low = get_or p 3 nan }

unfoldable pub candles : List ℤ → List (List Float) → List Candle
unfolding zip_with candle_from
candles ts ps = zip_with candle_from ts ps

-- ---- as functions take them: the parts that are seen

abbrev pub times_in : View → List ℤ
times_in v = v.times.now ++ v.tail_times.now

abbrev pub rows_in : View → List (List Float)
rows_in v = v.prices.now ++ v.tail_prices.now

abbrev pub bars_in : View → List Candle
bars_in v = candles (times_in v) (rows_in v)

-- how many bars they are
abbrev pub places : View → ℕ
places v = length v.times.now + length v.tail_times.now
