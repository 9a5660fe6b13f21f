-- The windows of a store's rows of prices that are no fractal, which the scan passes over. Definitions only.
use Rattle.std.specs.Prelude.{ℕ, ◌+◌, ◌-◌, ◌≤◌, ◌<◌, Bool, true, false, List, [], ◌≡◌, get_or, ℤ, pos, Float, Option, Some, None}
use Rattle.check_bi.specs.declared.check_fx.Candle.{Candle}
use Rattle.check_bi.specs.declared.check_fx.Fx.{Fx}
use Rattle.machine.specs.declared.Mark.{Mark}
use Rattle.check_bi.specs.Code.Scan.{top_of, fx_at, mark_if, taken_of}
use Rattle.check_bi.specs.Code.View.{candle_from}

-- the high and low of row i; the time is not read
unfoldable pub row_at : List (List Float) → ℕ → Candle
unfolding candle_from
row_at ps i = candle_from (pos 0) (get_or ps i [])

-- whether a scan whose last fractal has this mark, or that has taken none, takes the window whose first bar is in row i
unfoldable pub taken_at : List (List Float) → Option Mark → ℕ → Bool
unfolding row_at taken_of
taken_at ps last i = taken_of last (row_at ps i) (row_at ps (i + 1)) (row_at ps (i + 2))

-- the bar at place i
abbrev pub bar_at : List ℤ → List (List Float) → ℕ → Candle
bar_at ts ps i = candle_from (get_or ts i (pos 0)) (get_or ps i [])

-- the fractal whose first bar is at place i; its place is counted from lo
unfoldable pub fx_in : List ℤ → List (List Float) → ℕ → ℕ → Fx
unfolding fx_at mark_if top_of candle_from
fx_in ts ps lo i = fx_at (i - lo) (mark_if (top_of (bar_at ts ps i) (bar_at ts ps (i + 1)) (bar_at ts ps (i + 2)))) (bar_at ts ps (i + 1))

-- no window from row i up to row r passes the test t, and all of them lie in the first n rows
pub record NoneBetween (t : ℕ → Bool) (n i r : ℕ) : Type 0 where
  pub from : i ≤ r
  pub within : i < r → r + 1 < n
  pub none : (j : ℕ) → i ≤ j → j < r → t j ≡ false

-- r is the first of those from i on that passes it, or none is left
pub record NextWindow (t : ℕ → Bool) (n i r : ℕ) : Type 0 where
  pub before : NoneBetween t n i r
  pub here : r + 2 < n → t r ≡ true

-- the first of those from i on that passes it, if one does
pub record FirstWindow (t : ℕ → Bool) (n i r : ℕ) : Type 0 where
  pub before : NoneBetween t n i r
  pub fits : r + 2 < n
  pub here : t r ≡ true

abbrev pub NextIn : (ℕ → Bool) → ℕ → ℕ → Option ℕ → Type 0
NextIn t n i (Some r) = FirstWindow t n i r
NextIn t n i None = (j : ℕ) → i ≤ j → j + 2 < n → t j ≡ false

-- the first c windows of the rows hold no fractal
abbrev pub NoFractals : List (List Float) → ℕ → Type 0
NoFractals ps c = (j : ℕ) → j < c → taken_at ps None j ≡ false
