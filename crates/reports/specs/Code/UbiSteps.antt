-- The unfinished summary in one pass over the elements of the unfinished bars. Definitions only.
use Rattle.std.specs.Prelude.{ℕ, ◌≤◌, length, take, ℤ, T, Option, Some, None}
use mathlib.Core.List.{List, [], ◌∷◌, foldl}
use Rattle.std.specs.Float.Ieee.{lt, le}
use Rattle.bars.specs.declared.Bar.{Bar}
use Rattle.bars.specs.Merging.{at_times}
use Rattle.stores.specs.Stores.{RawStore}
use Rattle.stores.specs.Code.StoreRows.{SizedRaw, rising}
use Rattle.reports.specs.declared.ubi.Extremes.{Extremes}
use Rattle.reports.specs.Unfinished.{one_of}

-- a store of raw bars with columns of one length, of which the first n have rising times
pub record RisingFirst (s : RawStore) (n : ℕ) : Type 0 where
  pub sized : SizedRaw s (length s.times)
  pub fits : n ≤ length s.times
  pub rise : T (rising (take n s.times))

-- one bar more, behind those that were seen before it, if any was
unfoldable pub see : Option Extremes → Bar → Extremes
unfolding one_of lt le
see None b = record { high = b; low = b }
see (Some e) b = record { high = one_of (lt b.high e.high.high) e.high b; low = one_of (le e.low.low b.low) e.low b }

abbrev pub seen_next : Option Extremes → Bar → Option Extremes
seen_next o b = Some (see o b)

-- the raw bar that the time t names, if one does
unfoldable pub see_at : List Bar → Option Extremes → ℤ → Option Extremes
unfolding see at_times
see_at raw o t = foldl seen_next o (at_times raw (t ∷ []))
