-- What merging would give, asked without writing to a store: the first bars of the unfinished store and behind them a short tail of bars, all without their
-- elements. Definitions only.
use Rattle.std.specs.Prelude.{ℕ, zero, suc, ◌+◌, ◌-◌, ◌≤◌, Bool, true, false, List, map, ◌≡◌, length, take, get_or, T, Option, Some, None}
use Rattle.bars.specs.declared.Bar.{Bar}
use Rattle.bars.specs.Bars.{Merged}
use Rattle.bars.specs.Merging.{merge_in}
use Rattle.stores.specs.Stores.{RawStore, MergedStore, raw_store, raw_bars}
use Rattle.stores.specs.Code.StoreRows.{SizedRaw, SizedMerged, bar_at, rising}
use Rattle.strokes.specs.Code.BarSteps.{merged_again}
use Rattle.check_bi.specs.Code.View.{view}
use Rattle.asking.specs.declared.merged_tail.Tail.{Tail}

-- the rows of a tail, as a store of N places
abbrev pub rows_of : {N : ℕ} → Tail N → RawStore
rows_of t = raw_store t.times t.ids t.prices

-- the bars that are seen: the first of the store u, and behind them the tail's
abbrev pub shown : {N : ℕ} → RawStore → Tail N → List Bar
shown u t = view t.base (raw_bars u) t.rows (raw_bars (rows_of t))

-- the last of the first n bars of a store, if there is one
unfoldable pub last_kept : ℕ → RawStore → Option Bar
unfolding bar_at
last_kept zero u = None
last_kept (suc n) u = Some (bar_at u n)

-- the store u has n bars
pub record Holds (u : RawStore) (n : ℕ) : Type 0 where
  pub store : SizedRaw u (length u.times)
  pub kept : n ≤ length u.times

-- the tail t stands behind no bar, and has none
pub record IsEmpty {N : ℕ} (t : Tail N) : Type 0 where
  pub sized : SizedRaw (rows_of t) N
  pub base : t.base ≡ 0
  pub rows : t.rows ≡ 0

-- the tail t stands behind the first bars of the store u, an empty one behind no bar, and has places for so many bars more
pub record CanTail {N : ℕ} (u : RawStore) (t : Tail N) (more : ℕ) : Type 0 where
  pub behind : Holds u t.base
  pub tail : SizedRaw (rows_of t) N
  pub room : t.rows + more ≤ N
  pub tied : t.rows ≡ 0 → t.base ≡ 0

-- the first bars of the store u, and behind them those of the tail t, are the bars l; an empty tail stands behind no bar
pub record HasTail {N : ℕ} (u : RawStore) (t : Tail N) (l : List Bar) : Type 0 where
  pub bars : shown u t ≡ l
  pub sized : SizedRaw (rows_of t) N
  pub within : t.rows ≤ N
  pub tied : t.rows ≡ 0 → t.base ≡ 0

-- the tail t, to which at most n bars have come, shows the bars l, behind as many bars of the store u as before
pub record TailGrown {N : ℕ} (u : RawStore) (t : Tail N) (n : ℕ) (t' : Tail N) (l : List Bar) : Type 0 where
  pub has : HasTail u t' l
  pub base : t'.base ≡ t.base
  pub rows : t'.rows ≤ t.rows + n

-- the times of the first n raw bars of the store s, whose columns have K places, rise, so that a time names one of them at most
pub record NamedRaw (s : RawStore) (K n : ℕ) : Type 0 where
  pub sized : SizedRaw s K
  pub fits : n ≤ K
  pub rise : T (rising (take n s.times))

-- the last of the first n bars of the store u, with the number of its elements
pub record LastOf (u : MergedStore) (n : ℕ) : Type 0 where
  pub kept : 1 ≤ n
  pub some : 1 ≤ get_or u.counts (n - 1) 0
  pub most : get_or u.counts (n - 1) 0 ≤ 101

-- a bar with the last time can be merged into the first n bars of the store u
pub record CanMergeAgain (u : MergedStore) (n : ℕ) : Type 0 where
  pub store : SizedMerged u (length u.times)
  pub fits : n ≤ length u.times
  pub again : LastOf u n

-- merged bars without their elements
unfoldable pub bars_only : List Merged → List Bar
bars_only l = map (λ k. k.bar) l

-- the unfinished bars l once b has come, by whether it is later: merged_with of the raw bars and the unfinished bars
unfoldable pub merged_by : Bool → List Bar → List Merged → Bar → List Merged
unfolding merge_in merged_again
merged_by true raw l b = merge_in l b
merged_by false raw l b = merged_again raw l b
