-- What merging into a tail of bars, kept in rows of one's own, says of those rows. Definitions only.
use Rattle.std.specs.Prelude.{ℕ, ◌+◌, ◌≤◌, Bool, true, false, List, ◌++◌, ◌≡◌, take, drop, Option, None, Some}
use Rattle.bars.specs.declared.Bar.{Bar}
use Rattle.stores.specs.Stores.{RawStore, raw_store, raw_bars}
use Rattle.bars.specs.Code.MergedBars.{behind, merge_bars}

-- the rows from place n on
unfoldable pub rows_from : ℕ → RawStore → RawStore
rows_from n s = raw_store (drop n s.times) (drop n s.ids) (drop n s.prices)

-- n bars were merged into the first m bars of the tail s, behind the bar k where there is one: the first r bars of the tail t are then l, at most n more than
-- before, and no row from place r on has changed
pub record TailHas (any : Bool) (k : Bar) (s : RawStore) (m n : ℕ) (t : RawStore) (r : ℕ) (l : List Bar) : Type 0 where
  pub bars : behind any k ++ take r (raw_bars t) ≡ l
  pub least : m ≤ r
  pub most : r ≤ m + n
  pub beyond : rows_from r t ≡ rows_from r s

-- the bar b was merged into the first m bars of the tail s, behind the bar that stands before it, where there is one
unfoldable pub TailTakes : Option Bar → RawStore → ℕ → Bar → RawStore → ℕ → Type 0
TailTakes None s m b t r = TailHas false b s m 1 t r (merge_bars (behind false b ++ take m (raw_bars s)) b)
TailTakes (Some k) s m b t r = TailHas true k s m 1 t r (merge_bars (behind true k ++ take m (raw_bars s)) b)
