-- What the steps of the batch call may count on. Definitions only.
use Rattle.std.specs.Prelude.{ℕ, ◌≡◌, length}
use Rattle.stores.specs.Stores.{RawStore, raw_bars}
use Rattle.stores.specs.Code.StoreRows.{RoomRaw}
use Rattle.strokes.specs.declared.Stand.{Stand}
use Rattle.strokes.specs.Lent.{Stores}
use Rattle.from_fresh.specs.FromFresh.{FromFresh}

-- a stand and stores that come from a fresh analyzer, and n bars to feed
pub record CanBatch (s : Stand) (m : Stores) (bars : RawStore) (n : ℕ) : Type 0 where
  pub begun : FromFresh s m
  pub room : RoomRaw bars n
  pub count : length (raw_bars bars) ≡ n
