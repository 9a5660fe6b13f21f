-- The lent columns of a store, as a function takes them in one value, and the store that they are. Of columns lent to be written: that they are the same columns afterwards,
-- with as many places as before. Definitions only.
use Rattle.std.specs.Prelude.{ℕ, ◌≡◌, ◌-◌, length, take, drop}
use Rattle.stores.specs.declared.lent_columns.RawColumns.{RawColumns}
use Rattle.stores.specs.declared.lent_columns.RawColumnsMut.{RawColumnsMut}
use Rattle.stores.specs.declared.lent_columns.MergedColumns.{MergedColumns}
use Rattle.stores.specs.declared.lent_columns.MergedColumnsMut.{MergedColumnsMut}
use Rattle.stores.specs.Stores.{RawStore, MergedStore, raw_store, merged_store}

-- ---- the store

abbrev pub raw_in : RawColumns → RawStore
raw_in c = raw_store c.times.now c.ids.now c.prices.now

abbrev pub raw_of : RawColumnsMut → RawStore
raw_of c = raw_store c.times.now c.ids.now c.prices.now

abbrev pub merged_in : MergedColumns → MergedStore
merged_in c = merged_store c.times.now c.ids.now c.prices.now c.counts.now c.elements.now

abbrev pub merged_of : MergedColumnsMut → MergedStore
merged_of c = merged_store c.times.now c.ids.now c.prices.now c.counts.now c.elements.now

-- the rows from `from` up to `to`
abbrev pub raw_cut : ℕ → ℕ → RawStore → RawStore
raw_cut from to s = raw_store (take (to - from) (drop from s.times)) (take (to - from) (drop from s.ids)) (take (to - from) (drop from s.prices))

abbrev pub merged_cut : ℕ → ℕ → MergedStore → MergedStore
merged_cut from to s =
    merged_store (take (to - from) (drop from s.times)) (take (to - from) (drop from s.ids)) (take (to - from) (drop from s.prices)) (take (to - from) (drop from s.counts))
    (take (to - from) (drop from s.elements))

-- ---- the same columns

-- The caller's own slices are behind the columns yet, and so what is written there is the caller's.
pub record SameRaw (a b : RawColumnsMut) : Type 0 where
  pub times : b.times.ghost_name ≡ a.times.ghost_name
  pub ids : b.ids.ghost_name ≡ a.ids.ghost_name
  pub prices : b.prices.ghost_name ≡ a.prices.ghost_name
  pub times_room : length b.times.now ≡ length a.times.now
  pub ids_room : length b.ids.now ≡ length a.ids.now
  pub prices_room : length b.prices.now ≡ length a.prices.now

pub record SameMerged (a b : MergedColumnsMut) : Type 0 where
  pub times : b.times.ghost_name ≡ a.times.ghost_name
  pub ids : b.ids.ghost_name ≡ a.ids.ghost_name
  pub prices : b.prices.ghost_name ≡ a.prices.ghost_name
  pub counts : b.counts.ghost_name ≡ a.counts.ghost_name
  pub elements : b.elements.ghost_name ≡ a.elements.ghost_name
  pub times_room : length b.times.now ≡ length a.times.now
  pub ids_room : length b.ids.now ≡ length a.ids.now
  pub prices_room : length b.prices.now ≡ length a.prices.now
  pub counts_room : length b.counts.now ≡ length a.counts.now
  pub elements_room : length b.elements.now ≡ length a.elements.now
