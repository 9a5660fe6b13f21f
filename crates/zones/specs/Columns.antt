-- The lent output columns of zones, of a run's strokes and of fake strokes, as a function takes them in one value, and the columns that they are. Definitions only.
use Rattle.std.specs.Prelude.{ℕ, ◌≡◌, ◌≤◌, List, length}
use Rattle.zones.specs.declared.lent_rows.RowsMut.{RowsMut}
use Rattle.zones.specs.FakeRows.{FakeColumns, fake_columns}
use Rattle.zones.specs.ZoneRows.{ZoneColumns, zone_columns, StrokeColumns, stroke_columns}

-- ---- the columns

abbrev pub fakes_of : RowsMut 3 ℕ → FakeColumns
fakes_of c = fake_columns c.times.now c.prices.now c.kinds.now

abbrev pub strokes_of : RowsMut 2 ℕ → StrokeColumns
strokes_of c = stroke_columns c.times.now c.prices.now c.kinds.now

abbrev pub zones_of : RowsMut 5 (List ℕ) → ZoneColumns
zones_of c = zone_columns c.times.now c.prices.now c.kinds.now

-- ---- their places

-- every column has n places and more
pub record RoomRows {P : ℕ} {K : Type 0} (c : RowsMut P K) (n : ℕ) : Type 0 where
  pub times : n ≤ length c.times.now
  pub prices : n ≤ length c.prices.now
  pub kinds : n ≤ length c.kinds.now

-- The caller's own slices are behind the columns yet, and so what is written there is the caller's.
pub record SameRows {P : ℕ} {K : Type 0} (a b : RowsMut P K) : Type 0 where
  pub times : b.times.ghost_name ≡ a.times.ghost_name
  pub prices : b.prices.ghost_name ≡ a.prices.ghost_name
  pub kinds : b.kinds.ghost_name ≡ a.kinds.ghost_name
  pub times_room : length b.times.now ≡ length a.times.now
  pub prices_room : length b.prices.now ≡ length a.prices.now
  pub kinds_room : length b.kinds.now ≡ length a.kinds.now
