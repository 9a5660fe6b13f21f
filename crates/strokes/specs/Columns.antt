-- The fractals' columns, and all lent columns, as functions take them, and the stores that they are. Definitions only.
use Rattle.std.specs.Prelude.{ℕ, ◌≡◌, ◌-◌, length, take, drop}
use Rattle.stores.specs.declared.lent_columns.RawColumnsMut.{RawColumnsMut}
use Rattle.stores.specs.declared.lent_columns.MergedColumnsMut.{MergedColumnsMut}
use Rattle.stores.specs.Columns.{raw_in, raw_of, merged_in, merged_of, SameRaw, SameMerged}
use Rattle.strokes.specs.declared.lent_columns.FractalColumns.{FractalColumns}
use Rattle.strokes.specs.declared.lent_columns.FractalColumnsMut.{FractalColumnsMut}
use Rattle.strokes.specs.declared.lent_columns.StoreColumns.{StoreColumns}
use Rattle.strokes.specs.Lent.{FractalStore, fractal_store, Stores, stores_of}

-- ---- the stores

abbrev pub fractals_in : FractalColumns → FractalStore
fractals_in c = fractal_store c.stamps.now c.prices.now

abbrev pub fractals_of : FractalColumnsMut → FractalStore
fractals_of c = fractal_store c.stamps.now c.prices.now

-- the rows from `from` up to `to`
abbrev pub fractals_cut : ℕ → ℕ → FractalStore → FractalStore
fractals_cut from to s = fractal_store (take (to - from) (drop from s.stamps)) (take (to - from) (drop from s.prices))

-- all stores, lent to be read
abbrev pub stores_in : StoreColumns → Stores
stores_in c = stores_of (raw_in c.raw) (merged_in c.unfinished) (merged_in c.strokes) (fractals_in c.fractals)

-- all stores, lent to be written: the raw bars, the unfinished bars, the strokes' bars and the strokes' fractals
abbrev pub written_in : RawColumnsMut → MergedColumnsMut → MergedColumnsMut → FractalColumnsMut → Stores
written_in r u s f = stores_of (raw_of r) (merged_of u) (merged_of s) (fractals_of f)

-- ---- the same columns, with as many places

pub record SameFractals (a b : FractalColumnsMut) : Type 0 where
  pub stamps : b.stamps.ghost_name ≡ a.stamps.ghost_name
  pub prices : b.prices.ghost_name ≡ a.prices.ghost_name
  pub stamps_room : length b.stamps.now ≡ length a.stamps.now
  pub prices_room : length b.prices.now ≡ length a.prices.now

-- the four stores that a call is lent to be written
pub record SameColumns (r : RawColumnsMut) (u k : MergedColumnsMut) (f : FractalColumnsMut) (r' : RawColumnsMut) (u' k' : MergedColumnsMut) (f' : FractalColumnsMut) : Type 0 where
  pub raw : SameRaw r r'
  pub unfinished : SameMerged u u'
  pub strokes : SameMerged k k'
  pub fractals : SameFractals f f'
