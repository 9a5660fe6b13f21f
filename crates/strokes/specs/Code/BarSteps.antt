-- What the writing steps of a feed say of the raw store and of the unfinished store: the bars that the store holds then, and that of the stand nothing but
-- their number has changed, and of no column the length. Definitions only.
use Rattle.std.specs.Prelude.{ℕ, ◌+◌, ◌-◌, ◌≤◌, List, [], ◌≡◌, length, take, drop, get_or, T}
use Rattle.bars.specs.declared.Bar.{Bar}
use Rattle.bars.specs.Bars.{Merged}
use Rattle.bars.specs.Lists.{last, init}
use Rattle.bars.specs.Merging.{merge_all, again}
use Rattle.stores.specs.Stores.{RawStore, MergedStore, raw_bars, merged_bars}
use Rattle.stores.specs.Code.StoreRows.{SizedRaw, SizedMerged, rising}
use Rattle.strokes.specs.declared.Stand.{Stand}
use Rattle.machine.specs.Strokes.{Stroke}
use Rattle.machine.specs.Break.{joined}
use Rattle.machine.specs.Stand.{State}
use Rattle.strokes.specs.StateRead.{stroke_with}

-- ---- the raw store

-- the raw bars that the stand keeps in this store
abbrev pub kept_raw : Stand → RawStore → List Bar
kept_raw s m = take s.raw (raw_bars m)

-- the stand with another number of raw bars
unfoldable pub with_raw : Stand → ℕ → Stand
with_raw s n =
    record {
      minimum = s.minimum;
      most = s.most;
      rooms = s.rooms;
      raw = n;
      unfinished = s.unfinished;
      strokes = s.strokes;
      bars = s.bars;
      fractals = s.fractals;
      power_places = s.power_places;
      ratio_places = s.ratio_places;
    }

-- a state of these raw bars alone: no more of it has a say in the raw bars once another has come
unfoldable pub raw_only : List Bar → State
raw_only l = record { raw = l; unfinished = []; strokes = [] }

-- after a step of the stand s, the stand r keeps the raw bars l in the store m
pub record HasRaw (s r : Stand) (m : RawStore) (l : List Bar) : Type 0 where
  pub bars : kept_raw r m ≡ l
  pub stand : r ≡ with_raw s (length l)
  pub sized : SizedRaw m s.rooms.raw

-- ---- the unfinished store

-- the unfinished bars that the stand keeps in this store
abbrev pub kept_unfinished : Stand → MergedStore → List Merged
kept_unfinished s m = take s.unfinished (merged_bars m)

-- the stand with another number of unfinished bars
unfoldable pub with_unfinished : Stand → ℕ → Stand
with_unfinished s n =
    record {
      minimum = s.minimum;
      most = s.most;
      rooms = s.rooms;
      raw = s.raw;
      unfinished = n;
      strokes = s.strokes;
      bars = s.bars;
      fractals = s.fractals;
      power_places = s.power_places;
      ratio_places = s.ratio_places;
    }

-- after a step of the stand s, the stand r keeps the unfinished bars l in the store m
pub record HasUnfinished (s r : Stand) (m : MergedStore) (l : List Merged) : Type 0 where
  pub bars : kept_unfinished r m ≡ l
  pub stand : r ≡ with_unfinished s (length l)
  pub sized : SizedMerged m s.rooms.unfinished

-- ---- merging

-- the unfinished store u has room for the bars l that merging leaves: question 11
pub record CanMerge (s : Stand) (u : MergedStore) (l : List Merged) : Type 0 where
  pub unfinished : SizedMerged u s.rooms.unfinished
  pub fits : s.unfinished ≤ s.rooms.unfinished
  pub room : length l ≤ s.rooms.unfinished

-- the times of the raw bars that are kept in the store m rise, so that a time names one bar at most
pub record RisingRaw (s : Stand) (m : RawStore) : Type 0 where
  pub sized : SizedRaw m s.rooms.raw
  pub fits : s.raw ≤ s.rooms.raw
  pub rise : T (rising (take s.raw m.times))

-- the last unfinished bar, with the number of its elements
pub record LastHas (s : Stand) (u : MergedStore) : Type 0 where
  pub kept : 1 ≤ s.unfinished
  pub some : 1 ≤ get_or u.counts (s.unfinished - 1) 0
  pub most : get_or u.counts (s.unfinished - 1) 0 ≤ 101

-- a bar with the last time: merged_with of the raw bars and the unfinished bars
unfoldable pub merged_again : List Bar → List Merged → Bar → List Merged
unfolding merge_all again last init
merged_again raw l b = merge_all (init l) (again raw (last l) b)

-- ---- the break

-- the stand without its last stroke: what is not counted is not read
unfoldable pub without_last : Stand → Stand
without_last s =
    record {
      minimum = s.minimum;
      most = s.most;
      rooms = s.rooms;
      raw = s.raw;
      unfinished = s.unfinished;
      strokes = s.strokes - 1;
      bars = s.bars;
      fractals = s.fractals;
      power_places = s.power_places;
      ratio_places = s.ratio_places;
    }

-- the stroke whose n bars stand in the stroke store from a place on
unfoldable pub stored_stroke : MergedStore → ℕ → ℕ → Stroke
unfolding stroke_with merged_bars
stored_stroke k at n = stroke_with [] (take n (drop at (merged_bars k)))

-- the last stroke is kept, its n bars stand in the stroke store k from place `at` on, and the unfinished store u has room for what joining leaves: question 11
pub record CanJoin (s : Stand) (u k : MergedStore) (at n : ℕ) : Type 0 where
  pub unfinished : SizedMerged u s.rooms.unfinished
  pub strokes : SizedMerged k s.rooms.strokes
  pub fits : s.unfinished ≤ s.rooms.unfinished
  pub kept : 1 ≤ s.strokes
  pub two : 2 ≤ n
  pub within : at + n ≤ s.rooms.strokes
  pub room : length (joined (stored_stroke k at n) (kept_unfinished s u)) ≤ s.rooms.unfinished
