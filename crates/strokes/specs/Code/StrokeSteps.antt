-- How the stroke store is written: the rows of a fractal, the fractals of a run of bars one after the other, as check_fxs takes them, a stroke that is made, and
-- the oldest one shed. Definitions only.
use Rattle.std.specs.Prelude.{ℕ, ◌+◌, ◌-◌, ◌*◌, ◌/◌, ◌≤◌, ◌<◌, Bool, true, false, List, [], ◌∷◌, ◌++◌, map, ◌≡◌, length, take, drop, get_or, set, T, ltb, ℤ, pos, Float}
use Rattle.std.proofs.Math.Option.{Option, none, some}
use Rattle.std.specs.Prelude as Std
use Rattle.std.specs.Float.{nan}
use Rattle.arith.specs.Order.{max_of, min_of}
use Rattle.bars.specs.declared.Bar.{Bar}
use Rattle.bars.specs.Bars.{Merged}
use Rattle.bars.specs.Lists.{last, init, copied}
use Rattle.stores.specs.Stores.{RawStore, MergedStore, raw_bars, merged_bars}
use Rattle.stores.specs.Code.StoreRows.{SizedMerged}
use Rattle.machine.specs.declared.Mark.{Mark}
use Rattle.machine.specs.declared.Mark.TheVariants.{D, G}
use Rattle.strokes.specs.declared.Stand.{Stand}
use Rattle.strokes.specs.declared.strokes_store.LastStroke.{LastStroke}
use Rattle.strokes.specs.declared.strokes_store.Written.{Written}
use Rattle.machine.specs.Fractals.{Fractal, is_top, is_bottom, taken, check_fxs}
use Rattle.machine.specs.Strokes.{Stroke, direction_of}
use Rattle.machine.specs.Break.{high_of, low_of}
use Rattle.machine.specs.Feed.{shed_if}
use Rattle.strokes.specs.StateRead.{stored_fractals, stroke_with, strokes_with, settings_of, bar_counts, fractal_counts, total, elements_sized, bare_fractal}
use Rattle.strokes.specs.Lent.{FractalStore, fractal_store}
use Rattle.strokes.specs.FractalRows.{stamps_of, prices_of, row_mark}
use Rattle.strokes.specs.Code.ElementCounts.{StaySized}

-- ---- the rows of a fractal

-- the store with these bars as the fractal at a place
unfoldable pub set_fractal : FractalStore → ℕ → Bar → Bar → Bar → FractalStore
unfolding stamps_of prices_of
set_fractal s at a b c = fractal_store (set s.stamps at (stamps_of a b c)) (set s.prices at (prices_of a b c))

-- both columns have n places
pub record SizedFractals (s : FractalStore) (n : ℕ) : Type 0 where
  pub stamps : length s.stamps ≡ n
  pub prices : length s.prices ≡ n

-- both columns have at least n places
pub record RoomFractals (s : FractalStore) (n : ℕ) : Type 0 where
  pub stamps : n ≤ length s.stamps
  pub prices : n ≤ length s.prices

-- ---- the fractals of a run of bars, written from a place on

-- a bar as a merged bar without elements
unfoldable pub plain_bar : Bar → Merged
plain_bar b = record { bar = b; elements = [] }

-- the fractals of the bars from place `first` on and before place `end`
unfoldable pub fractals_between : RawStore → ℕ → ℕ → List Fractal
unfolding check_fxs plain_bar raw_bars
fractals_between s first end = check_fxs (drop first (take end (map plain_bar (raw_bars s))))

-- ---- window by window

-- the mark of the last one taken, if one was
unfoldable pub last_mark : Std.Option Mark → Option Mark
last_mark Std.None = none
last_mark (Std.Some m) = some m

unfoldable pub last_of : Written → Option Mark
unfolding last_mark
last_of w = last_mark w.last

-- the store, and what has been written to it
pub record Writing : Type 0 where
  pub store : FractalStore
  pub written : Written

abbrev pub writing : FractalStore → Written → Writing
writing f w = record { store = f; written = w }

unfoldable pub put_if : Bool → Writing → ℕ → Mark → Bar → Bar → Bar → Writing
unfolding set_fractal
put_if true s at m a b c =
    record { store = set_fractal s.store (at + s.written.count) a b c; written = record { count = s.written.count + 1; last = Std.Some m } }
put_if false s at m a b c = s

-- a fractal of mark m, unless the last one taken has this mark
unfoldable pub put_fractal : Writing → ℕ → Mark → Bar → Bar → Bar → Writing
unfolding put_if taken last_of
put_fractal s at m a b c = put_if (taken (last_of s.written) m) s at m a b c

unfoldable pub put_window_if : Bool → Bool → Writing → ℕ → Bar → Bar → Bar → Writing
unfolding put_fractal
put_window_if true u s at a b c = put_fractal s at G a b c
put_window_if false true s at a b c = put_fractal s at D a b c
put_window_if false false s at a b c = s

-- the fractal of a window, if it has one that is taken
unfoldable pub put_window : Writing → ℕ → Bar → Bar → Bar → Writing
unfolding put_window_if is_top is_bottom
put_window s at a b c = put_window_if (is_top a b c) (is_bottom a b c) s at a b c

-- ---- the strokes that are kept

unfoldable pub kept_strokes : Stand → MergedStore → FractalStore → List Stroke
unfolding strokes_with bar_counts fractal_counts merged_bars stored_fractals
kept_strokes s k f = strokes_with (bar_counts s) (fractal_counts s) (merged_bars k) (stored_fractals f)

-- no stroke has more fractals than bars
abbrev pub Fewer : List ℕ → List ℕ → Type 0
Fewer [] ms = Unit {0}
Fewer (n ∷ ns) [] = Unit {0}
Fewer (n ∷ ns) (m ∷ ms) = (m ≤ n) × Fewer ns ms

-- the stroke store has the stand's room, and what the stand counts fits it
pub record Kept (s : Stand) (k : MergedStore) (f : FractalStore) : Type 0 where
  pub strokes : s.strokes ≤ 65
  pub merged : SizedMerged k s.rooms.strokes
  pub fractals : SizedFractals f s.rooms.strokes
  pub fits : total (bar_counts s) ≤ s.rooms.strokes
  pub fewer : Fewer (bar_counts s) (fractal_counts s)

-- what a step on the stroke store leaves as it was
pub record Unmoved (r s : Stand) : Type 0 where
  pub settings : settings_of r ≡ settings_of s
  pub rooms : r.rooms ≡ s.rooms
  pub raw : r.raw ≡ s.raw
  pub unfinished : r.unfinished ≡ s.unfinished

-- ---- the oldest stroke is shed

-- the same rows copied in both columns
unfoldable pub copied_fractals : FractalStore → ℕ → FractalStore → ℕ → ℕ → FractalStore
unfolding copied
copied_fractals d at s from n = fractal_store (copied d.stamps at s.stamps from n) (copied d.prices at s.prices from n)

-- The rows of each stroke's fractals moved down by b places, stroke by stroke: the first of these strokes goes to place `to`, and each next one as many places
-- further on as the one before it has bars. The free rows behind a stroke's fractals are not moved.
unfoldable pub moved_down : {A : Type 0} → List ℕ → List ℕ → ℕ → ℕ → List A → List A
unfolding copied
moved_down [] ms to b l = l
moved_down (n ∷ ns) [] to b l = l
moved_down (n ∷ ns) (m ∷ ms) to b l = moved_down ns ms (to + n) b (copied l to l (to + b) m)

-- both columns, to the beginning
unfoldable pub moved_fractals : List ℕ → List ℕ → ℕ → FractalStore → FractalStore
unfolding moved_down
moved_fractals ns ms b f = fractal_store (moved_down ns ms 0 b f.stamps) (moved_down ns ms 0 b f.prices)

-- 65 counts one place down
unfoldable pub shifted : List ℕ → List ℕ
unfolding copied
shifted l = copied l 0 l 1 64

unfoldable pub shed_stand : Stand → Stand
unfolding shifted
shed_stand s =
    record {
      minimum = s.minimum;
      most = s.most;
      rooms = s.rooms;
      raw = s.raw;
      unfinished = s.unfinished;
      strokes = s.strokes - 1;
      bars = shifted s.bars;
      fractals = shifted s.fractals;
      power_places = s.power_places;
      ratio_places = s.ratio_places;
    }

-- of a stand and its stroke store: where over, the oldest stroke goes
pub record ShedWhere (over : Bool) (s : Stand) (k : MergedStore) (f : FractalStore) (r : Stand) (k' : MergedStore) (f' : FractalStore) : Type 0 where
  pub strokes : kept_strokes r k' f' ≡ shed_if over (kept_strokes s k f)
  pub kept : Kept r k' f'
  pub rest : Unmoved r s
  pub elements : StaySized (total (bar_counts s)) k (total (bar_counts r)) k'

-- ---- a stroke is made

-- one stroke more, of so many bars and fractals
unfoldable pub with_stroke : Stand → ℕ → ℕ → Stand
with_stroke s n m =
    record {
      minimum = s.minimum;
      most = s.most;
      rooms = s.rooms;
      raw = s.raw;
      unfinished = s.unfinished;
      strokes = s.strokes + 1;
      bars = set s.bars s.strokes n;
      fractals = set s.fractals s.strokes m;
      power_places = s.power_places;
      ratio_places = s.ratio_places;
    }

-- the stroke's fractals are those of its bars and one more, if there is one
unfoldable pub end_if : Bool → ℕ → ℕ
end_if true e = e + 1
end_if false e = e

-- of a stroke that takes so many of the first n bars, from place `first` on
unfoldable pub windows_end : ℕ → ℕ → ℕ → ℕ
unfolding end_if
windows_end first bars n = end_if (ltb (first + bars) n) (first + bars)

-- the stroke of so many of the bars l, from place `first` on, as its rows show it
unfoldable pub made_stroke : List Merged → ℕ → ℕ → Stroke
unfolding stroke_with bare_fractal check_fxs
made_stroke l first bars = stroke_with (map bare_fractal (check_fxs (take (bars + 1) (drop first l)))) (take bars (drop first l))

-- of the unfinished bars, in the store u, so many can be a stroke
pub record Makeable (s : Stand) (u : MergedStore) (first bars : ℕ) : Type 0 where
  pub strokes : s.strokes ≤ 64
  pub merged : SizedMerged u s.rooms.unfinished
  pub unfinished : s.unfinished ≤ s.rooms.unfinished
  pub inside : first + bars ≤ s.unfinished
  pub fits : total (bar_counts s) + bars ≤ s.rooms.strokes
  pub few : bars < 4294967296

-- of a stand and its stroke store: the stroke is put on
pub record Made (s : Stand) (u k : MergedStore) (f : FractalStore) (first bars : ℕ) (r : Stand) (k' : MergedStore) (f' : FractalStore) : Type 0 where
  pub strokes : kept_strokes r k' f' ≡ kept_strokes s k f ++ made_stroke (take s.unfinished (merged_bars u)) first bars ∷ []
  pub kept : Kept r k' f'
  pub rest : Unmoved r s
  pub elements : T (elements_sized s.unfinished u) → StaySized (total (bar_counts s)) k (total (bar_counts r)) k'

-- ---- the last stroke, of which the break test asks

-- where its rows begin, and how many bars and fractals it has
unfoldable pub last_place : Stand → ℕ
unfolding total
last_place s = total (take (s.strokes - 1) s.bars)

unfoldable pub last_bars : Stand → ℕ
last_bars s = get_or s.bars (s.strokes - 1) 0

unfoldable pub last_fractals : Stand → ℕ
last_fractals s = get_or s.fractals (s.strokes - 1) 0

-- where its end stands
unfoldable pub end_place : Stand → ℕ
unfolding last_place last_fractals
end_place s = last_place s + (2 * (last_fractals s / 2) - 1)

-- it is read off the columns of times and of the fractals' prices; the middle bar's high and low stand at 8 and 9 of a row
unfoldable pub last_read : Stand → List ℤ → List (List Float) → LastStroke
unfolding last_place last_bars end_place row_mark direction_of max_of min_of
last_read s ts ps =
    record {
      high = max_of (get_or (get_or ps (last_place s) []) 8 nan) (get_or (get_or ps (end_place s) []) 8 nan);
      low = min_of (get_or (get_or ps (last_place s) []) 9 nan) (get_or (get_or ps (end_place s) []) 9 nan);
      direction = direction_of (row_mark (get_or ps (last_place s) []));
      bars = last_bars s;
      time = get_or ts (last_place s + last_bars s - 2) (pos 0);
      place = last_place s;
    }

-- there is a last stroke, inside a store of n places, with a fractal and two bars
pub record LastStands (s : Stand) (n : ℕ) : Type 0 where
  pub strokes : 1 ≤ s.strokes
  pub most : s.strokes ≤ 65
  pub fits : last_place s + last_bars s ≤ n
  pub two : 2 ≤ last_bars s
  pub ends : 1 ≤ last_fractals s
  pub fewer : last_fractals s ≤ last_bars s

-- r is what the break test asks of the last stroke kept
pub record LastIs (s : Stand) (k : MergedStore) (f : FractalStore) (r : LastStroke) : Type 0 where
  pub stroke : Stroke
  pub is : last (kept_strokes s k f) ≡ some stroke
  pub high : r.high ≡ high_of stroke
  pub low : r.low ≡ low_of stroke
  pub direction : r.direction ≡ direction_of stroke.start.mark
  pub bars : stroke.bars ≡ take r.bars (drop r.place (merged_bars k))
  pub count : r.bars ≡ length stroke.bars
  pub before : Merged
  pub last_but_one : last (init stroke.bars) ≡ some before
  pub time : r.time ≡ before.bar.time

-- ---- the last stroke is taken off

-- of a stand and its stroke store, which stays as it is: the last stroke goes
pub record TakenOff (s : Stand) (k : MergedStore) (f : FractalStore) (r : Stand) : Type 0 where
  pub strokes : kept_strokes r k f ≡ init (kept_strokes s k f)
  pub kept : Kept r k f
  pub rest : Unmoved r s
