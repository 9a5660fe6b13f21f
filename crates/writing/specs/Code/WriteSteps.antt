-- What the writing steps of a feed do, each on the stores that it is lent: the bar is merged, the stroke that is found is put on, the unfinished bars are left
-- behind it, a broken stroke is joined, and the raw bar is kept. Definitions only.
use Rattle.std.specs.Prelude.{is_some, ℕ, zero, suc, ◌+◌, ◌≤◌, ◌<◌, Bool, true, false, List, [], ◌∷◌, ◌++◌, ◌≡◌, length, drop, T, ℤ}
use Rattle.std.specs.Int.Signed.{lt_z}
use Rattle.bars.specs.declared.Bar.{Bar}
use Rattle.bars.specs.Bars.{Merged}
use Rattle.bars.specs.Lists.{skip_while}
use Rattle.stores.specs.Stores.{RawStore, MergedStore}
use Rattle.stores.specs.Code.StoreRows.{SizedRaw, SizedMerged}
use Rattle.machine.specs.Strokes.{Stroke}
use Rattle.machine.specs.Break.{joined}
use Rattle.machine.specs.Stand.{State}
use Rattle.machine.specs.Feed.{merged_with}
use Rattle.strokes.specs.declared.Stand.{Stand}
use Rattle.strokes.specs.StateRead.{bar_counts, total, elements_sized}
use Rattle.strokes.specs.Lent.{FractalStore}
use Rattle.strokes.specs.Code.ElementCounts.{StaySized}
use Rattle.strokes.specs.Code.BarSteps.{RisingRaw, LastHas, CanMerge, kept_raw, kept_unfinished, without_last, stored_stroke}
use Rattle.strokes.specs.Code.StrokeSteps.{Kept, Unmoved, Makeable, kept_strokes, made_stroke, last_place, last_bars}
use Rattle.asking.specs.declared.plan.Plan.{Plan}
use Rattle.asking.specs.Code.FeedPlan.{start_in, end_in, bars_made}

-- ---- merging

-- a state of these raw bars and unfinished bars alone: no more of it has a say in merging
unfoldable pub bars_only : List Bar → List Merged → State
bars_only raw l = record { raw = raw; unfinished = l; strokes = [] }

-- the unfinished bars of a stand and its stores once b has come
unfoldable pub merged_from : Bool → Stand → RawStore → MergedStore → Bar → List Merged
unfolding merged_with bars_only
merged_from later s m u b = merged_with later (bars_only (kept_raw s m) (kept_unfinished s u)) b

-- the unfinished store u has room for what merging leaves, and what a replaced bar is read of is there
pub record CanPut (s : Stand) (m : RawStore) (u : MergedStore) (later : Bool) (b : Bar) : Type 0 where
  pub rising : RisingRaw s m
  pub merges : CanMerge s u (merged_from later s m u b)
  pub replaces : later ≡ false → LastHas s u

-- ---- a stroke is made

-- the strokes, and b behind them where it is made
unfoldable pub add_if : Bool → List Stroke → Stroke → List Stroke
add_if true bs b = bs ++ b ∷ []
add_if false bs b = bs

-- where one is made, its bars stand in the unfinished store u and have room in the stroke store
pub record CanMake (s : Stand) (u k : MergedStore) (f : FractalStore) (p : Plan) : Type 0 where
  pub kept : Kept s k f
  pub makes : is_some p.found ≡ true → Makeable s u (p.cut + start_in p.found) (bars_made p.found)

-- of a stand and its stroke store: where one is made, the stroke of so many unfinished bars from place `first` on is put on
pub record MadeWhere (made : Bool) (s : Stand) (u k : MergedStore) (f : FractalStore) (first bars : ℕ) (r : Stand) (k' : MergedStore) (f' : FractalStore) : Type 0 where
  pub strokes : kept_strokes r k' f' ≡ add_if made (kept_strokes s k f) (made_stroke (kept_unfinished s u) first bars)
  pub kept : Kept r k' f'
  pub rest : Unmoved r s
  pub elements : T (elements_sized s.unfinished u) → StaySized (total (bar_counts s)) k (total (bar_counts r)) k'

-- ---- the unfinished bars that are left

-- the stand, by whether the last stroke breaks
unfoldable pub left_stand : Bool → Stand → Stand
unfolding without_last
left_stand true s = without_last s
left_stand false s = s

-- of the bars l, by whether the last stroke breaks, whose bars stand in the stroke store k
unfoldable pub left_bars : Bool → Stand → MergedStore → List Merged → List Merged
unfolding joined stored_stroke last_place last_bars
left_bars true s k l = joined (stored_stroke k (last_place s) (last_bars s)) l
left_bars false s k l = l

-- the last stroke can break where the bars l are left: it stands in the stroke store k, and what joining leaves has room
pub record CanBreak (s : Stand) (k : MergedStore) (l : List Merged) : Type 0 where
  pub kept : 1 ≤ s.strokes
  pub most : s.strokes ≤ 65
  pub two : 2 ≤ last_bars s
  pub within : last_place s + last_bars s ≤ s.rooms.strokes
  pub room : length (joined (stored_stroke k (last_place s) (last_bars s)) l) ≤ s.rooms.unfinished

-- the bars from the found stroke's end on are left, or from the cut on
unfoldable pub rest_of : Plan → ℕ
unfolding end_in
rest_of p = p.cut + end_in p.found

-- such bars there are, and where the plan breaks the last stroke, it can break
pub record CanLeave (s : Stand) (u k : MergedStore) (p : Plan) : Type 0 where
  pub unfinished : SizedMerged u s.rooms.unfinished
  pub strokes : SizedMerged k s.rooms.strokes
  pub fits : s.unfinished ≤ s.rooms.unfinished
  pub inside : rest_of p ≤ s.unfinished
  pub breaks : is_some p.broken ≡ true → CanBreak s k (drop (rest_of p) (kept_unfinished s u))

-- ---- the raw bars that are kept

-- with a stroke kept, those earlier than the time of its first bar are dropped
unfoldable pub drop_earlier : ℕ → ℤ → List Bar → List Bar
unfolding skip_while
drop_earlier zero t l = l
drop_earlier (suc n) t l = skip_while (λ k. lt_z k.time t) l

-- the raw bar has room in the raw store m, and the stroke store, of n places, shows a time where a stroke is kept
pub record CanKeep (s : Stand) (m : RawStore) (n : ℕ) (later : Bool) : Type 0 where
  pub sized : SizedRaw m s.rooms.raw
  pub fits : s.raw ≤ s.rooms.raw
  pub puts : later ≡ true → s.raw < s.rooms.raw
  pub replaces : later ≡ false → 1 ≤ s.raw
  pub shows : 1 ≤ s.strokes → 1 ≤ n
