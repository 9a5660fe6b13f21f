-- What a feed of a bar that passed its questions writes to the lent stores: the plain machine's step. Definitions only.
use Rattle.std.specs.Prelude.{ℕ, ◌≤◌, ◌<◌, Bool, List, map, ◌≡◌, length, T, ltb}
use Rattle.bars.specs.declared.Bar.{Bar}
use Rattle.bars.specs.Bars.{Merged}
use Rattle.bars.specs.Lists.{every, last}
use Rattle.stores.specs.Stores.{MergedStore}
use Rattle.stores.specs.Code.StoreRows.{SizedMerged}
use Rattle.machine.specs.Strokes.{Stroke}
use Rattle.machine.specs.Feed.{Moved, is_later, make, move, shed_if, shed_count, step}
use Rattle.machine.specs.FeedQuestions.{moved_fits, failed_after4}
use Rattle.machine.specs.Soundness.{bars_of, is_stroke}
use Rattle.check_bi.specs.Code.Scan.{candle_of}
use Rattle.strokes.specs.declared.Stand.{Stand}
use Rattle.strokes.specs.StateRead.{settings_of, state_of, bar_counts, total, elements_sized, sized, bare_stroke, bare_state}
use Rattle.strokes.specs.Lent.{FractalStore, Stores}
use Rattle.strokes.specs.Code.BarSteps.{kept_unfinished}
use Rattle.strokes.specs.Code.StrokeSteps.{Kept, kept_strokes}
use Rattle.sound.specs.StandSound.{IsSound}
use Rattle.asking.specs.declared.plan.Plan.{Plan}
use Rattle.asking.specs.Code.FeedPlan.{plan_of}
use Rattle.asking.specs.Code.Asked.{last_of, plan_for}
use Rattle.writing.specs.declared.Wrote.{Wrote}

-- ---- the strokes and the unfinished bars, once the bar is merged

-- the machine's make and move of a stand's unfinished bars and strokes
unfoldable pub made_of : Stand → MergedStore → MergedStore → FractalStore → Moved
unfolding make kept_strokes
made_of s u k f = make s.minimum (kept_unfinished s u) (kept_strokes s k f)

unfoldable pub moved_of : Stand → MergedStore → MergedStore → FractalStore → Moved
unfolding move kept_strokes
moved_of s u k f = move s.minimum (kept_unfinished s u) (kept_strokes s k f)

-- the plan for the unfinished bars l and the strokes bs
unfoldable pub plan_with : ℕ → List Merged → List Stroke → Plan
unfolding plan_of last_of last candle_of
plan_with minimum l bs = plan_of minimum (last_of (last bs)) (map candle_of l)

-- the plan p is theirs, the stores hold them, and questions 11 and 12 have made room
pub record CanMove (s : Stand) (u k : MergedStore) (f : FractalStore) (p : Plan) : Type 0 where
  pub unfinished : SizedMerged u s.rooms.unfinished
  pub fits : s.unfinished ≤ s.rooms.unfinished
  pub kept : Kept s k f
  pub few : s.strokes ≤ s.most
  pub most : s.most ≤ 64
  pub strokes : T (every is_stroke (kept_strokes s k f))
  pub plan : p ≡ plan_with s.minimum (kept_unfinished s u) (kept_strokes s k f)
  pub joins : T (moved_fits s.rooms.unfinished (moved_of s u k f))
  pub room : bars_of (made_of s u k f).kept ≤ s.rooms.strokes
  pub small : s.rooms.unfinished < 4294967296

-- before a stroke is shed. The stores do not keep the elements of fractals' bars.
pub record HasLeft (s : Stand) (u k : MergedStore) (f : FractalStore) (r : Stand) (u' k' : MergedStore) (f' : FractalStore) : Type 0 where
  pub unfinished : kept_unfinished r u' ≡ (moved_of s u k f).left
  pub fits : r.unfinished ≤ s.rooms.unfinished
  pub sized : SizedMerged u' s.rooms.unfinished
  pub strokes : kept_strokes r k' f' ≡ map bare_stroke (moved_of s u k f).kept
  pub kept : Kept r k' f'
  pub settings : settings_of r ≡ settings_of s
  pub rooms : r.rooms ≡ s.rooms
  pub raw : r.raw ≡ s.raw
  pub elements : T (elements_sized s.unfinished u) → T (elements_sized (total (bar_counts s)) k)
      → T (elements_sized r.unfinished u') × T (elements_sized (total (bar_counts r)) k')

-- more strokes are kept than the most
unfoldable pub over_of : Stand → Moved → Bool
over_of s m = ltb s.most (length m.kept)

pub record HasMoved (s : Stand) (u k : MergedStore) (f : FractalStore) (r : Wrote) (u' k' : MergedStore) (f' : FractalStore) : Type 0 where
  pub unfinished : kept_unfinished r.stand u' ≡ (moved_of s u k f).left
  pub fits : r.stand.unfinished ≤ s.rooms.unfinished
  pub sized : SizedMerged u' s.rooms.unfinished
  pub strokes : kept_strokes r.stand k' f' ≡ map bare_stroke (shed_if (over_of s (moved_of s u k f)) (moved_of s u k f).kept)
  pub kept : Kept r.stand k' f'
  pub settings : settings_of r.stand ≡ settings_of s
  pub rooms : r.stand.rooms ≡ s.rooms
  pub raw : r.stand.raw ≡ s.raw
  pub made : r.made ≡ (moved_of s u k f).made
  pub broken : r.broken ≡ (moved_of s u k f).broken
  pub shed : r.shed ≡ shed_count (over_of s (moved_of s u k f))
  pub elements : T (elements_sized s.unfinished u) → T (elements_sized (total (bar_counts s)) k)
      → T (elements_sized r.stand.unfinished u') × T (elements_sized (total (bar_counts r.stand)) k')

-- ---- the whole feed

-- question 4 and the questions after it have passed, and the plan is the one that they were asked of
pub record CanWrite (s : Stand) (m : Stores) (b : Bar) (later : Bool) (p : Plan) : Type 0 where
  pub sound : IsSound s m
  pub passes : failed_after4 (settings_of s) (state_of s m) b ≡ 0
  pub later-is : later ≡ is_later (last (state_of s m).raw) b
  pub plan-is : p ≡ plan_for (settings_of s) (state_of s m) b

-- the stand and the stores are those of the machine's step, and the numbers its events
pub record IsWritten (s : Stand) (m : Stores) (b : Bar) (r : Wrote) (m' : Stores) : Type 0 where
  pub state : state_of r.stand m' ≡ bare_state (step (settings_of s) (state_of s m) b).state
  pub events : record { made = r.made; broken = r.broken; shed = r.shed } ≡ (step (settings_of s) (state_of s m) b).events
  pub settings : settings_of r.stand ≡ settings_of s
  pub sizes : T (sized r.stand m')
