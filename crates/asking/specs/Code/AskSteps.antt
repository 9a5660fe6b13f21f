-- The steps of the asking, of the columns that each of them reads: questions 5 to 10, the last stroke, and the plan behind the tail. Definitions only.
use Rattle.std.specs.Prelude.{ℕ, zero, suc, ◌+◌, ◌<◌, ◌≤◌, Bool, false, List, map, ◌≡◌, length, take, ℤ, Float, IfOk, Result}
use Rattle.std.specs.Prelude.{Some, None}
use Rattle.std.specs.declared.option.Option as Std
use Rattle.std.proofs.Math.Option.{Option}
use Rattle.bars.specs.declared.Bar.{Bar}
use Rattle.bars.specs.declared.refusals.Question.{Question}
use Rattle.bars.specs.Bars.{Merged}
use Rattle.bars.specs.Questions.{first_failed}
use Rattle.bars.specs.Refusals.{asked}
use Rattle.stores.specs.Stores.{RawStore, MergedStore, raw_part, raw_bars, merged_bars}
use Rattle.stores.specs.Code.StoreRows.{SizedMerged}
use Rattle.machine.specs.Names.{starting_mark}
use Rattle.machine.specs.Feed.{is_later}
use Rattle.machine.specs.FeedQuestions.{fewer_if, or_else, first_of}
use Rattle.strokes.specs.declared.Stand.{Stand}
use Rattle.strokes.specs.declared.strokes_store.LastStroke.{LastStroke}
use Rattle.strokes.specs.Lent.{Stores}
use Rattle.strokes.specs.StateRead.{bar_counts, total}
use Rattle.strokes.specs.Code.StrokeSteps.{last_read, LastStands}
use Rattle.check_bi.specs.declared.check_fx.Candle.{Candle}
use Rattle.check_bi.specs.Code.Scan.{candle_of}
use Rattle.asking.specs.declared.merged_tail.Tail.{Tail}
use Rattle.asking.specs.declared.plan.Last.{Last}
use Rattle.asking.specs.declared.plan.Plan.{Plan}
use Rattle.asking.specs.Code.MergedTail.{CanTail, NamedRaw, LastOf, merged_by}
use Rattle.asking.specs.Code.FeedPlan.{plan_of, refused_of}

-- ---- questions 5 to 10

-- the first "no" among questions 5 to 9 is q; where there is none, question 10 decides
unfoldable pub early_by : ℕ → Bool → ℕ → ℕ → ℕ
unfolding first_of or_else fewer_if
early_by q later count room = first_of q (or_else (fewer_if later count room) 10 0)

-- where o is the newest raw bar, if there is one, and so many raw bars are kept of which so many fit
pub record EarlyOf (o : Option Bar) (count room : ℕ) (b : Bar) (r : Result Bool Question) : Type 0 where
  pub failed : asked r ≡ early_by (first_failed o b) (is_later o b) count room
  pub later : IfOk r (λ x. x ≡ is_later o b)

-- ---- the last stroke

-- what is read of the last stroke, as the plan takes it
unfoldable pub last_from : LastStroke → Last
last_from r = record { mark = starting_mark r.direction; high = r.high; low = r.low; bars = r.bars; time = r.time }

-- by the number of strokes that are kept
unfoldable pub last_in : ℕ → Stand → List ℤ → List (List Float) → Std.Option Last
unfolding last_from last_read
last_in zero s ts ps = None
last_in (suc n) s ts ps = Some (last_from (last_read s ts ps))

-- where a stroke is kept, its rows stand in these columns, and the strokes' bars have so many places
pub record HasLast (s : Stand) (ts : List ℤ) (ps : List (List Float)) : Type 0 where
  pub stands : 1 ≤ s.strokes → LastStands s (length ts)
  pub even : length ps ≡ length ts
  pub few : length ts ≤ 65536
  pub most : s.strokes ≤ 65
  pub sum : total (bar_counts s) ≤ 65536

-- ---- the plan

-- what the plan asks of the stand, of the stores and of the tail
pub record CanPlan {N : ℕ} (s : Stand) (m : Stores) (t : Tail N) : Type 0 where
  pub tail : CanTail (raw_part m.unfinished) t 0
  pub few : t.base + t.rows < 4294967296
  pub last : HasLast s m.strokes.times m.fractals.prices

-- of a bar, what the search for fractals reads
unfoldable pub bar_candle : Bar → Candle
bar_candle b = record { time = b.time; high = b.high; low = b.low }

-- the plan where the unfinished bars are v after merging, and the last stroke is read from these columns
abbrev pub planned : Stand → List Candle → List ℤ → List (List Float) → Plan
planned s v ts ps = plan_of s.minimum (last_in s.strokes s ts ps) v

-- it, and questions 11 and 12 of it
pub record TriedWith (s : Stand) (v : List Candle) (ts : List ℤ) (ps : List (List Float)) (r : Result Plan Question) : Type 0 where
  pub failed : asked r ≡ refused_of (planned s v ts ps) (length v) s.rooms.unfinished (total (bar_counts s)) s.rooms.strokes
  pub plan : IfOk r (λ p. p ≡ planned s v ts ps)

-- what trying a bar asks of the stand and of the stores that are read
pub record CanTry (later : Bool) (s : Stand) (m : Stores) : Type 0 where
  pub raw : NamedRaw m.raw (length m.raw.times) s.raw
  pub unfinished : SizedMerged m.unfinished (length m.unfinished.times)
  pub fits : s.unfinished ≤ length m.unfinished.times
  pub small : length m.unfinished.times ≤ 65536
  pub again : later ≡ false → LastOf m.unfinished s.unfinished
  pub last : HasLast s m.strokes.times m.fractals.prices

-- the unfinished bars once b has come
unfoldable pub tried_bars : Bool → Stand → RawStore → MergedStore → Bar → List Merged
unfolding merged_by raw_bars merged_bars
tried_bars later s r u b = merged_by later (take s.raw (raw_bars r)) (take s.unfinished (merged_bars u)) b

-- the plan, and questions 11 and 12 of it
abbrev pub TriedOf : Bool → Stand → Stores → Bar → Result Plan Question → Type 0
TriedOf later s m b r = TriedWith s (map candle_of (tried_bars later s m.raw m.unfinished b)) m.strokes.times m.fractals.prices r
