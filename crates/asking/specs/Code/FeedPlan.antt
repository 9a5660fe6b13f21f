-- What a feed would do to the strokes and to the unfinished bars, by places of the unfinished bars after merging, and questions 11 and 12, asked of that.
-- That it is what Feed's make and move do is a theorem of proofs/. Definitions only.
use Rattle.std.specs.Prelude.{ℕ, ◌+◌, ◌-◌, ◌≤◌, ◌<◌, Bool, true, false, ◌&&◌, List, [], map, length, drop, get_or, ℤ, pos, leb, ltb, Option, Some, None, IfSome}
use Rattle.std.specs.Float.Ieee.{lt}
use Rattle.arith.specs.Order.{max_of, min_of}
use Rattle.stores.specs.Code.StoreRows.{place_of}
use Rattle.machine.specs.declared.Mark.{Mark}
use Rattle.machine.specs.declared.Mark.TheVariants.{D, G}
use Rattle.check_bi.specs.declared.check_fx.Candle.{Candle}
use Rattle.check_bi.specs.declared.scan.FoundBi.{FoundBi}
use Rattle.asking.specs.declared.plan.Last.{Last}
use Rattle.asking.specs.declared.plan.Plan.{Plan}
use Rattle.check_bi.specs.Code.Scan.{scan_of, cut_place, found_from}
use Rattle.check_bi.specs.Code.View.{candle_from}
use Rattle.machine.specs.FeedQuestions.{or_else}

-- ---- the stroke that is found

-- the place that the first stroke's cut begins at
unfoldable pub cut_of : List Candle → ℕ
unfolding scan_of cut_place
cut_of v = cut_place (scan_of v)

-- the place of its end, and 0 where none is found
unfoldable pub end_in : Option FoundBi → ℕ
end_in None = 0
end_in (Some f) = f.end.place

-- the place of its start, and 0 where none is found
unfoldable pub start_in : Option FoundBi → ℕ
start_in None = 0
start_in (Some f) = f.start.place

-- how many merged bars it has, and 0 where none is found
unfoldable pub bars_made : Option FoundBi → ℕ
bars_made None = 0
bars_made (Some f) = f.bars

-- ---- the break

-- strictly above the stroke's high where it goes up, strictly below its low where it goes down
unfoldable pub breaks_if : Mark → Last → Candle → Bool
unfolding lt
breaks_if D b k = lt b.high k.high
breaks_if G b k = lt k.low b.low

unfoldable pub breaks_of : Last → Candle → Bool
unfolding breaks_if
breaks_of b k = breaks_if b.mark b k

-- the last stroke once what was found is put on: its end's middle bar is its last but one
unfoldable pub last_with : Option FoundBi → Last → Last
unfolding max_of min_of
last_with None b = b
last_with (Some f) b =
    record {
      mark = f.start.mark;
      high = max_of f.start.high f.end.high;
      low = min_of f.start.low f.end.low;
      bars = f.bars;
      time = f.end.time;
    }

-- ---- the plan

-- no stroke breaks: the bars from the found stroke's end on are left, or from the cut on
unfoldable pub kept_of : ℕ → Option FoundBi → ℕ → Plan
unfolding end_in
kept_of cut o total = record { cut = cut; found = o; broken = None; left = total - (cut + end_in o) }

-- by whether the stroke b breaks; the bars from place j on come back
unfoldable pub broken_if : Bool → Option FoundBi → Last → ℕ → ℕ → Plan
unfolding kept_of
broken_if true o b j total = record { cut = 0; found = o; broken = Some j; left = b.bars - 2 + (total - j) }
broken_if false o b j total = kept_of 0 o total

-- of the bars from the found stroke's end on, those from the time of b's last but one bar on
unfoldable pub join_of : Option FoundBi → Last → List ℤ → ℕ
unfolding place_of end_in
join_of o b ts = end_in o + place_of b.time (drop (end_in o) ts)

unfoldable pub broken_of : Option FoundBi → Last → Candle → List ℤ → ℕ → Plan
unfolding broken_if breaks_of join_of
broken_of o b k ts total = broken_if (breaks_of b k) o b (join_of o b ts) total

unfoldable pub times_of : List Candle → List ℤ
times_of v = map (λ k. k.time) v

unfoldable pub last_candle : List Candle → ℕ → Candle
unfolding candle_from
last_candle v total = get_or v (total - 1) (candle_from (pos 0) [])

-- no stroke is kept
unfoldable pub plan_first : ℕ → List Candle → ℕ → Plan
unfolding kept_of cut_of found_from
plan_first minimum v total = kept_of (cut_of v) (found_from minimum (cut_of v) v) total

-- b is the last of the strokes that are kept
unfoldable pub plan_later : ℕ → Last → List Candle → ℕ → Plan
unfolding found_from last_with broken_of times_of last_candle
plan_later minimum b v total =
    broken_of (found_from minimum 0 v) (last_with (found_from minimum 0 v) b) (last_candle v total) (times_of v) total

-- by whether there are fewer than 3 unfinished bars
unfoldable pub plan_if : Bool → ℕ → Option Last → List Candle → ℕ → Plan
unfolding kept_of plan_first plan_later
plan_if true minimum o v total = kept_of 0 None total
plan_if false minimum None v total = plan_first minimum v total
plan_if false minimum (Some b) v total = plan_later minimum b v total

-- v are the unfinished bars after merging, and o is the last of the strokes that are kept, if one is
unfoldable pub plan_of : ℕ → Option Last → List Candle → Plan
unfolding plan_if
plan_of minimum o v = plan_if (ltb (length v) 3) minimum o v (length v)

-- a stroke has two bars or more, and fewer than 2^32
pub record Long (b : Last) : Type 0 where
  pub two : 2 ≤ b.bars
  pub few : b.bars < 4294967296

-- the places of a plan lie in the view
pub record InView (p : Plan) (total : ℕ) : Type 0 where
  pub rest_in : p.cut + end_in p.found ≤ total
  pub join_in : IfSome p.broken (λ j. j ≤ total)
  pub bars_in : bars_made p.found ≤ total

-- ---- questions 11 and 12

unfoldable pub refused_of : Plan → ℕ → ℕ → ℕ → ℕ → ℕ
unfolding or_else bars_made
refused_of p total room used places =
    or_else (leb total room && leb p.left room) 11 (or_else (leb (used + bars_made p.found) places) 12 0)
