-- A run of strokes under construction: what is_bis_up and is_bis_down read of it, kept up stroke by stroke. That the answers are those over the whole
-- list is `up-grown` and `down-grown` of proofs/RunFolds. Definitions only.
use Rattle.std.specs.Prelude.{Bool, true, false, ◌&&◌}
use mathlib.Core.List.{List, foldl}
use Rattle.std.specs.Int.Signed.{lt_z}
use Rattle.std.specs.Float.{inf}
use Rattle.std.specs.Float.Ieee.{eq}
use Rattle.arith.specs.Order.{max_of, min_of}
use Rattle.zones.specs.declared.Summary.{Summary}
use Rattle.machine.specs.declared.Direction.{Direction}
use Rattle.machine.specs.declared.Direction.TheVariants.{Up, Down}
use Rattle.zones.specs.declared.runs_of_strokes.StrokeCount.{StrokeCount}
use Rattle.zones.specs.declared.runs_of_strokes.StrokeCount.TheVariants.{One, Even, OddFromThree}
use Rattle.zones.specs.declared.runs_of_strokes.GrowingRun.{GrowingRun}
use Rattle.zones.specs.BisUpDown.{goes_up, goes_down}

-- one stroke
unfoldable pub begun : Summary → GrowingRun
unfolding max_of min_of
begun s =
    record {
      first = s;
      last = s;
      count = One;
      in_order = true;
      gg = max_of (inf true) s.high;
      dd = min_of (inf false) s.low;
    }

-- the end times still rise strictly with s
unfoldable pub in_order_with : GrowingRun → Summary → Bool
in_order_with r s = r.in_order && lt_z r.last.ended s.ended

-- one more: an even number of strokes is two at least, and so an odd one after it is three at least
unfoldable pub longer : StrokeCount → StrokeCount
longer One = Even
longer Even = OddFromThree
longer OddFromThree = Even

unfoldable pub is_odd_from_three : StrokeCount → Bool
is_odd_from_three One = false
is_odd_from_three Even = false
is_odd_from_three OddFromThree = true

-- one stroke more
unfoldable pub more_of : GrowingRun → Summary → GrowingRun
unfolding in_order_with longer max_of min_of
more_of r s =
    record {
      first = r.first;
      last = s;
      count = longer r.count;
      in_order = in_order_with r s;
      gg = max_of r.gg s.high;
      dd = min_of r.dd s.low;
    }

-- the run of the stroke a and of those of the list after it
unfoldable pub run_of : Summary → List Summary → GrowingRun
unfolding begun more_of
run_of a l = foldl more_of (begun a) l

-- an odd number of strokes, at least 3, whose end times rise strictly
unfoldable pub is_run_of : GrowingRun → Bool
unfolding is_odd_from_three
is_run_of r = is_odd_from_three r.count && r.in_order

-- is_bis_up
unfoldable pub up_of : GrowingRun → Bool
unfolding is_run_of goes_up eq
up_of r = is_run_of r && (goes_up r.last.direction && (eq r.last.high r.gg && eq r.first.low r.dd))

-- is_bis_down
unfoldable pub down_of : GrowingRun → Bool
unfolding is_run_of goes_down eq
down_of r = is_run_of r && (goes_down r.last.direction && (eq r.first.high r.gg && eq r.last.low r.dd))

-- the top of the run has the greatest high of all, and its bottom the least low
unfoldable pub spans_of : GrowingRun → Summary → Summary → Bool
unfolding eq
spans_of r top bottom = eq top.high r.gg && eq bottom.low r.dd

unfoldable pub spans_way : Direction → GrowingRun → Bool
unfolding spans_of
spans_way Up r = spans_of r r.last r.first
spans_way Down r = spans_of r r.first r.last

-- is_bis_up or is_bis_down, by the way that is asked
unfoldable pub goes_of : Direction → GrowingRun → Bool
unfolding up_of down_of
goes_of Up r = up_of r
goes_of Down r = down_of r
