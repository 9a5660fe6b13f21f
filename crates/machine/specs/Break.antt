-- Document 01's break: when the last stroke breaks, and the unfinished bars that are left where it does. Definitions only.
use Rattle.std.specs.Prelude.{Bool, false, List, ◌++◌, Float}
use Rattle.std.proofs.Math.Option.{Option, none, some}
use Rattle.std.specs.Float.Ieee.{lt}
use Rattle.arith.specs.Order.{max_of, min_of}
use Rattle.bars.specs.Bars.{Merged}
use Rattle.bars.specs.Lists.{last, init}
use Rattle.machine.specs.declared.Direction.{Direction}
use Rattle.machine.specs.declared.Direction.TheVariants.{Up, Down}
use Rattle.machine.specs.Strokes.{Stroke, direction_of}
use Rattle.machine.specs.ByTime.{from}

-- a stroke's high and low, each taken over both end fractals: get_high, get_low
unfoldable pub high_of : Stroke → Float
unfolding max_of
high_of b = max_of b.start.mid.bar.high b.end.mid.bar.high

unfoldable pub low_of : Stroke → Float
unfolding min_of
low_of b = min_of b.start.mid.bar.low b.end.mid.bar.low

-- strictly above the stroke's high (up) or below its low (down)
unfoldable pub past_in : Direction → Stroke → Merged → Bool
unfolding lt high_of low_of
past_in Up b k = lt (high_of b) k.bar.high
past_in Down b k = lt k.bar.low (low_of b)

unfoldable pub broken_by : Stroke → Merged → Bool
unfolding past_in direction_of
broken_by b k = past_in (direction_of b.start.mark) b k

-- the stroke breaks if the last unfinished bar is beyond it
unfoldable pub breaks : Stroke → Option Merged → Bool
unfolding broken_by
breaks b none = false
breaks b (some k) = broken_by b k

-- the unfinished bars from the time of the bar k on
unfoldable pub from_bar : Option Merged → List Merged → List Merged
unfolding from
from_bar none l = l
from_bar (some k) l = from k.bar.time l

-- a broken stroke's bars without the last two come back, then the unfinished bars from the time of its last but one
unfoldable pub joined : Stroke → List Merged → List Merged
unfolding init last from_bar
joined b l = init (init b.bars) ++ from_bar (last (init b.bars)) l
