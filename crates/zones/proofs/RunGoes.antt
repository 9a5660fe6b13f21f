-- Whether a run goes the way that is asked, from the tests on it: equal kinds of count, and equal directions.
-- Assumes nothing.
use denote.Enum.Bare.{sameb}
use mathlib.Core.Path.{◌≡◌, refl, ap}
use mathlib.Core.Bool.{Bool, ◌&&◌}
use Rattle.machine.specs.declared.Direction.{Direction}
use Rattle.machine.specs.declared.Direction.TheVariants.{Up, Down}
use Rattle.machine.specs.contracts.Direction as D
use Rattle.zones.specs.declared.runs_of_strokes.StrokeCount.{StrokeCount}
use Rattle.zones.specs.declared.runs_of_strokes.StrokeCount.TheVariants.{One, Even, OddFromThree}
use Rattle.zones.specs.contracts.runs_of_strokes.StrokeCount as C
use Rattle.zones.specs.declared.runs_of_strokes.GrowingRun.{GrowingRun}
use Rattle.zones.specs.BisUpDown.{goes_up, goes_down}
use Rattle.zones.specs.Code.GrowingRun.{is_odd_from_three, is_run_of, up_of, down_of, spans_of, spans_way, goes_of}

pub same_count : (c : StrokeCount) → sameb C.the_type c OddFromThree ≡ is_odd_from_three c
unfolding is_odd_from_three
same_count One = refl
same_count Even = refl
same_count OddFromThree = refl

up_is : (d : Direction) → goes_up d ≡ sameb D.the_type d Up
unfolding goes_up
up_is Up = refl
up_is Down = refl

down_is : (d : Direction) → goes_down d ≡ sameb D.the_type d Down
unfolding goes_down
down_is Up = refl
down_is Down = refl

-- the answer, by the tests in turn
pub goes_is : (w : Direction) (r : GrowingRun) → goes_of w r ≡ is_run_of r && (sameb D.the_type r.last.direction w && spans_way w r)
unfolding goes_of up_of down_of spans_way spans_of
goes_is Up r = ap (λ (b : Bool). is_run_of r && (b && spans_way Up r)) (up_is r.last.direction)
goes_is Down r = ap (λ (b : Bool). is_run_of r && (b && spans_way Down r)) (down_is r.last.direction)
