use Rattle.strokes.proofs.StoredFractals.{plains, Going}
use Rattle.stores.specs.Columns.{raw_in}
use Rattle.strokes.specs.Columns.{fractals_of, SameFractals}
use Rattle.strokes.specs.Code.StrokeSteps.{last_of, writing, fractals_between}
use Rattle.machine.specs.Fractals.{fxs_after}
use lib.ListN.{drop}
use Prim.Native.Nat.{◌-◌, ◌≤◌}
use Rattle.strokes.proofs.lent_columns.FractalColumnsMut.check_fxs.Given as goal

abbrev pub invariant-loop-i : goal.invariant-loop-i
invariant-loop-i l =
    (l.w.count ≤ l.i - l.first)
    × Going (fractals_of l.initial.self) l.at (writing (fractals_of l.self) l.w) (fxs_after (last_of l.w) (drop l.i (plains (raw_in l.bars) l.end))) (fractals_between (raw_in l.bars) l.first l.end)
    × SameFractals l.initial.self l.self
