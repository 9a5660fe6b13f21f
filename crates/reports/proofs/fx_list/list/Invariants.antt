use Prim.Native.Nat.{◌+◌}
use mathlib.Core.Path.{◌≡◌}
use lib.ListN.{length}
use Rattle.strokes.specs.Columns.{fractals_of, SameFractals}
use Rattle.reports.specs.Code.FxListing.{rows_left}
use Rattle.reports.proofs.FxWritten.{put_rows}
use Rattle.reports.proofs.fx_list.list.Given as goal

abbrev pub invariant-loop-at : goal.invariant-loop-at
invariant-loop-at l =
    let rest = rows_left l.at-iterator.iter in
    let at = l.at-iterator.count in
    SameFractals l.initial.out l.out
    × (put_rows (fractals_of l.out) at rest ≡ put_rows (fractals_of l.initial.out) 0 (rows_left l.fn.fxs))
    × (at + length rest ≡ length (rows_left l.fn.fxs))
