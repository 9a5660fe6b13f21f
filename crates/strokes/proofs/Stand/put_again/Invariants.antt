use mathlib.Core.List.{[], ◌∷◌, ◌++◌}
use lib.ListN.{drop}
use Rattle.bars.specs.Merging.{merge_all, at_times}
use Rattle.stores.specs.Columns.{raw_in, merged_of, SameMerged}
use Rattle.strokes.specs.Code.BarSteps.{kept_raw, kept_unfinished}
use Rattle.strokes.specs.Code.ElementCounts.{StaySized}
use Rattle.strokes.proofs.StoredAgain.{Going}
use Rattle.strokes.proofs.Stand.put_again.Given as goal

abbrev pub invariant-loop-time : goal.invariant-loop-time
invariant-loop-time l =
    Going l.initial.stand l.stand (merged_of l.unfinished) (kept_raw l.initial.stand (raw_in l.raw)) (drop l.time-index l.others) l.b (merge_all (kept_unfinished l.initial.stand (merged_of l.initial.unfinished)) (at_times (kept_raw l.initial.stand (raw_in l.raw)) l.others ++ l.b ∷ []))
    × StaySized l.initial.stand.unfinished (merged_of l.initial.unfinished) l.stand.unfinished (merged_of l.unfinished)
    × SameMerged l.initial.unfinished l.unfinished
