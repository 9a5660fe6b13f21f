use mathlib.Core.Path.{◌≡◌}
use lib.ListN.{drop}
use lib.Dec.{leb}
use Rattle.strokes.specs.StateRead.{total}
use Rattle.sound.proofs.soundness.total_fits.Given as goal

abbrev pub invariant-loop-n : goal.invariant-loop-n
invariant-loop-n l = leb (total (drop l.n-index l.bars)) l.left ≡ leb (total l.bars) l.room
