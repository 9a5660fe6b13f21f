use Rattle.bars.specs.Lists.{every}
use lib.ListN.{drop}
use mathlib.Core.Bool.{Bool, ◌&&◌}
use mathlib.Core.Path.{◌≡◌}
use Rattle.sound.proofs.soundness.all_pass.Given as goal

abbrev pub invariant-loop-row : goal.invariant-loop-row
invariant-loop-row g l =
    (p : g.row.T.Denot → Bool) → ((x : g.row.T.Denot) (r : Bool) → goal.F-post g l.passes x r → r ≡ p x) → (l.ok && every p (drop l.row-index l.rows)) ≡ every p l.rows
