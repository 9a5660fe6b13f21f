use mathlib.Core.Path.{◌≡◌}
use lib.ListN.{length}
use Rattle.stores.proofs.InUse.{Moved}
use Rattle.stores.proofs.rows.move_in_use.Given as goal

abbrev pub invariant-loop-k : goal.invariant-loop-k
invariant-loop-k l = Moved l.initial.cs l.initial.es l.at l.from l.n l.k l.cs l.es × (length l.cs ≡ length l.initial.cs) × (length l.es ≡ length l.initial.es)
