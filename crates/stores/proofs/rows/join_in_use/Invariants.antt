use mathlib.Core.Path.{◌≡◌}
use lib.ListN.{length}
use Rattle.stores.specs.Code.StoreRows.{RowsCopied}
use Rattle.stores.proofs.rows.join_in_use.Given as goal

abbrev pub invariant-loop-i : goal.invariant-loop-i
invariant-loop-i l = RowsCopied l.initial.counts l.initial.elements l.at l.cs l.es l.from l.i l.counts l.elements × (length l.counts ≡ length l.initial.counts) × (length l.elements ≡ length l.initial.elements)
