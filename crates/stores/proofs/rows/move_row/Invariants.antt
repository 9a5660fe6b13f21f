use mathlib.Core.Path.{◌≡◌}
use mathlib.Core.List.{[]}
use lib.ListN.{length, get_or, set}
use Rattle.bars.specs.Lists.{copied}
use Rattle.stores.proofs.rows.move_row.Given as goal

abbrev pub invariant-loop-k : goal.invariant-loop-k
invariant-loop-k l = (l.es ≡ set l.initial.es l.at (copied (get_or l.initial.es l.at []) 0 (get_or l.initial.es l.from []) 0 l.k)) × (length l.es ≡ length l.initial.es)
