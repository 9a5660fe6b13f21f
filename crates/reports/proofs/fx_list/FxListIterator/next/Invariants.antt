use mathlib.Core.Path.{◌≡◌}
use lib.ListN.{length}
use Rattle.reports.specs.Code.FxListing.{CanList, all_left, listed_left}
use Rattle.reports.proofs.fx_list.FxListIterator.next.Given as goal

abbrev pub invariant-loop-rows : goal.invariant-loop-rows
invariant-loop-rows l = CanList l.self × (listed_left l.self ≡ listed_left l.fn.self)

abbrev pub decreases-loop-rows : goal.decreases-loop-rows
decreases-loop-rows l = length (all_left l.self)
