use Rattle.std.proofs.Common.{◌≡◌, ◌+◌, drop}
use Rattle.stores.specs.Code.StoreRows.{place_of}
use Rattle.check_bi.specs.Code.View.{times_in}
use Rattle.asking.proofs.plan.skip.Given as goal

abbrev pub invariant-loop-i : goal.invariant-loop-i
invariant-loop-i l = l.i + place_of l.t (drop l.i (times_in l.view)) ≡ l.lo + place_of l.t (drop l.lo (times_in l.view))
