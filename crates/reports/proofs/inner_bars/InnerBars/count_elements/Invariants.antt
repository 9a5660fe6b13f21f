use Prim.Native.Nat.{◌+◌, ◌≤◌, ◌*◌}
use mathlib.Core.Path.{◌≡◌}
use lib.ListN.{length, take, drop}
use Rattle.bars.specs.Lists.{join}
use Rattle.stores.specs.Stores.{zip_with}
use Rattle.reports.proofs.inner_bars.InnerBars.count_elements.Given as goal

abbrev pub invariant-loop-i : goal.invariant-loop-i
invariant-loop-i l =
    (l.sum ≤ 101 * l.i)
    × (l.sum + length (join (drop l.i (zip_with take l.self.counts.now l.self.elements.now))) ≡ length (join (zip_with take l.self.counts.now l.self.elements.now)))
