use mathlib.Core.Bool.{true}
use mathlib.Core.Path.{◌≡◌}
use mathlib.Core.List.{foldl}
use lib.ListN.{take, drop}
use Rattle.bars.specs.Lists.{join}
use Rattle.stores.specs.Stores.{zip_with}
use Rattle.reports.specs.Code.ElementPrices.{taken}
use Rattle.reports.proofs.inner_bars.InnerBars.add_to.Given as goal

abbrev pub invariant-loop-i : goal.invariant-loop-i
invariant-loop-i g l =
    foldl (taken g.S.PriceSums.taking l.self.raw) (l.sums, true) (join (drop l.i (zip_with take l.self.counts.now l.self.elements.now)))
    ≡ foldl (taken g.S.PriceSums.taking l.self.raw) (l.initial.sums, true) (join (zip_with take l.self.counts.now l.self.elements.now))
