use mathlib.Core.Bool.{true}
use mathlib.Core.Path.{◌≡◌}
use mathlib.Core.List.{foldl}
use lib.ListN.{drop}
use Rattle.reports.specs.Code.ElementPrices.{taken}
use Rattle.reports.proofs.measures.with_named.Given as goal

abbrev pub invariant-loop-time : goal.invariant-loop-time
invariant-loop-time g l = foldl (taken g.S.PriceSums.taking l.raw) (l.sums, true) (drop l.time-index l.times) ≡ foldl (taken g.S.PriceSums.taking l.raw) (l.initial.sums, true) l.times
