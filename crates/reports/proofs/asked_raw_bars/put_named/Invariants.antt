use Prim.Native.Nat.{◌+◌, ◌≤◌}
use mathlib.Core.Path.{◌≡◌}
use mathlib.Core.List.{foldl}
use lib.ListN.{length, drop}
use Rattle.stores.specs.Columns.{raw_of, SameRaw}
use Rattle.reports.specs.Code.ElementPrices.{named_bar}
use Rattle.reports.specs.Code.InnerRawSteps.{filling, put_one}
use Rattle.reports.proofs.asked_raw_bars.put_named.Given as goal

abbrev pub invariant-loop-j : goal.invariant-loop-j
invariant-loop-j l =
    SameRaw l.initial.out l.out
    × (l.j ≤ length l.times)
    × (foldl (put_one (named_bar l.raw)) (filling (raw_of l.out) (l.at + l.j)) (drop l.j l.times) ≡ foldl (put_one (named_bar l.raw)) (filling (raw_of l.initial.out) l.at) l.times)
