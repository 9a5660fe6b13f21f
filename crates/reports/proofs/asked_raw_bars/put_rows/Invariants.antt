use Prim.Native.Nat.{◌+◌}
use mathlib.Core.Path.{◌≡◌}
use mathlib.Core.List.{foldl}
use lib.ListN.{length, take, drop}
use Rattle.bars.specs.Lists.{join}
use Rattle.stores.specs.Stores.{zip_with}
use Rattle.stores.specs.Columns.{raw_of, SameRaw}
use Rattle.reports.specs.Code.ElementPrices.{named_bar}
use Rattle.reports.specs.Code.InnerRawSteps.{filling, put_one}
use Rattle.reports.proofs.asked_raw_bars.put_rows.Given as goal

abbrev pub invariant-loop-i : goal.invariant-loop-i
invariant-loop-i l =
    SameRaw l.initial.out l.out
    × (l.k + length (join (drop l.i (zip_with take l.inner.counts.now l.inner.elements.now))) ≡ length (join (zip_with take l.inner.counts.now l.inner.elements.now)))
    × (foldl (put_one (named_bar l.inner.raw)) (filling (raw_of l.out) l.k) (join (drop l.i (zip_with take l.inner.counts.now l.inner.elements.now)))
    ≡ foldl (put_one (named_bar l.inner.raw)) (filling (raw_of l.initial.out) 0) (join (zip_with take l.inner.counts.now l.inner.elements.now)))
