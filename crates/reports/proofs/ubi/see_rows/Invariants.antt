use mathlib.Core.Path.{◌≡◌}
use mathlib.Core.List.{foldl}
use lib.ListN.{take, drop}
use Rattle.bars.specs.Lists.{join}
use Rattle.stores.specs.Columns.{raw_in}
use Rattle.stores.specs.Stores.{raw_bars, zip_with}
use Rattle.reports.specs.Code.UbiSteps.{see_at}
use Rattle.reports.proofs.ubi.see_rows.Given as goal

abbrev pub invariant-loop-i : goal.invariant-loop-i
invariant-loop-i l = (foldl (see_at (take l.n (raw_bars (raw_in l.raw)))) l.s (join (drop l.i (zip_with take l.cs l.es))) ≡ foldl (see_at (take l.n (raw_bars (raw_in l.raw)))) l.initial.s (join (zip_with take l.cs l.es)))
