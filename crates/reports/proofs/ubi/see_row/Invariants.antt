use mathlib.Core.Path.{◌≡◌}
use mathlib.Core.List.{foldl}
use lib.ListN.{take, drop}
use Rattle.stores.specs.Columns.{raw_in}
use Rattle.stores.specs.Stores.{raw_bars}
use Rattle.reports.specs.Code.UbiSteps.{see_at}
use Rattle.reports.proofs.ubi.see_row.Given as goal

abbrev pub invariant-loop-j : goal.invariant-loop-j
invariant-loop-j l = (foldl (see_at (take l.n (raw_bars (raw_in l.raw)))) l.s (drop l.j (take l.count l.row)) ≡ foldl (see_at (take l.n (raw_bars (raw_in l.raw)))) l.initial.s (take l.count l.row))
