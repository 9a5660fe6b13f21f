use Prim.Native.Nat.{◌+◌, ◌≤◌}
use mathlib.Core.Path.{◌≡◌}
use mathlib.Core.List.{◌++◌}
use lib.ListN.{length, take, drop}
use Rattle.zones.specs.Code.ZoneSteps.{no_zone, states_of}
use Rattle.zones.proofs.lent_zone.zones_of_run.Given as goal

-- the states stored so far, and those still to come, are the whole's
abbrev pub invariant-loop-i : goal.invariant-loop-i
invariant-loop-i l =
    (length l.zones ≡ 64) × (1 ≤ l.b.size) × (l.b.size + l.b.done ≤ l.i + 1) × (take (l.i + 1) l.zones ++ states_of l.b (drop l.i l.rest) ≡ states_of no_zone l.run)
