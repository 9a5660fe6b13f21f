use Prim.Native.Nat.{◌-◌}
use mathlib.Core.Path.{◌≡◌}
use lib.ListN.{length}
use Rattle.reports.specs.Code.FxListing.{CanReadOn, strokes_left}
use Rattle.reports.proofs.fx_list.StrokeFractalsIterator.next.Given as goal

abbrev pub invariant-loop-self : goal.invariant-loop-self
invariant-loop-self l = CanReadOn l.self × (strokes_left l.self ≡ strokes_left l.fn.self)

abbrev pub decreases-loop-self : goal.decreases-loop-self
decreases-loop-self l = length l.self.bars.now - l.self.stroke
