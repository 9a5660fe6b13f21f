use Rattle.sound.specs.Code.SoundStand.{alternating, top_row}
use lib.ListN.{drop}
use mathlib.Core.Bool.{◌&&◌}
use mathlib.Core.List.{◌∷◌, map}
use mathlib.Core.Path.{◌≡◌}
use Rattle.sound.proofs.soundness.marks_alternate.Given as goal

abbrev pub invariant-loop-p : goal.invariant-loop-p
invariant-loop-p l = (l.ok && alternating (l.top ∷ map top_row (drop l.p-index l.rest))) ≡ alternating (map top_row l.fn.fp)
