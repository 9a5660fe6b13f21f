use lib.Dec.{eqb}
use lib.ListN.{length}
use mathlib.Core.Bool.{Bool, ◌&&◌}
use mathlib.Core.Path.{ap, ◌∙◌}
use Rattle.strokes.specs.StateRead.{raw_sized, merged_sized}
use Rattle.sound.proofs.soundness.merged_sized.Goals as goal

pub returns : goal.returns
unfolding merged_sized raw_sized
returns c =
    let k = c.args.merged in
    ap (λ (t : Bool). t && (eqb (length k.counts.now) c.args.n && eqb (length k.elements.now) c.args.n)) (c.raw_sized.ensures ∙ ap (raw_sized c.args.n) c.bars.ensures)
