use mathlib.Core.Bool.{◌&&◌}
use Rattle.strokes.specs.Lent.{stores_of}
use Rattle.sound.specs.FreshStand.{columns_agree}
use Rattle.sound.proofs.soundness.columns_agree.Goals as goal

pub returns : goal.returns
unfolding columns_agree stores_of
returns c = λ i. (c.raw_sized.ensures i && c.merged_sized.ensures i) && (c.merged_sized-2.ensures i && c.fractal_sized.ensures i)
