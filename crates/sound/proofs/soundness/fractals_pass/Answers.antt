use mathlib.Core.Bool.{◌&&◌}
use Rattle.sound.specs.Code.SoundStand.{fractal_columns}
use Rattle.sound.proofs.soundness.fractals_pass.Goals as goal

pub returns : goal.returns
unfolding fractal_columns
returns c = λ i. (c.middles_rise.ensures i && c.stamps_pass.ensures i) && (c.bars_pass.ensures i && (c.marks_alternate.ensures i && c.ends_held.ensures i))
