use mathlib.Core.Path.{◌∙◌, sym}
use Rattle.sound.specs.Code.SoundStand.{raw_columns}
use Rattle.sound.proofs.soundness.raw_columns_pass.Goals as goal

pub returns-then-times_pass : goal.returns-then-times_pass
unfolding raw_columns
returns-then-times_pass c = rw (sym c.times_pass.ensures ∙ c.if-times_pass.true) c.raw_rows_pass.ensures

pub returns-else-times_pass : goal.returns-else-times_pass
unfolding raw_columns
returns-else-times_pass c = c.if-times_pass.false ∙ rw (sym c.times_pass.ensures ∙ c.if-times_pass.false)
