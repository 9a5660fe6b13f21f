use mathlib.Core.Bool.{◌&&◌}
use mathlib.Core.Path.{◌∙◌}
use Rattle.sound.specs.Code.SoundStand.{bars_by}
use Rattle.sound.proofs.SoundRows.{row_from}
use Rattle.sound.proofs.soundness.three_bars.Goals as goal

pub returns : goal.returns
unfolding bars_by
returns g c = λ i. (c.bar_passes.ensures ∙ row_from _ c.args.p 0) i && ((c.bar_passes-2.ensures ∙ row_from _ c.args.p 6) i && (c.bar_passes-3.ensures ∙ row_from _ c.args.p 12) i)
