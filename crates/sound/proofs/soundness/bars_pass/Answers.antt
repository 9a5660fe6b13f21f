use Rattle.std.proofs.Common.{rules, tests}
use mathlib.Core.Bool.{true, false}
use mathlib.Core.Path.{◌∙◌}
use Rattle.sound.specs.Code.SoundStand.{bars_by, bars_pass}
use Rattle.sound.proofs.SoundScans.{above_all, any-all}
use Rattle.sound.proofs.SoundRows.{bars_above, bars-any}
use Rattle.sound.proofs.soundness.bars_pass.Goals as goal

pub returns-then-all_pass : goal.returns-then-all_pass
returns-then-all_pass c =
    c.if-all_pass.true ∙ above_all bars_by bars_pass bars_above bars-any c.args.fp.now _ (c.all_pass.ensures (bars_by false) (λ x r q. search (rules, tests))) c.if-all_pass.true

pub returns-else-all_pass : goal.returns-else-all_pass
returns-else-all_pass c = any-all bars_by bars_pass bars_above bars-any c.args.fp.now _ (c.all_pass-else-all_pass.ensures (bars_by true) (λ x r q. search (rules, tests)))
