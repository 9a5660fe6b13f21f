use Rattle.std.proofs.Common.{rules, tests}
use mathlib.Core.Bool.{true, false}
use mathlib.Core.Path.{◌∙◌}
use Rattle.sound.specs.Code.SoundStand.{raw_row_by, raw_row}
use Rattle.sound.proofs.SoundScans.{above_all, any-all}
use Rattle.sound.proofs.SoundRows.{raw_above, raw-any}
use Rattle.sound.proofs.soundness.raw_rows_pass.Goals as goal

pub returns-then-all_pass : goal.returns-then-all_pass
returns-then-all_pass c =
    c.if-all_pass.true ∙ above_all raw_row_by raw_row raw_above raw-any c.args.ps.now _ (c.all_pass.ensures (raw_row_by false) (λ x r q. search (rules, tests))) c.if-all_pass.true

pub returns-else-all_pass : goal.returns-else-all_pass
returns-else-all_pass c = any-all raw_row_by raw_row raw_above raw-any c.args.ps.now _ (c.all_pass-else-all_pass.ensures (raw_row_by true) (λ x r q. search (rules, tests)))
