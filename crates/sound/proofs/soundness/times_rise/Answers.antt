use Rattle.std.proofs.Common.{rules, tests}
use lib.Signed.{lt_z}
use mathlib.Core.Path.{◌∙◌}
use Rattle.std.proofs.lemmas.List.Sorted.{answers_always}
use Rattle.sound.proofs.SoundScans.{rises-is, rising-neighbours}
use Rattle.sound.proofs.soundness.times_rise.Goals as goal

pub returns : goal.returns
returns c =
    let e = c.is_sorted_by.ensures.cases lt_z (answers_always _ _ _ (λ f a r f' k. search (rules, tests))) in
    rising-neighbours c.args.ts.now _ e ∙ rises-is c.args.ts.now
