use Rattle.std.proofs.Common.{rules, tests}
use Rattle.sound.specs.Code.SoundStand.{small_count}
use Rattle.sound.proofs.soundness.counts_pass.Goals as goal

pub returns : goal.returns
unfolding small_count
returns c = c.all_pass.ensures small_count (λ x r q. search (rules, tests))
