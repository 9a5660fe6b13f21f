use lib.Ieee.{neg}
use Rattle.sound.specs.Code.SoundStand.{size_of}
use Rattle.sound.proofs.soundness.size.Goals as goal

pub returns : goal.returns
unfolding size_of neg
returns c = c.larger.ensures
