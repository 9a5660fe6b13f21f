use lib.Ieee.{nan}
use lib.ListN.{get_or}
use mathlib.Core.Bool.{not, ◌&&◌}
use mathlib.Core.Path.{ap, ◌∙◌}
use Rattle.sound.specs.Code.SoundStand.{is_real}
use Rattle.sound.proofs.SoundScans.{no_nan}
use Rattle.sound.proofs.soundness.is_real.Goals as goal

pub returns : goal.returns
unfolding is_real
returns c =
    let a = ap not c.is_nan.ensures.value ∙ no_nan (get_or c.args.p 8 nan) in
    let b = ap not c.is_nan-2.ensures.value ∙ no_nan (get_or c.args.p 9 nan) in
    λ i. a i && b i
