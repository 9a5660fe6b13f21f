use Rattle.std.proofs.Common.{rules, tests}
use mathlib.Core.Path.{◌∙◌}
use Rattle.std.proofs.lemmas.Iterator.{YieldsList-from_slice}
use Rattle.std.proofs.lemmas.Iterator.Search.{all_from_yields_List}
use Rattle.sound.specs.Code.SoundStand.{stamps_pass}
use Rattle.sound.proofs.SoundScans.{all_every}
use Rattle.sound.proofs.soundness.stamps_pass.Goals as goal

pub returns : goal.returns
returns c = all_from_yields_List stamps_pass _ _ _ c.all.ensures.ran (YieldsList-from_slice c.args.fs.now cc) (λ x b q k. search (rules, tests)) ∙ all_every stamps_pass c.args.fs.now
