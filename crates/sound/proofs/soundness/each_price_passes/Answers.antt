use lib.Ieee.{le}
use mathlib.Core.Bool.{◌&&◌}
use Rattle.sound.specs.Code.SoundStand.{of_any_sign}
use Rattle.sound.proofs.soundness.each_price_passes.Goals as goal

pub returns : goal.returns
unfolding of_any_sign
returns c = λ i. (c.is_price.ensures i && c.is_price-2.ensures i) && ((c.is_price-3.ensures i && c.is_price-4.ensures i) && le c.args.low c.args.high)
