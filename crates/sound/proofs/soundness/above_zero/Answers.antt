use lib.Ieee.{le, of_bits}
use mathlib.Core.Bool.{◌&&◌}
use mathlib.Core.Path.{◌∙◌, ap}
use Rattle.bars.specs.Questions.{least_price, most_price}
use Rattle.sound.specs.Code.SoundStand.{smaller_of, larger_of, above_zero}
use Rattle.sound.proofs.soundness.above_zero.Goals as goal

pub returns : goal.returns
unfolding above_zero least_price most_price of_bits
returns c =
    let a = c.args in
    let s = c.smaller-smallest.ensures ∙ ap (smaller_of a.low) c.smaller.ensures in
    let g = c.larger-largest.ensures ∙ ap (λ b. larger_of b a.high) c.larger.ensures in
    λ i. (le least_price (s i) && le (g i) most_price) && le a.low a.high
