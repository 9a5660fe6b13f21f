use mathlib.Core.Path.{refl}
use lib.Ieee.{of_bits}
use Rattle.bars.specs.Questions.{in_price_range, least_price, most_price}
use Rattle.bars.proofs.questions.in_price_range.Goals as goal

pub returns : goal.returns
unfolding in_price_range least_price most_price of_bits
returns c = refl
