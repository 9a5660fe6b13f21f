use lib.Ieee.{le, of_bits}
use mathlib.Core.Bool.{◌&&◌}
use Rattle.bars.specs.Questions.{is_volume, most_volume}
use Rattle.bars.proofs.questions.is_volume.Goals as goal

pub returns : goal.returns
unfolding is_volume most_volume of_bits
returns c = λ j. c.from_zero.ensures j && le c.args.x most_volume
