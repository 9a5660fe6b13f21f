use lib.Ieee.{of_bits}
use Rattle.bars.specs.Gaps.{ratio_of}
use Rattle.bars.proofs.gaps.ratio.Goals as goal

pub returns : goal.returns
unfolding ratio_of of_bits
returns c = c.round_to_nth_digit.ensures.0
