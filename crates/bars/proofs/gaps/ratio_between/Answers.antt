use lib.Ieee.{of_bits}
use Rattle.bars.specs.Gaps.{ratio_by, ratio_if, has_no_ratio}
use Rattle.bars.proofs.gaps.ratio_between.Goals as goal

pub returns-then-low : goal.returns-then-low
unfolding ratio_by ratio_if has_no_ratio of_bits
returns-then-low c = rw c.if-low.true

pub returns : goal.returns
unfolding ratio_by ratio_if has_no_ratio of_bits
returns c = rw (c.if-low.false, c.ratio.ensures)
