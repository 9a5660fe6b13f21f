use Rattle.bars.specs.Gaps.{gap_by}
use Rattle.bars.proofs.gaps.gap_by.Goals as goal

pub returns : goal.returns
unfolding gap_by
returns c = rw c.ratio_between.ensures
