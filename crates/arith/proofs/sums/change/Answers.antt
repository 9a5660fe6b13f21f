use Rattle.arith.specs.Sums.{change_of}
use Rattle.arith.proofs.sums.change.Goals as goal

pub returns : goal.returns
unfolding change_of
returns c = c.abs.ensures
