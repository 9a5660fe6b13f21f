use Rattle.std.proofs.Common.{rules}
use Rattle.arith.specs.Order.{min_of}
use Rattle.arith.proofs.order.min.Goals as goal

pub returns-then-y-x : goal.returns-then-y-x
unfolding min_of
returns-then-y-x c = search rules

pub returns-else-y-x : goal.returns-else-y-x
unfolding min_of
returns-else-y-x c = search rules
