use Rattle.std.proofs.Common.{rules}
use Rattle.arith.specs.Order.{max_of}
use Rattle.arith.proofs.order.max.Goals as goal

pub returns-then-x-y : goal.returns-then-x-y
unfolding max_of
returns-then-x-y c = search rules

pub returns-else-x-y : goal.returns-else-x-y
unfolding max_of
returns-else-x-y c = search rules
