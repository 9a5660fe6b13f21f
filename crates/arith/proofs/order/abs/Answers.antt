use Rattle.std.proofs.Common.{◌∙◌}
use Rattle.arith.proofs.AbsoluteValue.{sign_cleared}
use Rattle.arith.proofs.order.abs.Goals as goal

pub returns : goal.returns
returns c = c.abs.ensures.value ∙ sign_cleared c.args.x
