use mathlib.Core.Path.{◌∙◌, ap}
use mathlib.Core.Bool.{◌&&◌}
use lib.Ieee.{of_bits, eq}
use Rattle.arith.specs.Sums.{zero_f}
use Rattle.bars.proofs.Prices.{plain-zero}
use Rattle.bars.proofs.questions.is_plain_zero.Goals as goal

pub returns : goal.returns
unfolding of_bits
returns c = ap (eq c.args.x zero_f &&◌) c.from_zero.ensures ∙ plain-zero c.args.x
