use lib.Ieee.{of_bits, le}
use mathlib.Core.Path.{◌∙◌}
use Rattle.arith.specs.Sums.{zero_f}
use Rattle.bars.specs.Questions.{from_zero}
use Rattle.bars.proofs.Asked.{and_no}
use Rattle.bars.proofs.MinusZero.{sign_bit, no_nan}
use Rattle.bars.proofs.questions.from_zero.Goals as goal

pub float_to_bits-result : goal.float_to_bits-result
unfolding of_bits
float_to_bits-result c = no_nan c.args.x c.if-x.true

pub returns-then-x : goal.returns-then-x
unfolding of_bits
returns-then-x c = sign_bit c.args.x c.if-x.true c.well_formed.0.1

pub returns-else-x : goal.returns-else-x
unfolding of_bits from_zero
returns-else-x c = c.if-x.false ∙ and_no (le zero_f c.args.x) _ c.if-x.false
