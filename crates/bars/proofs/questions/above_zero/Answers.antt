use mathlib.Core.Bool.{◌&&◌}
use Rattle.bars.proofs.questions.above_zero.Goals as goal

pub returns : goal.returns
returns c = λ j. (c.in_price_range.ensures j && c.in_price_range-2.ensures j) && (c.in_price_range-3.ensures j && c.in_price_range-4.ensures j)
