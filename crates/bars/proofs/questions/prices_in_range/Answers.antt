use Rattle.bars.proofs.Prices.{bar_above}
use Rattle.bars.specs.Questions.{question6}
use mathlib.Core.Bool.{◌&&◌}
use mathlib.Core.Path.{◌∙◌, sym}
use Rattle.bars.proofs.questions.prices_in_range.Goals as goal

pub returns-then-above_zero : goal.returns-then-above_zero
returns-then-above_zero c = c.if-above_zero.true ∙ bar_above c.args.b (sym c.above_zero.ensures ∙ c.if-above_zero.true)

pub returns-else-above_zero : goal.returns-else-above_zero
unfolding question6
returns-else-above_zero c = λ j. (c.is_price.ensures j && c.is_price-else-above_zero.ensures j) && (c.is_price-else-above_zero-2.ensures j && c.is_price-else-above_zero-3.ensures j)
