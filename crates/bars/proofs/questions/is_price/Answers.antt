use mathlib.Core.Path.{◌∙◌, sym, ap}
use Rattle.bars.specs.Questions.{in_price_range}
use Rattle.bars.proofs.Prices.{zero-passes, size_decides}
use Rattle.bars.proofs.questions.is_price.Goals as goal

pub returns-then-is_plain_zero : goal.returns-then-is_plain_zero
returns-then-is_plain_zero c = c.if-is_plain_zero.true ∙ zero-passes c.args.x (sym c.is_plain_zero.ensures ∙ c.if-is_plain_zero.true)

pub returns-else-is_plain_zero : goal.returns-else-is_plain_zero
returns-else-is_plain_zero c =
    c.in_price_range.ensures
    ∙ ap in_price_range c.abs.ensures
    ∙ size_decides c.args.x (sym c.is_plain_zero.ensures ∙ c.if-is_plain_zero.false)
