use borrow.Author.Rules.{rules}
use Rattle.bars.proofs.Asked.{fails_5, fails_6, fails_7, fails_8, fails_none}
use Rattle.bars.proofs.questions.question_of_bar.Goals as goal

pub returns-then-not-time_in_range : goal.returns-then-not-time_in_range
returns-then-not-time_in_range c = search (rules, fails_5)

pub returns-then-not-prices_in_range : goal.returns-then-not-prices_in_range
returns-then-not-prices_in_range c = search (rules, fails_6)

pub returns-then-not-volumes_in_range : goal.returns-then-not-volumes_in_range
returns-then-not-volumes_in_range c = search (rules, fails_7)

pub returns-then-not-low_at_most_high : goal.returns-then-not-low_at_most_high
returns-then-not-low_at_most_high c = search (rules, fails_8)

pub returns : goal.returns
returns c = search (rules, fails_none)
