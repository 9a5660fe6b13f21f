use Rattle.reports.proofs.ListLaws.{count-all, count_less}
use borrow.Author.Rules.{rules}
use Rattle.reports.proofs.finished.finished_count.Goals as goal

pub returns-then-unfinished-ge5 : goal.returns-then-unfinished-ge5
returns-then-unfinished-ge5 c = let a = c.args in count-all a.strokes a.unfinished (search rules)

pub returns-else-unfinished-ge5 : goal.returns-else-unfinished-ge5
returns-else-unfinished-ge5 c = let a = c.args in count_less a.strokes a.unfinished _ (search rules) c.saturating_sub.ensures
