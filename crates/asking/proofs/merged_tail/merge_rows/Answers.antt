use borrow.Author.Rules.{rules}
use Rattle.stores.specs.Columns.{raw_of}
use Rattle.asking.proofs.MergedTails.{takes_tied}
use Rattle.asking.proofs.merged_tail.merge_rows.Goals as goal

pub returns : goal.returns
returns c = takes_tied _ _ _ _ (raw_of c.merge_bar.new.self) _ _ (search rules) (search rules) (search rules) c.merge_bar.ensures.tail
