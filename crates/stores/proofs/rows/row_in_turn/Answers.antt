use borrow.Author.Tests.{le-leb, lt-leb}
use Rattle.stores.specs.Code.StoreRows.{row_in_turn}
use Rattle.stores.proofs.rows.row_in_turn.Goals as goal

pub returns-then-at-from-clause-is : goal.returns-then-at-from-clause-is
unfolding row_in_turn
returns-then-at-from-clause-is c = rw (le-leb c.args.at c.args.from c.if-at-from.true)

pub returns-else-at-from-clause-is : goal.returns-else-at-from-clause-is
unfolding row_in_turn
returns-else-at-from-clause-is c = rw (lt-leb c.args.at c.args.from c.if-at-from.false)
