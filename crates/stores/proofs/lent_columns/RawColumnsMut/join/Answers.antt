use Rattle.stores.specs.Code.StoreRows.{copied_raw}
use Rattle.stores.proofs.lent_columns.RawColumnsMut.join.Goals as goal

pub returns-clause-store : goal.returns-clause-store
unfolding copied_raw
returns-clause-store c = rw (c.join_rows.ensures, c.join_rows-2.ensures, c.join_rows-3.ensures)
