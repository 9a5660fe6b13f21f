use Rattle.stores.specs.Code.StoreRows.{copied_raw}
use Rattle.stores.proofs.lent_columns.RawColumnsMut.move_bars.Goals as goal

pub returns-clause-store : goal.returns-clause-store
unfolding copied_raw
returns-clause-store c = rw (c.move_rows.ensures, c.move_rows-2.ensures, c.move_rows-3.ensures)
