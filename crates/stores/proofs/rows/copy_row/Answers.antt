use borrow.Author.Rules.{rules}
use mathlib.Core.Path.{ap}
use lib.ListN.{set}
use Rattle.stores.proofs.InUse.{row-end}
use Rattle.stores.proofs.rows.copy_row.Goals as goal

pub returns : goal.returns
returns c =
    let a = c.args in
    row-end a.es.now _ a.at a.row.now a.count c.min.result c.min.result (ap (set a.es.now a.at) c.join_rows.ensures) (search rules) (search rules) (search rules) (search rules) (search rules)
