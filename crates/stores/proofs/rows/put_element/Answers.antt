use borrow.Author.Rules.{rules}
use mir.Syntax.{w64}
use mir.ValLaws.{to_z-of_z}
use Rattle.stores.proofs.RowElements.{element_written}
use Rattle.stores.proofs.rows.put_element.Goals as goal

pub returns : goal.returns
returns c =
    element_written c.args.cs.now c.args.es.now c.args.at c.args.count _ c.args.time _ (to_z-of_z w64 c.args.time c.ranges.time) (search rules) c.min-used.ensures
