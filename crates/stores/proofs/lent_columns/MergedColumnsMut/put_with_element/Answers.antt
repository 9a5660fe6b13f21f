use borrow.Author.Rules.{rules}
use mir.Syntax.{w32, w64}
use mir.Val.{to_z, of_z}
use mir.ValLaws.{to_z-of_z}
use mathlib.Core.Path.{◌≡◌}
use lib.ListN.{set}
use Rattle.stores.specs.Stores.{raw_store, raw_part}
use Rattle.stores.specs.Code.StoreRows.{set_bar}
use Rattle.stores.specs.Columns.{merged_of}
use Rattle.stores.proofs.RowElements.{bar-written}
use Rattle.stores.proofs.lent_columns.MergedColumnsMut.put_with_element.Goals as goal

pub returns-clause-store : goal.returns-clause-store
unfolding set_bar
returns-clause-store c =
    let a = c.args in
    let m = merged_of a.self.now in
    let e : raw_store (set m.times a.at (to_z w64 (of_z w64 a.bar.time))) (set m.ids a.at (to_z w32 (of_z w32 a.bar.id))) (set m.prices a.at c.prices.result) ≡ set_bar (raw_part m) a.at a.bar = search rules in
    bar-written m _ a.at a.count a.bar a.time _ _ _ (to_z-of_z w64 a.time c.ranges.time) e c.put_element.ensures
