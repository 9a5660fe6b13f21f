use lib.ListN.{take, drop}
use Prim.Native.Nat.{◌-◌}
use mathlib.Core.Path.{ap, sym, ◌∙◌, subst}
use Rattle.stores.specs.Stores.{RawStore, merged_store}
use Rattle.stores.specs.Code.StoreRows.{RoomRaw}
use Rattle.stores.specs.Columns.{raw_cut}
use Rattle.stores.proofs.lent_columns.MergedColumns.part.Goals as goal

pub part-bars-requires-clause-room : goal.part-bars-requires-clause-room
part-bars-requires-clause-room c = subst (λ (r : RawStore). RoomRaw r c.args.to) (sym c.bars.ensures) c.requires.room.raw

pub returns : goal.returns
returns c =
    let a = c.args in
    let cut = c.part-bars.ensures ∙ ap (raw_cut a.from a.to) c.bars.ensures in
    ap (λ (r : RawStore). merged_store r.times r.ids r.prices (take (a.to - a.from) (drop a.from a.self.counts.now)) (take (a.to - a.from) (drop a.from a.self.elements.now))) cut
