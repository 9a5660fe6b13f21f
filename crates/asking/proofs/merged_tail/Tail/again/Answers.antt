use borrow.Author.Rules.{rules}
use native.Mathlib.Omega.{arith}
use Prim.Native.Nat.{◌+◌, ◌-◌}
use mathlib.Core.Path.{◌≡◌}
use lib.ListN.{length, take}
use Rattle.stores.specs.Stores.{raw_bars}
use Rattle.stores.specs.Columns.{raw_in, merged_in}
use Rattle.strokes.proofs.StoredUnfinished.{room_of}
use Rattle.asking.proofs.MergedTails.{can_go}
use Rattle.asking.proofs.TailsAgain.{again-start, again-count, few_names, again-last, again_done}
use Rattle.asking.proofs.merged_tail.Tail.again.Goals as goal

pub overflow_sub-at : goal.overflow_sub-at
overflow_sub-at g c = let has = c.requires.merges.1.again.kept in omega arith

pub new_bar-newest-requires : goal.new_bar-newest-requires
new_bar-newest-requires g c =
    let a = c.args in
    let h = c.requires.merges.1 in
    let has = h.again.kept in
    let fits = h.fits in
    room_of (merged_in a.unfinished) (length a.unfinished.times.now) (a.count - 1 + 1) h.store (omega arith)

pub start-requires : goal.start-requires
start-requires g c =
    let a = c.args in
    let wide = c.requires.fresh.1 in
    (search rules, ((c.requires.fresh.0, omega arith), again-start (merged_in a.unfinished) a.count (raw_in c.bars-bars.result) c.bars-bars.ensures c.requires.merges.1))

pub slice_bounds-merge_elements-count : goal.slice_bounds-merge_elements-count
slice_bounds-merge_elements-count g c =
    let a = c.args in
    let u = merged_in a.unfinished in
    let raw = take a.kept (raw_bars (raw_in a.raw)) in
    let h = c.requires.merges.1 in
    let k = c.new_bar-newest.result in
    let e = c.new_bar-newest.ensures in
    let row : length k.elements ≡ 101 = c.new_bar-newest.type_inv.1.1.1.1.0.1.0.1 in
    let one = (few_names u a.count h raw a.b k e row).1 in
    omega arith

pub shared_ref_as_front-merge_elements : goal.shared_ref_as_front-merge_elements
shared_ref_as_front-merge_elements g c =
    let a = c.args in
    let u = merged_in a.unfinished in
    let raw = take a.kept (raw_bars (raw_in a.raw)) in
    let h = c.requires.merges.1 in
    let k = c.new_bar-newest.result in
    let e = c.new_bar-newest.ensures in
    let row : length k.elements ≡ 101 = c.new_bar-newest.type_inv.1.1.1.1.0.1.0.1 in
    let count = again-count u a.count h raw a.b k e row in
    let few = h.again.most in
    omega arith

pub merge_elements-requires : goal.merge_elements-requires
merge_elements-requires g c =
    let a = c.args in
    let u = merged_in a.unfinished in
    let raw = take a.kept (raw_bars (raw_in a.raw)) in
    let h = c.requires.merges.1 in
    let k = c.new_bar-newest.result in
    let e = c.new_bar-newest.ensures in
    let row : length k.elements ≡ 101 = c.new_bar-newest.type_inv.1.1.1.1.0.1.0.1 in
    let few = (few_names u a.count h raw a.b k e row).0 in
    let wide = c.requires.fresh.1 in
    (search rules, (c.requires.merges.0, can_go (raw_in c.bars-bars.result) (a.count - 1) _ _ _ (again-start u a.count (raw_in c.bars-bars.result) c.bars-bars.ensures h) c.start.ensures (omega arith)))

pub merge-requires : goal.merge-requires
merge-requires g c =
    let a = c.args in
    let u = merged_in a.unfinished in
    let raw = take a.kept (raw_bars (raw_in a.raw)) in
    let h = c.requires.merges.1 in
    let k = c.new_bar-newest.result in
    let e = c.new_bar-newest.ensures in
    let row : length k.elements ≡ 101 = c.new_bar-newest.type_inv.1.1.1.1.0.1.0.1 in
    (search rules, again-last u a.count h raw a.b k e row (raw_in c.bars-bars.result) c.bars-bars.ensures _ c.start.ensures _ c.merge_elements.ensures c.requires.fresh.1)

pub returns : goal.returns
returns g c =
    let a = c.args in
    let u = merged_in a.unfinished in
    let raw = take a.kept (raw_bars (raw_in a.raw)) in
    let h = c.requires.merges.1 in
    let k = c.new_bar-newest.result in
    let e = c.new_bar-newest.ensures in
    let row : length k.elements ≡ 101 = c.new_bar-newest.type_inv.1.1.1.1.0.1.0.1 in
    again_done u a.count h raw a.b k e row (raw_in c.bars-bars.result) c.bars-bars.ensures _ c.start.ensures _ c.merge_elements.ensures _ c.merge.ensures
