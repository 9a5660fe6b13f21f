use Rattle.strokes.proofs.StoredStrokes.{last-sums, last-place-is, last_inside, last_done}
use Rattle.strokes.specs.StateRead.{bar_counts}
use mir.ValLaws.{to_z-of_z}
use mir.Syntax.{w64}
use lib.ListN.{length, get_or}
use mathlib.Core.Path.{refl}
use native.Mathlib.Omega.{arith}
use Prim.Native.Nat.{◌+◌, ◌-◌, ◌<◌}
use borrow.Author.Rules.{rules}
use Rattle.strokes.proofs.strokes_store.last_stroke_within.Goals as goal

pub overflow_sub-place : goal.overflow_sub-place
unfolding bar_counts
overflow_sub-place c =
    let last = last-sums c.args.stand.bars c.args.stand.strokes c.requires.fact_1.strokes in
    let sum = c.requires.fact_3 in
    omega arith

pub overflow_add-i : goal.overflow_add-i
overflow_add-i c =
    let p = last_inside _ _ _ _ c.requires.fact_1 c.requires.fact_3 c.end_index-e.ensures in
    let z = c.requires.fact_2 in
    omega arith

pub overflow_add-j : goal.overflow_add-j
overflow_add-j c =
    let p = last_inside _ _ _ _ c.requires.fact_1 c.requires.fact_3 c.end_index-e.ensures in
    let z = c.requires.fact_2 in
    omega arith

pub overflow_sub-j : goal.overflow_sub-j
overflow_sub-j c =
    let p = last_inside _ _ _ _ c.requires.fact_1 c.requires.fact_3 c.end_index-e.ensures in
    let z = c.requires.fact_2 in
    omega arith

pub bounds-fp-place : goal.bounds-fp-place
bounds-fp-place c =
    let p = last_inside _ _ _ _ c.requires.fact_1 c.requires.fact_3 c.end_index-e.ensures in
    let z = c.requires.fact_2 in
    let inside : c.args.used - get_or c.args.stand.bars (c.args.stand.strokes - 1) 0 < length c.args.fp.now = omega arith in
    search rules

pub offset_bounds-fp-place : goal.offset_bounds-fp-place
offset_bounds-fp-place c =
    let p = last_inside _ _ _ _ c.requires.fact_1 c.requires.fact_3 c.end_index-e.ensures in
    let z = c.requires.fact_2 in
    let inside : c.args.used - get_or c.args.stand.bars (c.args.stand.strokes - 1) 0 < length c.args.fp.now = omega arith in
    search rules

pub bounds-fp-i : goal.bounds-fp-i
bounds-fp-i c =
    let p = last_inside _ _ _ _ c.requires.fact_1 c.requires.fact_3 c.end_index-e.ensures in
    let z = c.requires.fact_2 in
    let inside : (c.args.used - get_or c.args.stand.bars (c.args.stand.strokes - 1) 0) + c.end_index-e.result < length c.args.fp.now = omega arith in
    search rules

pub offset_bounds-fp-i : goal.offset_bounds-fp-i
offset_bounds-fp-i c =
    let p = last_inside _ _ _ _ c.requires.fact_1 c.requires.fact_3 c.end_index-e.ensures in
    let z = c.requires.fact_2 in
    let inside : (c.args.used - get_or c.args.stand.bars (c.args.stand.strokes - 1) 0) + c.end_index-e.result < length c.args.fp.now = omega arith in
    search rules

pub bounds-st-j : goal.bounds-st-j
bounds-st-j c =
    let p = last_inside _ _ _ _ c.requires.fact_1 c.requires.fact_3 c.end_index-e.ensures in
    let z = c.requires.fact_2 in
    let inside : (c.args.used - get_or c.args.stand.bars (c.args.stand.strokes - 1) 0) + get_or c.args.stand.bars (c.args.stand.strokes - 1) 0 - 2 < length c.args.st.now = omega arith in
    search rules

pub offset_bounds-st-j : goal.offset_bounds-st-j
offset_bounds-st-j c =
    let p = last_inside _ _ _ _ c.requires.fact_1 c.requires.fact_3 c.end_index-e.ensures in
    let z = c.requires.fact_2 in
    let inside : (c.args.used - get_or c.args.stand.bars (c.args.stand.strokes - 1) 0) + get_or c.args.stand.bars (c.args.stand.strokes - 1) 0 - 2 < length c.args.st.now = omega arith in
    search rules

pub returns : goal.returns
unfolding bar_counts
returns c =
    let s = c.args.stand in
    last_done s _ _ _ _ _ (last-place-is s.bars s.strokes _ c.requires.fact_1.strokes c.requires.fact_3) c.end_index-e.ensures c.max.ensures c.min.ensures c.row_direction.ensures refl (to_z-of_z w64 _ (search rules)) refl
