use Prim.Native.Nat.{◌-◌}
use mathlib.Core.Path.{ap, ◌∙◌}
use lib.ListN.{length}
use borrow.Author.Tests.{lt-leb}
use native.Mathlib.Omega.{arith}
use Rattle.stores.specs.Stores.{MergedStore}
use Rattle.strokes.proofs.StoredUnfinished.{room_of}
use Rattle.sound.specs.Code.SoundStand.{stroke_columns, named_rows}
use Rattle.sound.proofs.SoundStrokes.{stroke_bad, stroke_unmarked, stroke_named, part_counts}
use Rattle.sound.proofs.soundness.stroke_pass.Goals as goal

pub returns-then-n-lt4 : goal.returns-then-n-lt4
unfolding stroke_columns
returns-then-n-lt4 c = rw (lt-leb 4 (length c.args.bars.times.now) c.if-n-lt4.true)

pub returns-then-not-merged_columns_pass : goal.returns-then-not-merged_columns_pass
returns-then-not-merged_columns_pass c =
    let a = c.args in
    let b = a.bars in
    stroke_bad a.raw.times.now b.times.now b.prices.now b.counts.now b.elements.now a.fractals.stamps.now a.fractals.prices.now c.if-n-lt4.false _ c.merged_columns_pass.ensures c.if-not-merged_columns_pass.true

pub returns-then-not-fractals_pass : goal.returns-then-not-fractals_pass
returns-then-not-fractals_pass c =
    let a = c.args in
    let b = a.bars in
    stroke_unmarked a.raw.times.now b.times.now b.prices.now b.counts.now b.elements.now a.fractals.stamps.now a.fractals.prices.now c.if-n-lt4.false _ c.merged_columns_pass.ensures _ c.fractals_pass.ensures c.if-not-merged_columns_pass.false c.if-not-fractals_pass.true

pub part-inner-requires-clause-order : goal.part-inner-requires-clause-order
part-inner-requires-clause-order c = let four = c.if-n-lt4.false in omega arith

pub part-inner-requires-clause-room : goal.part-inner-requires-clause-room
part-inner-requires-clause-room c = room_of _ _ _ c.requires (omega arith)

pub rows_named-requires : goal.rows_named-requires
rows_named-requires c = part_counts 1 (length c.args.bars.times.now - 1) c.requires c.part-inner.ensures

pub returns : goal.returns
returns c =
    let a = c.args in
    let b = a.bars in
    stroke_named a.raw.times.now b.times.now b.prices.now b.counts.now b.elements.now a.fractals.stamps.now a.fractals.prices.now c.if-n-lt4.false _ c.merged_columns_pass.ensures _ _ c.fractals_pass.ensures c.if-not-merged_columns_pass.false c.if-not-fractals_pass.false
    (c.rows_named.ensures ∙ ap (λ (m : MergedStore). named_rows a.raw.times.now m.counts m.elements) c.part-inner.ensures)
