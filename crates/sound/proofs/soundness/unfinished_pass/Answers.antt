use lib.ListN.{length}
use mathlib.Core.Path.{ap, sym, ◌∙◌}
use Rattle.stores.specs.Stores.{MergedStore}
use Rattle.sound.specs.Code.SoundStand.{named_rows}
use Rattle.sound.proofs.SoundStrokes.{unfinished_bad, unfinished_old, unfinished_named, part_counts, all_fit}
use Rattle.sound.proofs.soundness.unfinished_pass.Goals as goal

pub returns-then-not-merged_columns_pass : goal.returns-then-not-merged_columns_pass
returns-then-not-merged_columns_pass c =
    let a = c.args in
    let u = a.unfinished in
    unfinished_bad a.raw.times.now u.times.now u.prices.now u.counts.now u.elements.now _ c.merged_columns_pass.ensures c.if-not-merged_columns_pass.true

pub newest_named-requires : goal.newest_named-requires
newest_named-requires c = let s = c.requires in s.counts ∙ sym s.elements

pub returns-then-not-newest_named : goal.returns-then-not-newest_named
returns-then-not-newest_named c =
    let a = c.args in
    let u = a.unfinished in
    unfinished_old a.raw.times.now u.times.now u.prices.now u.counts.now u.elements.now _ c.merged_columns_pass.ensures _ c.newest_named.ensures c.if-not-merged_columns_pass.false c.if-not-newest_named.true

pub part-asked-requires-clause-order : goal.part-asked-requires-clause-order
part-asked-requires-clause-order c = c.skipped.ensures.within

pub part-asked-requires-clause-room : goal.part-asked-requires-clause-room
part-asked-requires-clause-room c = all_fit c.requires

pub rows_named-requires : goal.rows_named-requires
rows_named-requires c = part_counts c.skipped.result (length c.args.unfinished.times.now) c.requires c.part-asked.ensures

pub returns : goal.returns
returns c =
    let a = c.args in
    let u = a.unfinished in
    let s = c.requires in
    c.is_some.ensures
    ∙ unfinished_named a.raw.times.now u.times.now u.prices.now u.counts.now u.elements.now _ c.merged_columns_pass.ensures _ _ _ _ c.newest_named.ensures c.if-not-merged_columns_pass.false c.if-not-newest_named.false (sym s.counts) (sym s.elements) c.skipped.ensures.is
    (c.rows_named.ensures ∙ ap (λ (m : MergedStore). named_rows a.raw.times.now m.counts m.elements) c.part-asked.ensures)
