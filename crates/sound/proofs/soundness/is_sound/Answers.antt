use mathlib.Core.Bool.{true, false}
use mathlib.Core.Path.{◌∙◌, sym}
use Rattle.strokes.specs.Lent.{stores_of}
use Rattle.strokes.specs.Columns.{stores_in}
use Rattle.sound.proofs.FreshLaws.{agree_sized}
use Rattle.sound.proofs.SoundStrokes.{part_sized, raw-rising}
use Rattle.sound.proofs.SoundFits.{fit, kept_raw, kept_unfinished, front_no_raw, front_with, few_times, strokes_few, strokes_sized, by_part}
use Rattle.sound.proofs.SoundWhole.{no_stores, no_numbers, no_front, by_strokes}
use Rattle.sound.proofs.soundness.is_sound.Goals as goal

pub returns-then-not-columns_agree : goal.returns-then-not-columns_agree
returns-then-not-columns_agree c = no_stores _ _ (agree_sized c.args.stand _ _ _ c.columns_agree.ensures c.if-not-columns_agree.true)

pub returns-then-not-numbers_pass : goal.returns-then-not-numbers_pass
returns-then-not-numbers_pass c = no_numbers _ _ (sym c.numbers_pass.ensures ∙ c.if-not-numbers_pass.true)

pub part-raw-requires-clause-room : goal.part-raw-requires-clause-room
unfolding stores_of
part-raw-requires-clause-room c =
    kept_raw (fit c.args.stand (stores_in c.args.stores) (agree_sized c.args.stand _ _ _ c.columns_agree.ensures c.if-not-columns_agree.false) (sym c.numbers_pass.ensures ∙ c.if-not-numbers_pass.false))

pub part-unfinished-requires-clause-room : goal.part-unfinished-requires-clause-room
unfolding stores_of
part-unfinished-requires-clause-room c =
    kept_unfinished (fit c.args.stand (stores_in c.args.stores) (agree_sized c.args.stand _ _ _ c.columns_agree.ensures c.if-not-columns_agree.false) (sym c.numbers_pass.ensures ∙ c.if-not-numbers_pass.false))

pub returns-then-not-raw_columns_pass : goal.returns-then-not-raw_columns_pass
unfolding stores_of
returns-then-not-raw_columns_pass c =
    no_front c.args.stand (stores_in c.args.stores) (front_no_raw _ _ _ _ c.part-raw.ensures c.part-unfinished.ensures (sym c.raw_columns_pass.ensures ∙ c.if-not-raw_columns_pass.true))

pub invariant_of-times-clause-few : goal.invariant_of-times-clause-few
unfolding stores_of
invariant_of-times-clause-few c =
    let f = fit c.args.stand (stores_in c.args.stores) (agree_sized c.args.stand _ _ _ c.columns_agree.ensures c.if-not-columns_agree.false) (sym c.numbers_pass.ensures ∙ c.if-not-numbers_pass.false) in
    few_times f c.part-raw.ensures

pub invariant_of-times-clause-rise : goal.invariant_of-times-clause-rise
invariant_of-times-clause-rise c = raw-rising _ _ (sym c.raw_columns_pass.ensures ∙ c.if-not-raw_columns_pass.false)

pub unfinished_pass-requires : goal.unfinished_pass-requires
unfolding stores_of
unfinished_pass-requires c =
    let f = fit c.args.stand (stores_in c.args.stores) (agree_sized c.args.stand _ _ _ c.columns_agree.ensures c.if-not-columns_agree.false) (sym c.numbers_pass.ensures ∙ c.if-not-numbers_pass.false) in
    part_sized 0 c.args.stand.unfinished f.unfinished c.part-unfinished.ensures

pub returns-then-not-unfinished_pass : goal.returns-then-not-unfinished_pass
unfolding stores_of
returns-then-not-unfinished_pass c =
    no_front c.args.stand (stores_in c.args.stores)
    (front_with _ _ _ _ c.part-raw.ensures c.part-unfinished.ensures (sym c.raw_columns_pass.ensures ∙ c.if-not-raw_columns_pass.false) false (sym c.unfinished_pass.ensures ∙ c.if-not-unfinished_pass.true))

pub strokes_sound-requires : goal.strokes_sound-requires
unfolding stores_of
strokes_sound-requires c =
    let f = fit c.args.stand (stores_in c.args.stores) (agree_sized c.args.stand _ _ _ c.columns_agree.ensures c.if-not-columns_agree.false) (sym c.numbers_pass.ensures ∙ c.if-not-numbers_pass.false) in
    record { few = strokes_few f; sizes = strokes_sized f }

pub returns : goal.returns
unfolding stores_of
returns c =
    let s = c.args.stand in
    let m = stores_in c.args.stores in
    by_strokes s m c.strokes_sound.ensures.1 c.strokes_sound.ensures.2
    (agree_sized s _ _ _ c.columns_agree.ensures c.if-not-columns_agree.false)
    (sym c.numbers_pass.ensures ∙ c.if-not-numbers_pass.false)
    (front_with _ _ _ _ c.part-raw.ensures c.part-unfinished.ensures (sym c.raw_columns_pass.ensures ∙ c.if-not-raw_columns_pass.false) true (sym c.unfinished_pass.ensures ∙ c.if-not-unfinished_pass.false)) _
    (c.strokes_sound.ensures.0 ∙ by_part s m c.part-raw.ensures)
