use mathlib.Core.Path.{ap, sym, ◌∙◌}
use Rattle.std.proofs.lemmas.Result.{err_from_is_err_and}
use Rattle.bars.specs.Refusals.{number}
use Rattle.stores.specs.Stores.{raw_bars}
use Rattle.stores.specs.Columns.{raw_in}
use Rattle.strokes.specs.Columns.{written_in}
use Rattle.feed.proofs.FeedLaws.{numbered}
use Rattle.batch.specs.BatchCalls.{number_if}
use Rattle.czsc_c.proofs.HandedLaws.{first_seen, refused-first, places, begins, all_then}
use Rattle.czsc_c.proofs.calls.feed_packed.Goals as goal

pub returns-in_err-ask_first-clause-handed : goal.returns-in_err-ask_first-clause-handed
returns-in_err-ask_first-clause-handed c =
    let a = c.args in
    let p = err_from_is_err_and c.from_residual.result c.from_residual.ensures.1 in
    rw p.1
    (refused-first a.settings.minimum a.settings.most a.settings.power a.settings.ratio a.rows.now.numbers.now a.rows.now.counts.now a.sums.now (written_in a.raw.now a.unfinished.now a.strokes.now a.fractals.now) (raw_bars (raw_in a.bars)) (number p.0)
    (ap number p.2 ∙ first_seen c.of-stores.ensures a.settings.minimum a.settings.most a.settings.power a.settings.ratio _ _ _ c.in_err-ask_first.ensures) (numbered p.0))

pub returns-in_err-fed-clause-handed : goal.returns-in_err-fed-clause-handed
returns-in_err-fed-clause-handed c =
    let a = c.args in
    absurd (begins a.settings.minimum a.settings.most a.settings.power a.settings.ratio a.rows.now.numbers.now a.rows.now.counts.now a.sums.now (written_in a.raw.now a.unfinished.now a.strokes.now a.fractals.now)
    (sym (first_seen c.of-stores.ensures a.settings.minimum a.settings.most a.settings.power a.settings.ratio _ _ _ c.in_ok-ask_first.ensures)) c.in_err-fed.ensures.batch)

pub hand_over_all-requires : goal.hand_over_all-requires
hand_over_all-requires c =
    let a = c.args in
    places a.settings.minimum a.settings.most a.settings.power a.settings.ratio a.rows.now.numbers.now a.rows.now.counts.now a.sums.now (written_in a.raw.now a.unfinished.now a.strokes.now a.fractals.now)
    (sym (first_seen c.of-stores.ensures a.settings.minimum a.settings.most a.settings.power a.settings.ratio _ _ _ c.in_ok-ask_first.ensures))

pub returns-in-None-clause-handed : goal.returns-in-None-clause-handed
returns-in-None-clause-handed c =
    let a = c.args in
    let h = c.hand_over_all.ensures in
    all_then a.settings.minimum a.settings.most a.settings.power a.settings.ratio a.rows.now.numbers.now a.rows.now.counts.now a.sums.now (written_in a.raw.now a.unfinished.now a.strokes.now a.fractals.now)
    (sym (first_seen c.of-stores.ensures a.settings.minimum a.settings.most a.settings.power a.settings.ratio _ _ _ c.in_ok-ask_first.ensures))
    (record { answer = c.in_ok-fed.fed; batch = c.in_ok-fed.ensures.batch; number = ap number_if (sym c.in-None.is); numbers = h.rows.0; counts = h.rows.1; sums = h.sums })

pub returns-in-Some-clause-handed : goal.returns-in-Some-clause-handed
returns-in-Some-clause-handed c =
    let a = c.args in
    let h = c.hand_over_all.ensures in
    all_then a.settings.minimum a.settings.most a.settings.power a.settings.ratio a.rows.now.numbers.now a.rows.now.counts.now a.sums.now (written_in a.raw.now a.unfinished.now a.strokes.now a.fractals.now)
    (sym (first_seen c.of-stores.ensures a.settings.minimum a.settings.most a.settings.power a.settings.ratio _ _ _ c.in_ok-ask_first.ensures))
    (record { answer = c.in_ok-fed.fed; batch = c.in_ok-fed.ensures.batch; number = ap number_if (sym c.in-Some.is); numbers = h.rows.0; counts = h.rows.1; sums = h.sums })
