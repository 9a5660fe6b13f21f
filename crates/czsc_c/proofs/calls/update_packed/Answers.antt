use mathlib.Core.Path.{ap, sym, ◌∙◌, subst}
use Rattle.std.proofs.lemmas.Result.{err_from_is_err_and}
use Rattle.bars.specs.Refusals.{number}
use Rattle.strokes.specs.declared.Stand.{Stand}
use Rattle.strokes.specs.Columns.{written_in}
use Rattle.check_bi.proofs.ScanWindows.{clear_none}
use Rattle.sound.specs.StandSound.{IsSound}
use Rattle.feed.proofs.FeedLaws.{numbered}
use Rattle.czsc_c.proofs.HandedLaws.{before_seen, refused-before, passed, fed_then, fed_handed}
use Rattle.czsc_c.proofs.calls.update_packed.Goals as goal

pub returns-in_err-stand-clause-handed : goal.returns-in_err-stand-clause-handed
returns-in_err-stand-clause-handed c =
    let a = c.args in
    let p = err_from_is_err_and c.from_residual.result c.from_residual.ensures.1 in
    rw p.1
    (refused-before a.rows.now.numbers.now a.rows.now.counts.now a.events.now (written_in a.raw.now a.unfinished.now a.strokes.now a.fractals.now) a.b (number p.0)
    (ap number p.2 ∙ before_seen c.of-stores.ensures _ _ _ c.in_err-stand.ensures.failed) (numbered p.0))

pub feed_sound-fed-requires : goal.feed_sound-fed-requires
feed_sound-fed-requires c =
    let a = c.args in
    let m = written_in a.raw.now a.unfinished.now a.strokes.now a.fractals.now in
    let z = sym (before_seen c.of-stores.ensures _ _ _ c.in_ok-stand.ensures.failed) in
    record { sound = subst (λ (x : Stand). IsSound x m) (sym c.in_ok-stand.ensures.stand) (passed a.rows.now.numbers.now a.rows.now.counts.now a.events.now m z).1; clear = clear_none _ }

pub hand_over-requires : goal.hand_over-requires
hand_over-requires c =
    let a = c.args in
    (passed a.rows.now.numbers.now a.rows.now.counts.now a.events.now (written_in a.raw.now a.unfinished.now a.strokes.now a.fractals.now)
    (sym (before_seen c.of-stores.ensures _ _ _ c.in_ok-stand.ensures.failed))).0

pub returns-clause-handed : goal.returns-clause-handed
returns-clause-handed c =
    let a = c.args in
    let m = written_in a.raw.now a.unfinished.now a.strokes.now a.fractals.now in
    fed_then a.rows.now.numbers.now a.rows.now.counts.now a.events.now m (sym (before_seen c.of-stores.ensures _ _ _ c.in_ok-stand.ensures.failed))
    (fed_handed a.rows.now.numbers.now a.rows.now.counts.now a.events.now m _ _ c.feed_sound-fed.result c.in_ok-stand.ensures.stand c.feed_sound-fed.ensures.feed c.hand_over.ensures.handed)
