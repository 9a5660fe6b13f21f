use mathlib.Core.Path.{sym, subst}
use Rattle.std.proofs.lemmas.Result.{err_from_is_err_and}
use Rattle.strokes.specs.Lent.{Stores, stores_of}
use Rattle.sound.specs.StandSound.{IsSound}
use Rattle.check_bi.specs.Code.Windows.{NoFractals}
use Rattle.feed.proofs.FeedLaws.{asked-no, can_write, feed_yes, asked_seen}
use Rattle.feed.proofs.feed.feed_sound.Goals as goal

pub ask-requires : goal.ask-requires
unfolding stores_of
ask-requires c =
    let e = sym c.of-stores.ensures in
    record { sound = subst (IsSound c.args.stand.now) e c.requires.sound; clear = subst (λ (m : Stores). NoFractals m.unfinished.prices c.args.clear) e c.requires.clear }

pub returns-in_err-asked-clause-feed : goal.returns-in_err-asked-clause-feed
returns-in_err-asked-clause-feed c =
    let p = err_from_is_err_and c.from_residual.result c.from_residual.ensures.1 in
    rw (p.1, p.2) (asked-no c.args.stand.now _ c.args.b _ c.requires.sound (asked_seen _ _ _ c.of-stores.ensures c.in_err-asked.ensures))

pub write-w-requires : goal.write-w-requires
write-w-requires c = can_write c.args.stand.now _ c.args.b _ c.requires.sound (asked_seen _ _ _ c.of-stores.ensures c.in_ok-asked.ensures)

pub returns-clause-feed : goal.returns-clause-feed
returns-clause-feed c =
    feed_yes c.args.stand.now _ c.args.b _ c.write-w.result _ c.requires.sound (asked_seen _ _ _ c.of-stores.ensures c.in_ok-asked.ensures) c.write-w.ensures.written
