use Rattle.strokes.specs.Lent.{stores_of}
use Rattle.feed.proofs.PortDemand3.{port_demand3}
use Rattle.from_fresh.proofs.FromFreshLaws.{newest_can, newest_yes, newest_no, from-fresh-next}
use Rattle.from_fresh.proofs.update_from_fresh.Goals as goal

pub newest_is_last-requires : goal.newest_is_last-requires
unfolding stores_of
newest_is_last-requires c = newest_can c.requires.from_fresh c.seen-r.ensures c.seen-u.ensures

pub feed_sound-requires : goal.feed_sound-requires
unfolding stores_of
feed_sound-requires c =
    record { sound = newest_yes c.requires.from_fresh c.seen-r.ensures c.seen-u.ensures c.newest_is_last.ensures c.if-newest_is_last.true; clear = c.requires.clear }

pub returns-then-newest_is_last-clause-demand3 : goal.returns-then-newest_is_last-clause-demand3
returns-then-newest_is_last-clause-demand3 c = port_demand3

pub returns-then-newest_is_last-clause-from_fresh : goal.returns-then-newest_is_last-clause-from_fresh
returns-then-newest_is_last-clause-from_fresh c = from-fresh-next c.requires.from_fresh c.feed_sound.ensures.feed

pub returns-clause-feed : goal.returns-clause-feed
unfolding stores_of
returns-clause-feed c = newest_no c.requires.from_fresh c.seen-r.ensures c.seen-u.ensures c.args.b c.newest_is_last.ensures c.if-newest_is_last.false

pub returns-clause-demand3 : goal.returns-clause-demand3
returns-clause-demand3 c = port_demand3
