use Rattle.strokes.specs.Lent.{stores_of}
use Rattle.from_fresh.proofs.ClearNext.{can_look_on, looked_after}
use Rattle.batch.proofs.batch.feed_next.Goals as goal

pub update_from_fresh-requires-clause-clear : goal.update_from_fresh-requires-clause-clear
unfolding stores_of
update_from_fresh-requires-clause-clear c = c.requires.clear.none

pub clear_after-requires : goal.clear_after-requires
unfolding stores_of
clear_after-requires c = can_look_on _ _ _ c.requires.from_fresh c.requires.clear c.of-before.ensures c.of-after.ensures c.seen-u.ensures c.in_ok-events.ensures.from_fresh

pub returns-clause-clear : goal.returns-clause-clear
unfolding stores_of
returns-clause-clear c = looked_after _ _ _ c.requires.from_fresh c.requires.clear c.of-before.ensures c.of-after.ensures c.seen-u.ensures c.in_ok-events.ensures.feed c.clear_after.ensures
