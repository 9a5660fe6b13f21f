use native.Mathlib.Omega.{arith}
use Rattle.from_fresh.proofs.ClearNext.{clear_begins}
use Rattle.batch.proofs.BatchLoop.{going_start, sums_fit, still_fresh, next_fed, next-refused, all_fed}
use Rattle.batch.proofs.SameOn.{same_columns, same_on}
use Rattle.batch.proofs.batch.feed_from.Goals as goal

pub loop-fed-init : goal.loop-fed-init
loop-fed-init c = (going_start _ _ _ _ c.none-events.ensures, clear_begins _ _, same_columns _ _ _ _)

pub feed_next-requires-clause-from_fresh : goal.feed_next-requires-clause-from_fresh
feed_next-requires-clause-from_fresh c = still_fresh c.requires c.loop-fed.invariant.0

pub feed_next-requires-clause-clear : goal.feed_next-requires-clause-clear
feed_next-requires-clause-clear c = c.loop-fed.invariant.1

-- ---- the bar is fed

pub plus-events-requires : goal.plus-events-requires
plus-events-requires c = sums_fit c.in-Ok.more c.loop-fed.invariant.0 c.loop-fed-test.true c.ranges.n.fits c.in-Ok.ensures.feed

pub loop-fed-preserved : goal.loop-fed-preserved
loop-fed-preserved c = (
  next_fed c.requires c.loop-fed.invariant.0 c.loop-fed-test.true c.bar-b.ensures c.in-Ok.more c.in-Ok.ensures.feed c.plus-events.ensures,
  c.in-Ok.ensures.clear,
  same_on c.loop-fed.invariant.2 c.in-Ok.ensures.same,
)

-- ---- it is refused

pub returns-in-Err-clause-fed : goal.returns-in-Err-clause-fed
returns-in-Err-clause-fed c = next-refused c.requires c.loop-fed.invariant.0 c.loop-fed-test.true c.bar-b.ensures c.in-Err.q c.in-Err.ensures.feed

pub returns-in-Err-clause-same : goal.returns-in-Err-clause-same
returns-in-Err-clause-same c = same_on c.loop-fed.invariant.2 c.in-Err.ensures.same

-- ---- none is left

pub returns-clause-fed : goal.returns-clause-fed
returns-clause-fed c =
    let most = c.loop-fed.auto.fed-end in
    let least = c.loop-fed-test.false in
    all_fed c.requires c.loop-fed.invariant.0 (omega arith)

pub returns-clause-same : goal.returns-clause-same
returns-clause-same c = c.loop-fed.invariant.2
