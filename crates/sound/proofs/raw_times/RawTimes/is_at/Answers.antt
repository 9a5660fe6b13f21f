use lib.IntN.{pos}
use lib.ListN.{get_or}
use borrow.Author.Rules.{rules}
use borrow.Author.Tests.{lt-ltb, le-ltb}
use Rattle.sound.specs.Code.SoundStand.{at_place}
use Rattle.sound.proofs.SoundNames.{same_bits}
use Rattle.sound.proofs.raw_times.RawTimes.is_at.Goals as goal

pub returns-then-p-ts : goal.returns-then-p-ts
unfolding at_place
returns-then-p-ts c = let a = c.args in rw (lt-ltb a.p _ c.if-p-ts.true) (same_bits (get_or a.self.times.now a.p (pos 0)) a.t (record { sfits = search rules }) c.ranges.t)

pub returns-else-p-ts : goal.returns-else-p-ts
unfolding at_place
returns-else-p-ts c = rw (le-ltb _ _ c.if-p-ts.false)
