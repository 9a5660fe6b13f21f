use borrow.Author.Tests.{lt-leb, le-leb}
use Rattle.sound.specs.Code.SoundStand.{skipped}
use Rattle.sound.proofs.soundness.skipped.Goals as goal

pub returns-then-n-le1-clause-is : goal.returns-then-n-le1-clause-is
unfolding skipped
returns-then-n-le1-clause-is c = rw (le-leb c.args.n 1 c.if-n-le1.true)

pub returns-else-n-le1-clause-is : goal.returns-else-n-le1-clause-is
unfolding skipped
returns-else-n-le1-clause-is c = rw (lt-leb c.args.n 1 c.if-n-le1.false)
