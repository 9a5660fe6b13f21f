use native.Mathlib.Omega.{arith}
use Rattle.zones.specs.Code.FakeOfTwo.{fake_count}
use Rattle.zones.proofs.fake_strokes.fake_count.Goals as goal

pub returns : goal.returns
unfolding fake_count
returns c = let e = c.end_index.ensures in omega arith
