use mathlib.Core.Path.{◌≡◌}
use lib.ListN.{drop}
use Rattle.bars.specs.Lists.{every}
use Rattle.sound.specs.Code.SoundStand.{is_time}
use Rattle.sound.proofs.raw_times.RawTimes.each_named.Given as goal

abbrev pub invariant-loop-t : goal.invariant-loop-t
invariant-loop-t l = every (is_time l.self.times.now) (drop l.t-index l.elements) ≡ every (is_time l.self.times.now) l.elements
