use mathlib.Core.Path.{◌≡◌}
use lib.ListN.{drop}
use Rattle.sound.specs.Code.SoundStand.{named_rows}
use Rattle.sound.proofs.raw_times.RawTimes.rows_named.Given as goal

abbrev pub invariant-loop-i : goal.invariant-loop-i
invariant-loop-i l = named_rows l.self.times.now (drop l.i l.bars.counts.now) (drop l.i l.bars.elements.now) ≡ named_rows l.self.times.now l.bars.counts.now l.bars.elements.now
