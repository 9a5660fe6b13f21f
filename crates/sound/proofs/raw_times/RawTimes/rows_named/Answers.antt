use mathlib.Core.Path.{refl}
use Rattle.sound.proofs.SoundNames.{rows_on, rows_stop, rows_end}
use Rattle.sound.proofs.raw_times.RawTimes.rows_named.Goals as goal

pub returns-in_err-next : goal.returns-in_err-next
returns-in_err-next c = let a = c.args in let l = c.loop-i in rw c.from_residual.ensures (rows_stop a.self.times.now a.bars.counts.now a.bars.elements.now l.i _ _ c.loop-i-test.true c.requires c.in_err-next.ensures l.invariant refl)

pub loop-i-preserved : goal.loop-i-preserved
loop-i-preserved c = let a = c.args in let l = c.loop-i in rows_on a.self.times.now a.bars.counts.now a.bars.elements.now l.i _ _ c.loop-i-test.true c.requires c.in_ok-next.ensures l.invariant refl

pub returns : goal.returns
returns c = let a = c.args in let l = c.loop-i in rows_end a.self.times.now a.bars.counts.now a.bars.elements.now l.i _ c.loop-i-test.false l.invariant
