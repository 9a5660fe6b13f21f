use Prim.Native.Nat.{◌<◌}
use lib.ListN.{length, take}
use Rattle.stores.specs.Stores.{raw_bars}
use Rattle.stores.specs.Columns.{raw_in}
use Rattle.reports.specs.Code.UbiSteps.{see_at}
use Rattle.reports.proofs.MeasureLaws.{row-turn, row-end}
use Rattle.reports.proofs.ubi.see_rows.Goals as goal

pub loop-i-preserved : goal.loop-i-preserved
loop-i-preserved c = let a = c.args in let l = c.loop-i in let h : l.i < length a.cs.now = c.loop-i-test.true in row-turn a.cs.now a.es.now l.i c.requires.fact_2.0 h (see_at (take a.n (raw_bars (raw_in a.raw)))) l.s _ _ c.see_row-s.ensures l.invariant

pub returns : goal.returns
returns c = let a = c.args in let l = c.loop-i in row-end (see_at (take a.n (raw_bars (raw_in a.raw)))) a.cs.now a.es.now l.i _ _ c.requires.fact_2.0 c.loop-i-test.false l.invariant
