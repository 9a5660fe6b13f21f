use Rattle.std.proofs.Common.{◌-◌}
use Rattle.check_bi.specs.Code.View.{times_in, rows_in, places}
use Rattle.check_bi.proofs.ScanWindows.{Standing}
use Rattle.check_bi.proofs.view.View.scan.Given as goal

abbrev pub invariant-loop-at : goal.invariant-loop-at
invariant-loop-at l = Standing (times_in l.self) (rows_in l.self) l.lo (places l.self) l.seen l.from

abbrev pub decreases-loop-at : goal.decreases-loop-at
decreases-loop-at l = places l.self - l.from
