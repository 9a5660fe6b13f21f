use Rattle.std.proofs.Common.{◌∙◌}
use Rattle.check_bi.specs.Code.View.{times_in, rows_in}
use Rattle.check_bi.proofs.ScanWindows.{taken_timed}
use Rattle.check_bi.proofs.view.View.taken_in.Goals as goal

pub returns : goal.returns
returns c = let a = c.args in c.is_taken.ensures ∙ taken_timed (times_in a.self) (rows_in a.self) a.last a.i _ _ _ c.candle.ensures c.candle-2.ensures c.candle-3.ensures
