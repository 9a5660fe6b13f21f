use Rattle.arith.specs.Code.Accumulators.{snr_more}
use Rattle.arith.proofs.sums.SnrSums.more.Goals as goal

pub returns-in-NoBar : goal.returns-in-NoBar
unfolding snr_more
returns-in-NoBar c = rw (c.in-NoBar.is, c.change.ensures)

pub returns-in-OneBar : goal.returns-in-OneBar
unfolding snr_more
returns-in-OneBar c = rw (c.in-OneBar.is, c.change-in-OneBar.ensures)

pub returns-in-Bars : goal.returns-in-Bars
unfolding snr_more
returns-in-Bars c = rw (c.in-Bars.is, c.change-in-Bars.ensures)
