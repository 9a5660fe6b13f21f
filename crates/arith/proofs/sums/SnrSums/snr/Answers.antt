use lib.Ieee.{of_bits}
use Rattle.arith.specs.Code.Accumulators.{snr_end}
use Rattle.arith.proofs.sums.SnrSums.snr.Goals as goal

pub returns-in-NoBar : goal.returns-in-NoBar
unfolding of_bits snr_end
returns-in-NoBar c = rw c.in-NoBar.is

pub returns-in-OneBar : goal.returns-in-OneBar
unfolding snr_end
returns-in-OneBar c = rw c.in-OneBar.is c.change.ensures

pub returns-in-Bars : goal.returns-in-Bars
unfolding snr_end
returns-in-Bars c = rw (c.in-Bars.is, ← c.change-in-Bars.ensures) c.ratio.ensures
