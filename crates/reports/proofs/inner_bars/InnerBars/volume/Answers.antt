use lib.Ieee.{of_bits}
use Rattle.std.proofs.Common.{rules}
use Rattle.std.proofs.lemmas.Iterator.{YieldsList-from_slice}
use Rattle.std.proofs.lemmas.Iterator.Consumers.{fold_from_yields_List}
use Rattle.reports.proofs.MeasureLaws.{with_vol, volume-none, volume-is}
use Rattle.reports.proofs.inner_bars.InnerBars.volume.Goals as goal

pub returns-in_default : goal.returns-in_default
unfolding of_bits
returns-in_default c = λ l e. volume-none l c.args.self.prices.now c.in_default.ensures.cases e

pub returns : goal.returns
returns c = λ l e.
    let p = c.in-Some in
    volume-is l p.first.now p.rest.now c.args.self.prices.now _ p.ensures.cases.0 (fold_from_yields_List _ with_vol _ _ c.fold.ensures.ran (YieldsList-from_slice p.rest.now cc) (λ a x b q k. search rules)) e
