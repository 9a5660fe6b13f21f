use Rattle.std.proofs.Common.{rules}
use Rattle.std.proofs.lemmas.Iterator.{YieldsList-from_slice, YieldsList-from_zip}
use Rattle.std.proofs.lemmas.Iterator.Consumers.{YieldsList-at, fold_from_yields_List}
use Rattle.arith.specs.Code.Accumulators.{snr_more}
use Rattle.arith.proofs.sums.SnrSums.each.Goals as goal

pub returns : goal.returns
returns c = fold_from_yields_List _ snr_more _ _ c.fold.ensures.ran (YieldsList-from_zip (YieldsList-at c.zip.ensures.first (YieldsList-from_slice c.args.opens.now cc)) (YieldsList-from_slice c.args.closes.now cc)) (λ a x b q k. search rules)
