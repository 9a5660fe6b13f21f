use Rattle.arith.proofs.SumLaws.{snr-is}
use Rattle.arith.specs.declared.sums.SnrSums.{SnrSums}
use Rattle.arith.specs.Sums.{pairs}
use Rattle.arith.specs.Code.Accumulators.{snr_more, snr_end}
use mathlib.Core.List.{foldl}
use Rattle.std.proofs.Common.{ap, ◌∙◌}
use Rattle.arith.proofs.sums.snr.Goals as goal

pub returns : goal.returns
returns c = let a = c.args in let l = pairs a.opens.now a.closes.now in c.snr.ensures ∙ ap snr_end (c.each.ensures ∙ ap (λ (s : SnrSums). foldl snr_more s l) c.new.ensures) ∙ snr-is l
