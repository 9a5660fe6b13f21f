use Rattle.arith.proofs.SumLaws.{sum_is}
use Rattle.arith.specs.declared.sums.MeanSums.{MeanSums}
use Rattle.arith.specs.Code.Accumulators.{mean_more}
use mathlib.Core.List.{foldl}
use Rattle.std.proofs.Common.{ap, ◌∙◌, rules}
use Rattle.arith.proofs.sums.sum.Goals as goal

pub returns : goal.returns
returns c = let l = c.args.ys.now in ap (λ (s : MeanSums). s.sum) (c.each.ensures ∙ ap (λ (s : MeanSums). foldl mean_more s l) c.new.ensures) ∙ sum_is l (search rules)
