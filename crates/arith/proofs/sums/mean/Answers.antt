use Rattle.arith.proofs.SumLaws.{mean_is}
use Rattle.arith.specs.declared.sums.MeanSums.{MeanSums}
use Rattle.arith.specs.Code.Accumulators.{mean_more, mean_end}
use mathlib.Core.List.{foldl}
use Rattle.std.proofs.Common.{ap, ◌∙◌, rules}
use Rattle.arith.proofs.sums.mean.Goals as goal

pub returns : goal.returns
returns c = let l = c.args.ys.now in c.mean.ensures ∙ ap mean_end (c.each.ensures ∙ ap (λ (s : MeanSums). foldl mean_more s l) c.new.ensures) ∙ mean_is l (search rules)
