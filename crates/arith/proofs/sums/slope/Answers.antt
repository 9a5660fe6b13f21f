use Rattle.arith.proofs.SumLaws.{slope-is}
use Rattle.arith.proofs.ExactDivisor.{exact_divisor}
use Rattle.arith.specs.declared.sums.SlopeSums.{SlopeSums}
use Rattle.arith.specs.declared.sums.MeanSums.{MeanSums}
use Rattle.arith.specs.Code.Accumulators.{mean_more, slope_start, slope_more, slope_end}
use mathlib.Core.List.{foldl}
use Rattle.std.proofs.Common.{ap, ◌∙◌, rules}
use Rattle.arith.proofs.sums.slope.Goals as goal

pub returns : goal.returns
returns c = let l = c.args.ys.now in (c.slope.ensures ∙ ap slope_end (c.each.ensures ∙ ap (λ (s : SlopeSums). foldl slope_more s l) (c.new-2.ensures ∙ ap slope_start (c.each-s.ensures ∙ ap (λ (s : MeanSums). foldl mean_more s l) c.new.ensures))) ∙ slope-is l (search rules), exact_divisor)
