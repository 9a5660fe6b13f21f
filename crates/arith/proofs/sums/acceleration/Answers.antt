use Rattle.arith.proofs.SumLaws.{acceleration-is}
use Rattle.arith.specs.declared.sums.FitSums.{FitSums}
use Rattle.arith.specs.Code.Accumulators.{fit_more, fit_end}
use mathlib.Core.List.{foldl}
use Rattle.std.proofs.Common.{ap, ◌∙◌}
use Rattle.arith.proofs.sums.acceleration.Goals as goal

pub returns : goal.returns
returns c = let l = c.args.ys.now in c.acceleration.ensures ∙ ap fit_end (c.each.ensures ∙ ap (λ (s : FitSums). foldl fit_more s l) c.new.ensures) ∙ acceleration-is l
