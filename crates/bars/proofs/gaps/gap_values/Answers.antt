use lib.Ieee.{of_bits}
use mathlib.Core.Path.{sym, ap, ◌∙◌}
use mathlib.Core.List.{[], ◌∷◌}
use Rattle.bars.specs.Gaps.{gap_values}
use Rattle.bars.proofs.gaps.gap_values.Goals as goal

pub returns-in-Some : goal.returns-in-Some
unfolding gap_values of_bits
returns-in-Some c = let g = c.in-Some.gap in (λ i. g.low ∷ g.high ∷ c.unwrap_or.ensures i ∷ []) ∙ ap gap_values (sym c.in-Some.is)

pub returns-in-None : goal.returns-in-None
unfolding gap_values of_bits
returns-in-None c = ap gap_values (sym c.in-None.is)
