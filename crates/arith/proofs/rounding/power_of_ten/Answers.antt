use Rattle.std.proofs.Common.{ℕ, ◌^◌, pos, ap, ◌∙◌, zero-add, rules}
use lib.Ieee.{binary64, nan, of_bits, of_int}
use Rattle.arith.proofs.RoundingLaws.{power_at}
use Rattle.arith.proofs.rounding.power_of_ten.Goals as goal

pub returns : goal.returns
unfolding of_bits of_int
returns c = power_at 0 23 c.args.k nan (search rules) ∙ ap (λ (j : ℕ). of_int binary64 (pos (10 ^ j))) (zero-add c.args.k)
