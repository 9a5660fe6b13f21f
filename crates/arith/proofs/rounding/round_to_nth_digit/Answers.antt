use Rattle.std.proofs.Common.{ℕ, ◌^◌, pos, ap, ◌∙◌}
use lib.Ieee.{Float, binary64, mul, div, of_int}
use Rattle.arith.specs.Rounding.{round_away, ten_to, round_to}
use Rattle.arith.proofs.RoundingPlaces.{seven-places}
use Rattle.arith.proofs.rounding.round_to_nth_digit.Goals as goal

pub returns : goal.returns
unfolding round_to ten_to
returns c =
    let v = c.args.v in
    let scale = c.power_of_ten-scale.ensures ∙ ap (λ (d : ℕ). of_int binary64 (pos (10 ^ d))) c.min.ensures in
    (ap (λ (r : Float). div binary64 r c.power_of_ten-scale.result) c.round.ensures ∙ ap (λ (t : Float). div binary64 (round_away (mul binary64 v t)) t) scale, seven-places)
