use Rattle.std.proofs.Common.{ℕ, ◌+◌, ◌/◌, ◌^◌, false, ap, ◌∙◌, arith, le→leb}
use lib.Ieee.{binary64, round, add, of_int, in_float}
use lib.Ieee.Positive.{num, den, den_pos}
use Rattle.arith.proofs.FloatOrder.{yes}
use Rattle.arith.proofs.RoundSteps.{twice, above_minus, below_top, sum_wide, whole_is, whole-small, half_law}
use Rattle.arith.proofs.rounding.half_up.Goals as goal

pub truncating_f64_to_u64-d-requires : goal.truncating_f64_to_u64-d-requires
truncating_f64_to_u64-d-requires c = let a = c.args.a in
    let v = twice a c.requires.fact_1 (yes _ c.well_formed.0.1) c.requires.fact_2 in
    record { lower_bound = above_minus (add binary64 a a) (num a + num a) (den a) v; upper_bound = below_top 64 (add binary64 a a) (num a + num a) (den a) (den_pos a) v (sum_wide a c.requires.fact_1 (yes _ c.well_formed.0.1) c.requires.fact_2) }

pub overflow_add-h : goal.overflow_add-h
overflow_add-h c =
    omega (arith, c.truncating_f64_to_u64-d.ensures, whole-small c.args.a c.requires.fact_1 (yes _ c.well_formed.0.1) c.requires.fact_2)

pub int_to_float-result : goal.int_to_float-result
unfolding in_float
int_to_float-result c =
    le→leb ((c.truncating_f64_to_u64-d.result + 1) / 2) (2 ^ 53) (omega (arith, c.truncating_f64_to_u64-d.ensures, whole-small c.args.a c.requires.fact_1 (yes _ c.well_formed.0.1) c.requires.fact_2))

pub returns : goal.returns
unfolding of_int
returns c =
    let a = c.args.a in
    ap (λ (z : ℕ). round binary64 false ((z + 1) / 2) 1) (c.truncating_f64_to_u64-d.ensures ∙ whole_is a c.requires.fact_1 (yes _ c.well_formed.0.1) c.requires.fact_2)
    ∙ ap (λ (z : ℕ). round binary64 false z 1) (half_law (num a) (den a) (den_pos a))
