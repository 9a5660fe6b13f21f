use Rattle.std.proofs.Common.{false, sym, ap, ◌∙◌, subst}
use Rattle.std.specs.Float.{float_with_sign, is_sign_negative}
use lib.Ieee.{Float, binary64, round}
use lib.Ieee.Positive.{num, den}
use Rattle.arith.specs.Rounding.{half_up}
use Rattle.arith.specs.RoundingParts.{ToNearest}
use Rattle.arith.proofs.AbsoluteValue.{sign_cleared}
use Rattle.arith.proofs.FloatOrder.{yes}
use Rattle.arith.proofs.RoundingParts.{four_parts}
use Rattle.arith.proofs.PartSteps.{near-small, near-number, near-signed}
use Rattle.arith.proofs.rounding.nearest.Goals as goal

pub half_up-requires : goal.half_up-requires
half_up-requires c = let g = near-small c.args.x (yes _ c.well_formed.0.1) c.requires in
    rw (c.abs.ensures.value ∙ sign_cleared c.args.x) (record { fact_1 = g.above; fact_2 = g.below })

pub copysign-requires : goal.copysign-requires
copysign-requires c = near-number c.args.x c.requires

pub returns : goal.returns
returns c =
    let x = c.args.x in
    subst (ToNearest x)
    (sym (c.copysign.ensures
    ∙ ap (float_with_sign (is_sign_negative x)) (c.half_up.ensures ∙ ap (λ (a : Float). round binary64 false (half_up (num a) (den a)) 1) (c.abs.ensures.value ∙ sign_cleared x))
    ∙ near-signed x c.requires))
    (four_parts.nearest x (yes _ c.well_formed.0.1))
