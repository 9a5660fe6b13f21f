use Rattle.std.proofs.Common.{sym, ap, ◌∙◌, subst}
use Rattle.std.specs.Float.{float_with_sign, is_sign_negative}
use lib.Ieee.{Float, binary64, add, of_bits}
use Rattle.arith.specs.RoundingParts.{TiesToAway}
use Rattle.arith.proofs.AbsoluteValue.{sign_cleared}
use Rattle.arith.proofs.FloatOrder.{yes}
use Rattle.arith.proofs.RoundingParts.{four_parts}
use Rattle.arith.proofs.PartSteps.{one_half, tie-number, tie-signed}
use Rattle.arith.proofs.rounding.tie.Goals as goal

pub copysign-requires : goal.copysign-requires
copysign-requires c = tie-number c.args.x c.requires

pub returns : goal.returns
unfolding of_bits
returns c =
    let x = c.args.x in
    subst (TiesToAway x)
    (sym (c.copysign.ensures
    ∙ ap (λ (a : Float). float_with_sign (is_sign_negative x) (add binary64 a one_half)) (c.abs.ensures.value ∙ sign_cleared x)
    ∙ tie-signed x c.requires))
    (four_parts.tie x (yes _ c.well_formed.0.1))
