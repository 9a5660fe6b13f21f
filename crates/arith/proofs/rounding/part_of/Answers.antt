use Rattle.std.proofs.Common.{sym, ◌∙◌}
use lib.Ieee.{of_bits, eq, ne}
use Rattle.arith.proofs.FloatOrder.{yes, no}
use Rattle.arith.proofs.RoundingParts.{four_parts}
use Rattle.arith.proofs.PartSteps.{one_half, finite-is, flip, whole_part, nearest_part, tie_part}
use Rattle.arith.proofs.rounding.part_of.Goals as goal

pub returns-then-not-is_finite : goal.returns-then-not-is_finite
returns-then-not-is_finite c = (no _ (sym (c.is_finite.ensures.value ∙ finite-is c.args.x) ∙ c.if-not-is_finite.true), four_parts)

pub returns-then-f : goal.returns-then-f
unfolding of_bits
returns-then-f c =
    let finite = yes _ (sym (c.is_finite.ensures.value ∙ finite-is c.args.x) ∙ c.if-not-is_finite.false) in
    (whole_part c.args.x c.fraction-f.result finite c.fraction-f.ensures (yes _ c.if-f.true), four_parts)

pub returns-then-f-2 : goal.returns-then-f-2
unfolding of_bits ne
returns-then-f-2 c =
    let finite = yes _ (sym (c.is_finite.ensures.value ∙ finite-is c.args.x) ∙ c.if-not-is_finite.false) in
    (nearest_part c.args.x c.fraction-f.result finite c.fraction-f.ensures (no _ c.if-f.false) (yes _ c.if-f-2.true), four_parts)

pub returns : goal.returns
unfolding of_bits ne
returns c =
    let finite = yes _ (sym (c.is_finite.ensures.value ∙ finite-is c.args.x) ∙ c.if-not-is_finite.false) in
    (tie_part c.args.x c.fraction-f.result finite c.fraction-f.ensures (yes _ (flip (eq c.fraction-f.result one_half) _ c.if-f-2.false)), four_parts)
