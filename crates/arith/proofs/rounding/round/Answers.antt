use Rattle.std.proofs.Common.{sym, ◌∙◌, subst}
use Rattle.arith.specs.RoundingParts.{FallsTo}
use Rattle.arith.proofs.FloatOrder.{yes}
use Rattle.arith.proofs.RoundingParts.{four_parts}
use Rattle.arith.proofs.PartSteps.{nearest-is, tie-is}
use Rattle.arith.proofs.rounding.round.Goals as goal

pub not_finite-requires : goal.not_finite-requires
not_finite-requires c = subst (FallsTo c.args.x) c.in-NotFinite.is c.part_of.ensures.0

pub whole-requires : goal.whole-requires
whole-requires c = subst (FallsTo c.args.x) c.in-Whole.is c.part_of.ensures.0

pub nearest-requires : goal.nearest-requires
nearest-requires c = subst (FallsTo c.args.x) c.in-Nearest.is c.part_of.ensures.0

pub tie-requires : goal.tie-requires
tie-requires c = subst (FallsTo c.args.x) c.in-Tie.is c.part_of.ensures.0

pub returns-in-NotFinite : goal.returns-in-NotFinite
returns-in-NotFinite c =
    let x = c.args.x in
    c.not_finite.ensures ∙ sym (four_parts.not_finite x (subst (FallsTo x) c.in-NotFinite.is c.part_of.ensures.0))

pub returns-in-Whole : goal.returns-in-Whole
returns-in-Whole c =
    let x = c.args.x in
    let w = subst (FallsTo x) c.in-Whole.is c.part_of.ensures.0 in
    c.whole.ensures ∙ sym (four_parts.whole x (yes _ c.well_formed.0.1) w.0 w.1 w.2)

pub returns-in-Nearest : goal.returns-in-Nearest
returns-in-Nearest c =
    let x = c.args.x in
    nearest-is x c.nearest.result (yes _ c.well_formed.0.1) (yes _ c.nearest.type_inv) (subst (FallsTo x) c.in-Nearest.is c.part_of.ensures.0) c.nearest.ensures

pub returns-in-Tie : goal.returns-in-Tie
returns-in-Tie c =
    let x = c.args.x in
    tie-is x c.tie.result (yes _ c.well_formed.0.1) (yes _ c.tie.type_inv) (subst (FallsTo x) c.in-Tie.is c.part_of.ensures.0) c.tie.ensures
