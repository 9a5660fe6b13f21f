use Rattle.std.proofs.Common.{sym, ap, ◌∙◌, subst}
use Rattle.std.specs.Float.{fract}
use lib.Ieee.{binary64}
use Rattle.arith.specs.Code.RoundingTests.{IsFraction}
use Rattle.arith.proofs.FloatOrder.{yes}
use Rattle.arith.proofs.PartSteps.{fraction-is}
use Rattle.arith.proofs.rounding.fraction.Goals as goal

pub returns : goal.returns
returns c = subst (IsFraction c.args.x) (sym (c.fract.ensures ∙ ap (fract binary64) c.abs.ensures.value)) (fraction-is c.args.x (yes _ c.well_formed.0.1))
