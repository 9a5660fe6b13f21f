use Rattle.std.proofs.Common.{◌-◌, sym, ap, ◌∙◌, subst, Option, Some}
use Rattle.check_bi.specs.declared.scan.FoundBi.{FoundBi}
use Rattle.check_bi.specs.Code.Scan.{found_on, found_from, FoundFits}
use Rattle.check_bi.specs.Code.View.{places}
use Rattle.check_bi.proofs.ScanFound.{found_fits}
use Rattle.check_bi.proofs.view.View.check_bi.Goals as goal

pub returns-in_err-scan-clause-value : goal.returns-in_err-scan-clause-value
unfolding found_on found_from
returns-in_err-scan-clause-value c = c.from_residual.ensures ∙ ap (found_on c.args.minimum) (sym c.in_err-scan.was ∙ c.scan.ensures.value)

pub returns-clause-value : goal.returns-clause-value
unfolding found_on found_from
returns-clause-value c = c.found_bi.ensures ∙ ap (found_on c.args.minimum) (sym c.in_ok-scan.was ∙ c.scan.ensures.value)

pub returns-clause-small : goal.returns-clause-small
unfolding found_on
returns-clause-small c =
    let total = places c.args.self - c.args.lo in
    subst (λ (r : Option FoundBi). FoundFits r total) (sym c.found_bi.ensures) (found_fits c.args.minimum total (Some c.in_ok-scan.field-0) c.in_ok-scan.ensures.small)
