use Rattle.csv_text.proofs.NumeralLaws.{sign_none, minus_none, minus_some}
use Rattle.csv_text.proofs.numerals.number_at.Goals as goal

pub returns-in_default : goal.returns-in_default
returns-in_default c = sign_none _ _ c.in_default.ensures c.unsigned_at.ensures

pub returns-in_err-number : goal.returns-in_err-number
returns-in_err-number c = rw c.from_residual.ensures (minus_none _ _ c.in-Some.ensures c.in_err-number.ensures)

pub returns : goal.returns
returns c = minus_some _ _ c.in-Some.ensures _ _ c.in_ok-number.ensures
