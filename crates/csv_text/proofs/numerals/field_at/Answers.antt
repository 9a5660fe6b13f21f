use Rattle.csv_text.proofs.NumeralLaws.{field_plain, field_bad, field_open, field_closed}
use Rattle.csv_text.proofs.numerals.field_at.Goals as goal

pub returns-in_default : goal.returns-in_default
returns-in_default c = field_plain _ _ c.in_default.ensures c.number_at.ensures

pub returns-in_err-n : goal.returns-in_err-n
returns-in_err-n c = rw c.from_residual.ensures (field_bad _ _ c.in-Some.ensures c.in_err-n.ensures)

pub returns-in_err-rest : goal.returns-in_err-rest
returns-in_err-rest c =
    rw c.from_residual-in_err-rest.ensures (field_open _ _ c.in-Some.ensures _ _ c.in_ok-n.ensures c.in_err-rest.ensures)

pub returns : goal.returns
returns c = field_closed _ _ c.in-Some.ensures _ _ _ c.in_ok-n.ensures c.in_ok-rest.ensures
