use Rattle.csv_text.proofs.NumeralLaws.{next-some, next-none}
use Rattle.csv_text.proofs.numerals.next_at.Goals as goal

pub returns-in_err-behind : goal.returns-in_err-behind
returns-in_err-behind c = rw c.from_residual.ensures (next-none _ c.in_err-behind.ensures)

pub returns : goal.returns
returns c = next-some _ _ _ c.in_ok-behind.ensures c.field_at.ensures
