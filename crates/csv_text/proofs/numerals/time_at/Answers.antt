use Rattle.csv_text.proofs.NumeralLaws.{time-none, time-is, time_point}
use Rattle.csv_text.proofs.numerals.time_at.Goals as goal

pub returns-in_err-n : goal.returns-in_err-n
returns-in_err-n c = rw c.from_residual.ensures (time-none _ c.in_err-n.ensures)

pub returns-then-n-eq0 : goal.returns-then-n-eq0
returns-then-n-eq0 c = time-is _ _ _ c.in_ok-n.ensures c.if-n-eq0.true

pub returns-else-n-eq0 : goal.returns-else-n-eq0
returns-else-n-eq0 c = time_point _ _ _ c.in_ok-n.ensures c.if-n-eq0.false
