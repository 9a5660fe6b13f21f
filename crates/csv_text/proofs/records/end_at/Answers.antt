use Rattle.std.proofs.Common.{rules}
use Rattle.csv_text.proofs.RecordLaws.{end_of_text, end_no_cr, end-crlf}
use Rattle.csv_text.proofs.records.end_at.Goals as goal

pub returns-then-is_empty : goal.returns-then-is_empty
returns-then-is_empty c = end_of_text c.args.text (search rules)

pub returns-in_err-behind : goal.returns-in_err-behind
returns-in_err-behind c = rw c.from_residual.ensures (end_no_cr c.args.text.now (search rules) c.in_err-behind.ensures)

pub returns : goal.returns
returns c = end-crlf _ _ _ c.in_ok-behind.ensures c.behind-2.ensures
