use Rattle.named.specs.Code.NamedRows.{end_row}
use borrow.Author.Rules.{rules}
use Rattle.named.proofs.stroke_rows.StrokeRows.end_row.Goals as goal

pub returns : goal.returns
unfolding end_row
returns c = search rules
