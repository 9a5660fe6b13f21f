use mathlib.Core.Path.{refl}
use Rattle.reports.proofs.RowEnds.{end_is}
use Rattle.reports.proofs.rows_shown.end_at.Goals as goal

pub returns : goal.returns
returns c = end_is _ _ c.row_mark-mark.ensures refl refl
