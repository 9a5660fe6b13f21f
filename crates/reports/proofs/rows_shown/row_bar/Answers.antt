use Rattle.reports.proofs.RowEnds.{row-bar}
use mathlib.Core.Path.{refl}
use Rattle.reports.proofs.rows_shown.row_bar.Goals as goal

pub returns : goal.returns
returns c = row-bar c.args.p c.args.at _ refl refl refl refl refl refl refl refl
