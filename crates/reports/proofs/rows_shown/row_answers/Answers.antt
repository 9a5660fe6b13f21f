use Rattle.strokes.specs.Code.StrokeSteps.{plain_bar}
use Rattle.reports.proofs.RowEnds.{row-answers}
use Rattle.reports.proofs.rows_shown.row_answers.Goals as goal

pub returns : goal.returns
unfolding plain_bar
returns c = row-answers _ _ _ _ _ _ c.answers.ensures c.row_mark.ensures c.row_bar.ensures c.row_bar-2.ensures c.row_bar-3.ensures
