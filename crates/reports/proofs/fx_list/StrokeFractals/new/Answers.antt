use Rattle.strokes.specs.StateRead.{stored_fractals}
use Rattle.strokes.specs.Columns.{fractals_in}
use Rattle.reports.specs.Code.FxListing.{strokes_left}
use Rattle.reports.proofs.FxLaws.{strokes-all}
use Rattle.reports.proofs.fx_list.StrokeFractals.new.Goals as goal

pub returns-clause-left : goal.returns-clause-left
unfolding strokes_left
returns-clause-left c = let a = c.args in strokes-all a.bars.now a.fractals.now (stored_fractals (fractals_in a.kept))
