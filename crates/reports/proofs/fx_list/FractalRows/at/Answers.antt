use mathlib.Core.Path.{◌∙◌}
use Rattle.reports.proofs.FxLaws.{rows-back}
use Rattle.reports.proofs.fx_list.FractalRows.at.Goals as goal

pub returns : goal.returns
returns c = c.new.ensures.rows ∙ rows-back _ _ c.new.ensures.six c.new.ensures.eighteen
