use Rattle.zones.specs.Code.GrowingRun.{goes_of}
use Rattle.zones.proofs.runs_of_strokes.GrowingRun.is_bis_down.Goals as goal

pub returns : goal.returns
unfolding goes_of
returns c = c.goes.ensures
