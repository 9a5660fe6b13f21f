use Rattle.strokes.specs.Code.StrokeSteps.{shifted}
use Rattle.bars.specs.Lists.{copied}
use Rattle.strokes.proofs.strokes_store.one_down.Goals as goal

pub returns : goal.returns
unfolding shifted copied
returns c = c.copy_within.ensures.after
