use Rattle.zones.specs.Code.GrowingRun.{more_of}
use Rattle.zones.proofs.runs_of_strokes.GrowingRun.more.Goals as goal

pub returns : goal.returns
unfolding more_of
returns c = rw (c.longer.ensures, c.in_order_with.ensures, c.max.ensures, c.min.ensures)
