use Rattle.zones.specs.Code.GrowingRun.{begun}
use lib.Ieee.{of_bits, div, neg}
use Rattle.zones.proofs.runs_of_strokes.GrowingRun.start.Goals as goal

pub returns : goal.returns
unfolding of_bits div neg begun
returns c = rw (c.max.ensures, c.min.ensures)
