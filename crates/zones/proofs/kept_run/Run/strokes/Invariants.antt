use mathlib.Core.Path.{◌≡◌}
use lib.ListN.{length, take}
use Rattle.strokes.specs.Columns.{fractals_in}
use Rattle.zones.specs.Code.StrokesRead.{read_run}
use Rattle.zones.proofs.kept_run.Run.strokes.Given as goal

abbrev pub invariant-loop-j : goal.invariant-loop-j
invariant-loop-j l = (length l.strokes ≡ 64) × (take l.j l.strokes ≡ read_run l.self.stand (fractals_in l.self.fractals) l.self.first l.j)
