use mathlib.Core.Path.{ap, ◌∙◌}
use Rattle.machine.specs.Strokes.{direction_of}
use Rattle.strokes.proofs.fractal_rows.row_direction.Goals as goal

pub returns : goal.returns
returns c = c.direction_of.ensures ∙ ap direction_of c.row_mark.ensures
