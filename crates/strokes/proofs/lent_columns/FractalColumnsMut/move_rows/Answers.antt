use Rattle.strokes.specs.Code.StrokeSteps.{copied_fractals}
use Rattle.strokes.specs.Lent.{fractal_store}
use Rattle.strokes.proofs.lent_columns.FractalColumnsMut.move_rows.Goals as goal

pub returns-clause-store : goal.returns-clause-store
unfolding copied_fractals
returns-clause-store c = λ i. fractal_store (c.move_rows.ensures i) (c.move_rows-2.ensures i)
