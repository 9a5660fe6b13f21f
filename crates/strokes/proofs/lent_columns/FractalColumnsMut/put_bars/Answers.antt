use Rattle.strokes.specs.Lent.{fractal_store}
use Rattle.strokes.specs.Columns.{fractals_of}
use Rattle.strokes.specs.Code.StrokeSteps.{set_fractal}
use lib.ListN.{set}
use Rattle.strokes.proofs.lent_columns.FractalColumnsMut.put_bars.Goals as goal

pub returns-clause-store : goal.returns-clause-store
unfolding set_fractal
returns-clause-store c =
    let at = c.args.at in
    let s = fractals_of c.args.self.now in
    λ i. fractal_store (set s.stamps at (c.stamps_of.ensures i)) (set s.prices at (c.prices_of.ensures i))
