use mathlib.Core.Path.{refl}
use Rattle.strokes.specs.Packed.{numbers_of, numbers_with, counts_with}
use Rattle.strokes.proofs.packed.pack.Goals as goal

pub returns : goal.returns
unfolding numbers_with counts_with numbers_of
returns c = (refl, refl)
