use Rattle.strokes.specs.Packed.{packed}
use borrow.Author.Rules.{rules}
use Rattle.strokes.proofs.packed.unpack.Goals as goal

pub returns : goal.returns
unfolding packed
returns c = search rules
