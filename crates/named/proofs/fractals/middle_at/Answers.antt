use Rattle.named.specs.Code.NamedRows.{middle_at}
use borrow.Author.Rules.{rules}
use Rattle.named.proofs.fractals.middle_at.Goals as goal

pub returns : goal.returns
unfolding middle_at
returns c = search rules
