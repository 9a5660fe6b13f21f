use borrow.Author.Rules.{rules}
use mathlib.Core.Path.{◌≡◌}
use lib.ListN.{length}
use Rattle.named.proofs.RunLengths.{run_left}
use Rattle.named.proofs.runs.run_exists.Goals as goal

pub returns : goal.returns
returns c = let a = c.args in let b : length a.stand.bars ≡ 65 = search rules in let f : length a.stand.fractals ≡ 65 = search rules in (run_left a.first a.count a.stand.strokes c.checked_sub.result c.is_some_and.result _ c.checked_sub.ensures c.is_some_and.ensures (λ x q. search rules), b, f)
