use Rattle.bars.proofs.GapPairs.{among_short, among_none, among_pair, lent_from}
use Rattle.bars.specs.Gaps.{gap_of}
use lib.ListN.{get_or}
use mathlib.Core.List.{[], List}
use mathlib.Core.Path.{◌∙◌, ap}
use lib.Ieee.{Float}
use Rattle.std.proofs.Common.{◌+◌}
use borrow.Author.Rules.{rules}
use Rattle.bars.proofs.gaps.gap_among.Goals.{then-prices-n-via-then-prices-n, then-prices-n-via-else-prices-n+then-pairs-i}
use Rattle.bars.proofs.gaps.gap_among.Goals as goal

pub returns-then-prices-n : goal.returns-then-prices-n
returns-then-prices-n c =
    let s = c.args in
    elim c.then-prices-n.branch [
      | then-prices-n-via-then-prices-n w ↦ among_short s.places s.prices.now s.n s.i w.if-prices-n.true
      | then-prices-n-via-else-prices-n+then-pairs-i w ↦ among_none s.places s.prices.now s.n s.i (search rules) (search rules)
    ]

pub returns : goal.returns
returns c =
    let s = c.args in
    let here = ap (λ (r : List (List Float)). gap_of s.places (get_or s.prices.now s.i []) (get_or s.prices.now (s.i + 1) []) r) (lent_from s.prices.now (s.i + 1) s.n (search rules)) in
    among_pair s.places s.prices.now s.n s.i _ (search rules) (search rules) (c.gap_of.ensures ∙ here)
