use Rattle.bars.proofs.GapPairs.{listed_4, listed_14, listed_0, column_turn, lent_from}
use Rattle.bars.proofs.Moves.{copied_none}
use Rattle.bars.specs.Gaps.{gap_columns, gap_number, gap_values, gap_covered, written, gap_of}
use Rattle.std.proofs.Common.{◌≡◌, ◌+◌, ◌-◌}
use lib.ListN.{get_or}
use mathlib.Core.List.{[], List}
use mathlib.Core.Path.{◌∙◌, ap}
use lib.Ieee.{Float}
use borrow.Author.Rules.{rules}
use Rattle.bars.proofs.gaps.list_gaps.Goals as goal

pub returns-then-prices-n : goal.returns-then-prices-n
returns-then-prices-n c = let s = c.args in listed_4 s.places s.prices.now s.n (gap_columns s.kinds.now s.values.now s.covered.now) (search rules)

pub returns-then-room-m : goal.returns-then-room-m
returns-then-room-m c = let s = c.args in listed_14 s.places s.prices.now s.n (gap_columns s.kinds.now s.values.now s.covered.now) (search rules) (search rules)

pub loop-i-init : goal.loop-i-init
loop-i-init c = record { kinds = copied_none _ _ 0 0; values = copied_none _ _ 0 0; covered = copied_none _ _ 0 0 }

pub loop-i-preserved : goal.loop-i-preserved
loop-i-preserved c =
    let s = c.args in
    let l = c.loop-i in
    let ps = s.prices.now in
    let e = c.gap_of-g.ensures ∙ ap (λ (r : List (List Float)). gap_of s.places (get_or ps l.i []) (get_or ps (l.i + 1) []) r) (lent_from ps (l.i + 1) s.n (search rules)) in
    record {
      kinds = column_turn gap_number s.places ps s.n l.i _ _ _ _ (search rules) (search rules) (search rules) e c.gap_number.ensures l.invariant.kinds;
      values = column_turn gap_values s.places ps s.n l.i _ _ _ _ (search rules) (search rules) (search rules) e c.gap_values.ensures l.invariant.values;
      covered = column_turn gap_covered s.places ps s.n l.i _ _ _ _ (search rules) (search rules) (search rules) e c.gap_covered.ensures l.invariant.covered;
    }

pub returns : goal.returns
unfolding written
returns c =
    let s = c.args in
    let l = c.loop-i in
    let e : l.i ≡ s.n - 1 = search rules in
    let v = l.invariant in
    listed_0 s.places s.prices.now s.n (gap_columns s.kinds.now s.values.now s.covered.now) (search rules) _ (search rules) (search rules) (search rules)
    (λ i. record { kinds = (rw e at v.kinds) i; values = (rw e at v.values) i; covered = (rw e at v.covered) i })
