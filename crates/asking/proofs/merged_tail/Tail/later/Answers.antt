use borrow.Author.Rules.{rules}
use native.Mathlib.Omega.{arith}
use Rattle.stores.specs.Columns.{raw_in}
use Rattle.asking.proofs.MergedTails.{can_go, later_put}
use Rattle.asking.proofs.merged_tail.Tail.later.Goals as goal

pub merge-requires : goal.merge-requires
merge-requires g c =
    let a = c.args in
    let wide = c.requires.fresh.1 in
    (search rules, can_go (raw_in a.bars) a.count _ _ 1 c.requires.holds c.start.ensures (omega arith))

pub returns : goal.returns
returns g c = let a = c.args in later_put (raw_in a.bars) a.count _ _ _ a.b c.start.ensures c.merge.ensures
