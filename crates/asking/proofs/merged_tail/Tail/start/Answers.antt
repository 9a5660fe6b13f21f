use native.Mathlib.Omega.{arith}
use Rattle.stores.specs.Columns.{raw_in}
use Rattle.asking.proofs.MergedTails.{one_kept, started_none, started-one}
use Rattle.asking.proofs.merged_tail.Tail.start.Goals as goal

pub overflow_sub-self : goal.overflow_sub-self
overflow_sub-self g c = let more = (one_kept c.args.n (raw_in c.args.bars) _ c.in-Some.ensures).0 in omega arith

pub returns-in-Some : goal.returns-in-Some
returns-in-Some g c =
    let a = c.args in
    let p = c.push.ensures in
    let fresh = c.requires.fresh in
    started-one (raw_in a.bars) a.n _ p.sized _ _ _ c.requires.holds fresh.1 fresh.0.rows c.in-Some.ensures p.base p.tail

pub returns-in_default : goal.returns-in_default
returns-in_default g c =
    let a = c.args in
    let fresh = c.requires.fresh.0 in
    started_none (raw_in a.bars) a.n a.self.now fresh.sized c.in_default.ensures fresh.base fresh.rows
