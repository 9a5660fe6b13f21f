use Rattle.stores.specs.Columns.{raw_in, merged_of}
use Rattle.writing.proofs.PutBars.{later-fits, again-fits, later_has, again_has}
use Rattle.writing.proofs.unfinished_moves.put_bar.Goals as goal

pub put_merged-requires : goal.put_merged-requires
put_merged-requires c = let a = c.args in later-fits a.stand _ _ a.b a.later c.requires c.if-later.true

pub returns-then-later-clause-has : goal.returns-then-later-clause-has
returns-then-later-clause-has c = let a = c.args in later_has a.stand (raw_in a.raw) (merged_of a.unfinished.now) a.b a.later _ _ c.if-later.true c.put_merged.ensures.has

pub put_again-requires : goal.put_again-requires
put_again-requires c = let a = c.args in
    let p = c.requires in
    let e = c.if-later.false in
    record { fact_1 = p.rising; fact_2 = p.replaces e; fact_3 = again-fits a.stand _ _ a.b a.later p e }

pub returns-clause-has : goal.returns-clause-has
returns-clause-has c = let a = c.args in again_has a.stand (raw_in a.raw) (merged_of a.unfinished.now) a.b a.later _ _ c.if-later.false c.put_again.ensures.has
