use Rattle.stores.specs.Columns.{raw_in}
use Rattle.asking.proofs.MergedTails.{merged}
use Rattle.asking.proofs.merged_tail.Tail.merge.Goals as goal

pub returns : goal.returns
returns g c =
    let a = c.args in
    let p = c.push.ensures in
    merged (raw_in a.bars) a.self.now c.requires a.b c.push.new.self p.sized p.base _ c.last_kept-before.ensures p.tail
