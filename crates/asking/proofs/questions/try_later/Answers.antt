use native.Mathlib.Omega.{arith}
use mathlib.Core.Bool.{true}
use Rattle.stores.specs.Columns.{raw_in}
use Rattle.strokes.specs.Lent.{stores_of}
use Rattle.strokes.specs.Columns.{stores_in}
use Rattle.asking.proofs.AskLaws.{can_plan, tried, bars_later, holds_unfinished, later_has}
use Rattle.asking.proofs.questions.try_later.Goals as goal

pub later-requires : goal.later-requires
unfolding stores_of
later-requires c =
    let a = c.args in
    (omega arith, ((c.new-tail.ensures, omega arith), holds_unfinished true a.stand (stores_in a.stores) (raw_in c.bars.result) c.bars.ensures c.requires.bar))

pub try_tail-requires : goal.try_tail-requires
unfolding stores_of
try_tail-requires c =
    let a = c.args in
    let m = stores_in a.stores in
    (omega arith, (can_plan true a.stand m c.requires.bar a.b _ _ (later_has a.stand m a.b _ (raw_in c.bars.result) c.bars.ensures (c.later.ensures.0, c.later.ensures.1)) (omega arith), c.requires.clear))

pub returns : goal.returns
unfolding stores_of
returns c =
    let a = c.args in
    let m = stores_in a.stores in
    tried true a.stand m c.requires.bar a.b _ _ (later_has a.stand m a.b _ (raw_in c.bars.result) c.bars.ensures (c.later.ensures.0, c.later.ensures.1)) _ (bars_later a.stand m a.b c.requires.bar.unfinished)
    c.try_tail.ensures
