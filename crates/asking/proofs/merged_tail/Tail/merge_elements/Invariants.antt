use lib.ListN.{take}
use Rattle.stores.specs.Stores.{raw_bars}
use Rattle.stores.specs.Columns.{raw_in}
use Rattle.asking.proofs.MergedTails.{TailGoing}
use Rattle.asking.proofs.merged_tail.Tail.merge_elements.Given as goal

abbrev pub invariant-loop-t : goal.invariant-loop-t
invariant-loop-t g l = TailGoing (raw_in l.bars) l.initial.self (take l.kept (raw_bars (raw_in l.raw))) l.elements l.t-index l.self
