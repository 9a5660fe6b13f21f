use Rattle.bars.proofs.Including.{one_more}
use mir.ValLaws.{to_z-of_z}
use mir.Syntax.{w64}
use borrow.Author.Rules.{rules}
use Rattle.bars.proofs.merging.with_element.Goals as goal

pub returns : goal.returns
returns c = (one_more _ c.args.k2 _ _ _ (to_z-of_z w64 c.args.time c.ranges.time) c.min-kept.ensures (search rules), search rules)
