use borrow.Author.Rules.{rules}
use Rattle.zones.specs.Code.StrokesRead.{summary_from}
use Rattle.zones.proofs.reading.summary_from.Goals as goal

pub returns : goal.returns
unfolding summary_from
returns c = rw (c.direction_of.ensures, c.max.ensures, c.min.ensures) (search rules)
