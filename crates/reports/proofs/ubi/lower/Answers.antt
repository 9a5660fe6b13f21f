use Rattle.reports.proofs.UbiLaws.{one_left, one_right}
use Rattle.reports.proofs.ubi.lower.Goals as goal

pub returns-then-l-b : goal.returns-then-l-b
returns-then-l-b c = one_left _ _ _ c.if-l-b.true

pub returns : goal.returns
returns c = one_right _ _ _ c.if-l-b.false
