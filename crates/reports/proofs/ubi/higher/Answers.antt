use Rattle.reports.proofs.UbiLaws.{one_left, one_right}
use Rattle.reports.proofs.ubi.higher.Goals as goal

pub returns-then-b-h : goal.returns-then-b-h
returns-then-b-h c = one_left _ _ _ c.if-b-h.true

pub returns : goal.returns
returns c = one_right _ _ _ c.if-b-h.false
