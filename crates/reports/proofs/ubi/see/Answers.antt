use Rattle.reports.proofs.UbiLaws.{see-more, see-first}
use Rattle.reports.proofs.ubi.see.Goals as goal

pub returns-in_default : goal.returns-in_default
returns-in_default c = see-first c.args.seen c.args.b c.in_default.is

pub returns : goal.returns
returns c = see-more c.args.seen _ c.args.b _ _ c.in-Some.is c.higher-high.ensures c.lower-low.ensures
