use Rattle.zones.proofs.ListedZoneLaws.{none-counted, last-counted}
use Rattle.zones.proofs.zone_writing.zone_count.Goals as goal

pub returns-in-None : goal.returns-in-None
returns-in-None c = none-counted c.args.built.now c.in-None.ensures.item.3

pub returns-in-Some : goal.returns-in-Some
returns-in-Some c = last-counted c.args.built.now _ c.in-Some.ensures.item.3.0 (c.in-Some.ensures.item.3.1 _)
