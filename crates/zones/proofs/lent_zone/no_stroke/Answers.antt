use borrow.Author.Rules.{rules}
use lib.Ieee.{div, neg, of_bits}
use Rattle.zones.specs.Zones.{no_stroke}
use Rattle.zones.proofs.lent_zone.no_stroke.Goals as goal

pub returns : goal.returns
unfolding div no_stroke neg of_bits
returns c = search rules
