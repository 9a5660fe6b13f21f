use Rattle.sound.specs.FreshStand.{empty_stand}
use borrow.Author.Rules.{rules}
use Rattle.sound.proofs.fresh_stand.Settings.empty_stand.Goals as goal

pub returns : goal.returns
unfolding empty_stand
returns c = search rules
