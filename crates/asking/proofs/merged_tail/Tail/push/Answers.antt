use mathlib.Core.Path.{◌∙◌}
use Rattle.asking.proofs.merged_tail.Tail.push.Goals as goal

pub returns-clause-tail : goal.returns-clause-tail
returns-clause-tail g c = c.merge_rows-self.ensures

pub returns-clause-sized : goal.returns-clause-sized
returns-clause-sized g c =
    let s = c.merge_rows-self.auto in
    let h = c.requires.0 in
    record { times = s.times ∙ h.times; ids = s.ids ∙ h.ids; prices = s.prices ∙ h.prices }
