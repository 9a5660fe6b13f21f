use Rattle.bars.proofs.Including.{included_up, included_down, included_level, included_apart}
use mathlib.Core.Path.{◌∙◌, sym}
use Rattle.bars.proofs.merging.remove_include_bar.Goals as goal

pub returns-then-not-contains : goal.returns-then-not-contains
returns-then-not-contains c = included_apart _ _ _ (sym c.contains.ensures ∙ c.if-not-contains.true)

pub returns-then-k1_high-k2 : goal.returns-then-k1_high-k2
returns-then-k1_high-k2 c = included_up _ _ _ _ c.merged_up.ensures (sym c.contains.ensures ∙ c.if-not-contains.false) c.if-k1_high-k2.true

pub returns-then-k2-k1_high : goal.returns-then-k2-k1_high
returns-then-k2-k1_high c = included_down _ _ _ _ c.merged_down.ensures (sym c.contains.ensures ∙ c.if-not-contains.false) c.if-k1_high-k2.false c.if-k2-k1_high.true

pub returns : goal.returns
returns c = included_level _ _ _ (sym c.contains.ensures ∙ c.if-not-contains.false) c.if-k1_high-k2.false c.if-k2-k1_high.false
