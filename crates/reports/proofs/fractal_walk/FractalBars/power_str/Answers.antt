use mathlib.Core.Path.{refl, sym, ◌∙◌}
use mathlib.Core.Bool.{true, false}
use Rattle.reports.specs.FractalAnswers.{strength_if}
use Rattle.reports.proofs.StrengthLaws.{strength_by, strength_given}
use Rattle.reports.proofs.fractal_walk.FractalBars.power_str.Goals as goal

pub returns-then-closes_beyond : goal.returns-then-closes_beyond
unfolding strength_if
returns-then-closes_beyond c = strength_given _ _ (strength_by _ true _ (sym c.closes_beyond.ensures ∙ c.if-closes_beyond.true) refl)

pub returns-then-closes_beyond-2 : goal.returns-then-closes_beyond-2
unfolding strength_if
returns-then-closes_beyond-2 c = strength_given _ _ (strength_by _ false true (sym c.closes_beyond.ensures ∙ c.if-closes_beyond.false) (sym c.closes_beyond-2.ensures ∙ c.if-closes_beyond-2.true))

pub returns : goal.returns
unfolding strength_if
returns c = strength_given _ _ (strength_by _ false false (sym c.closes_beyond.ensures ∙ c.if-closes_beyond.false) (sym c.closes_beyond-2.ensures ∙ c.if-closes_beyond-2.false))
