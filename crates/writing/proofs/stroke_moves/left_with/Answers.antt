use native.Mathlib.Omega.{arith}
use mathlib.Core.Bool.{Bool}
use mathlib.Core.Path.{ap, sym, ◌∙◌}
use Rattle.strokes.specs.Code.BarSteps.{with_unfinished, without_last}
use Rattle.writing.specs.Code.WriteSteps.{left_stand}
use Rattle.writing.proofs.stroke_moves.left_with.Goals as goal

pub overflow_sub-left : goal.overflow_sub-left
overflow_sub-left c = let one = c.requires (sym c.is_some.ensures ∙ c.if-is_some.true) in omega arith

pub returns-then-is_some : goal.returns-then-is_some
unfolding with_unfinished without_last left_stand
returns-then-is_some c = let a = c.args in ap (λ (t : Bool). with_unfinished (left_stand t a.stand) a.n) (sym (sym c.is_some.ensures ∙ c.if-is_some.true))

pub returns-else-is_some : goal.returns-else-is_some
unfolding with_unfinished without_last left_stand
returns-else-is_some c = let a = c.args in ap (λ (t : Bool). with_unfinished (left_stand t a.stand) a.n) (sym (sym c.is_some.ensures ∙ c.if-is_some.false))
