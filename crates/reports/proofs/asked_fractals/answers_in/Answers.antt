use native.Mathlib.Omega.{arith}
use Rattle.std.proofs.Common.{Ok, ap, refl}
use Rattle.reports.proofs.asked_fractals.answers_in.Goals as goal

pub returns-then-rows-place : goal.returns-then-rows-place
returns-then-rows-place c = (λ h. refl, λ h. let g = c.if-rows-place.true in let w : ⊥ = omega arith in absurd w)

pub returns : goal.returns
returns c = (λ h. let g = c.if-rows-place.false in let w : ⊥ = omega arith in absurd w, λ h. ap Ok c.row_answers.ensures)
