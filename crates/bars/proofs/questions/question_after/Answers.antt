use Rattle.std.proofs.Common.{arith}
use Rattle.std.proofs.lemmas.Grind.{common_steps}
use mathlib.Core.Bool.{true, false}
use Rattle.bars.proofs.Asked.{after, after_refused}
use mathlib.Core.Path.{◌≡◌, ◌∙◌, ap, sym}
use lib.Signed.{le_z}
use Rattle.bars.specs.Questions.{not_earlier}
use Rattle.std.proofs.lemmas.Result.{err_from_is_err_and}
use Rattle.bars.proofs.questions.question_after.Goals as goal

pub returns-in_err-question_of_bar : goal.returns-in_err-question_of_bar
returns-in_err-question_of_bar c = let p = err_from_is_err_and c.from_residual.result c.from_residual.ensures.1 in rw (p.1, p.2) (after_refused c.args.last c.args.b c.in_err-question_of_bar.field-0.0 c.in_err-question_of_bar.ensures)

pub returns-in-Some : goal.returns-in-Some
unfolding not_earlier
returns-in-Some c = let later : le_z c.in-Some.t c.args.b.time ≡ false = grind (arith, common_steps) in after _ _ (sym c.in_ok-question_of_bar.ensures) false (ap (λ o. not_earlier o c.args.b) c.in-Some.is ∙ later)

pub returns-in_default : goal.returns-in_default
unfolding not_earlier
returns-in_default c = let later : le_z c.in-Some.t c.args.b.time ≡ true = grind (arith, common_steps) in after _ _ (sym c.in_ok-question_of_bar.ensures) true (ap (λ o. not_earlier o c.args.b) c.in-Some.is ∙ later)

pub returns-in_default-2 : goal.returns-in_default-2
unfolding not_earlier
returns-in_default-2 c = after _ _ (sym c.in_ok-question_of_bar.ensures) true (ap (λ o. not_earlier o c.args.b) c.in_default.is)
