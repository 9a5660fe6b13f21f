use Rattle.std.proofs.Common.{sym, ap, ◌∙◌, rules}
use mir.Syntax.{w32}
use mir.ValLaws.{to_z-of_z}
use Rattle.csv_text.specs.Code.Fields.{bar_in}
use Rattle.csv_text.proofs.Quotients.{one_division}
use Rattle.csv_text.proofs.BothWays.{reads-back}
use Rattle.csv_text.proofs.TextAnswers.{text_far, text_18, text_19, text_fits, text_read}
use Rattle.csv_text.proofs.records.bar_of_text.Goals as goal

pub returns-in_default : goal.returns-in_default
returns-in_default c = (text_far _ _ (search rules), reads-back, one_division)

pub returns-in_default-fields_at : goal.returns-in_default-fields_at
returns-in_default-fields_at c = let a = c.args in (text_18 a.place a.text.now (search rules) c.in_default-fields_at.ensures, reads-back, one_division)

pub returns-then-not-few_digits : goal.returns-then-not-few_digits
returns-then-not-few_digits c = let a = c.args in (text_19 a.place a.text.now (search rules) _ _ c.in-Some.ensures (sym c.if-not-few_digits.ensures), reads-back, one_division)

pub bar_of-requires : goal.bar_of-requires
bar_of-requires c = let a = c.args in text_fits a.place a.text.now (search rules) _ _ c.in-Some.ensures (sym c.if-not-few_digits.ensures)

pub returns : goal.returns
returns c = let a = c.args in (text_read a.place a.text.now (search rules) _ _ c.in-Some.ensures _ (sym c.if-not-few_digits.ensures) (c.bar_of.ensures ∙ ap (λ z. bar_in z c.in-Some.fields) (to_z-of_z w32 _ (search rules) ∙ c.in-Ok.ensures.1)), reads-back, one_division)
