use mathlib.Core.Path.{◌∙◌}
use Rattle.reports.proofs.FirstLaws.{asked_is}
use Rattle.reports.proofs.first_questions.ask_sound.Goals as goal

pub returns-clause-value : goal.returns-clause-value
returns-clause-value c = c.ask.ensures ∙ asked_is _
