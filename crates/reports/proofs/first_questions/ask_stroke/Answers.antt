use native.Mathlib.Omega.{arith}
use Rattle.question4.proofs.Question4Passed.{is-sound}
use Rattle.reports.proofs.FirstLaws.{passed, rows_unsound, rows_missing, rows_given}
use Rattle.reports.proofs.StrokeColumns.{rows-small}
use Rattle.reports.proofs.first_questions.ask_stroke.Goals as goal

pub returns-in_err-ask_sound-clause-value : goal.returns-in_err-ask_sound-clause-value
returns-in_err-ask_sound-clause-value c = rows_unsound _ _ _ _ _ c.from_residual.ensures.1 c.in_err-ask_sound.ensures.value

pub returns-then-kept-place-clause-value : goal.returns-then-kept-place-clause-value
returns-then-kept-place-clause-value c = rows_missing _ _ _ _ _ c.kept.ensures.0 c.in_ok-ask_sound.ensures.value c.if-kept-place.true

pub of-requires : goal.of-requires
of-requires c = let k = c.kept.ensures in
    let asked = rows-small _ _ _ (is-sound _ _ (passed _ _ _ c.in_ok-ask_sound.ensures.value)) (let e = k.0 in let h = c.if-kept-place.false in omega arith) k.1 k.2 in record { fact_1 = asked.0; fact_2 = asked.1 }

pub returns-clause-value : goal.returns-clause-value
returns-clause-value c = rows_given _ _ _ _ _ _ c.kept.ensures.0 c.in_ok-ask_sound.ensures.value (let h = c.if-kept-place.false in omega arith) c.of.ensures.0
