use Rattle.std.proofs.lemmas.Result.{err_from_is_err_and}
use Rattle.csv_text.proofs.Quotients.{one_division}
use Rattle.csv_text.proofs.BothWays.{reads-back}
use Rattle.csv_text.proofs.TextAnswers.{record-refused, record-asked, record-failed}
use Rattle.csv_text.proofs.records.read_record.Goals as goal

pub returns-in_err-bar : goal.returns-in_err-bar
returns-in_err-bar c =
    let p = err_from_is_err_and c.from_residual.result c.from_residual.ensures.1 in
    rw (p.1, p.2) (record-refused _ _ _ c.in_err-bar.ensures.0, reads-back, one_division)

pub returns-in_err-question_of_bar : goal.returns-in_err-question_of_bar
returns-in_err-question_of_bar c =
    let p = err_from_is_err_and c.from_residual-in_err-question_of_bar.result c.from_residual-in_err-question_of_bar.ensures.1 in
    rw (p.1, p.2) (record-failed _ _ _ _ c.in_ok-bar.ensures.0 _ c.in_err-question_of_bar.ensures, reads-back, one_division)

pub returns : goal.returns
returns c = (record-asked _ _ _ _ c.in_ok-bar.ensures.0 c.in_ok-question_of_bar.ensures, reads-back, one_division)
