use Rattle.question4.proofs.Question4Passed.{is-sound}
use Rattle.reports.proofs.FirstLaws.{passed}
use Rattle.reports.proofs.ListFacts.{extend_no, extend_yes}
use Rattle.reports.proofs.finished.last_bi_extend.Goals as goal

pub returns-in_err-ask_sound : goal.returns-in_err-ask_sound
returns-in_err-ask_sound c = extend_no _ _ _ _ c.from_residual.ensures.1 c.in_err-ask_sound.ensures.value

pub last_extends-requires : goal.last_extends-requires
last_extends-requires c = is-sound _ _ (passed _ _ _ c.in_ok-ask_sound.ensures.value)

pub returns : goal.returns
returns c = extend_yes _ _ _ (passed _ _ _ c.in_ok-ask_sound.ensures.value) c.last_extends.ensures
