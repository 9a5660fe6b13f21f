use Rattle.question4.proofs.Question4Passed.{is-sound}
use Rattle.reports.proofs.FirstLaws.{passed}
use Rattle.reports.proofs.UbiFacts.{ubi_no, ubi_yes}
use Rattle.reports.proofs.ubi.get_ubi.Goals as goal

pub returns-in_err-ask_sound : goal.returns-in_err-ask_sound
returns-in_err-ask_sound c = ubi_no _ _ _ _ c.from_residual.ensures.1 c.in_err-ask_sound.ensures.value

pub summary-requires : goal.summary-requires
summary-requires c = is-sound _ _ (passed _ _ _ c.in_ok-ask_sound.ensures.value)

pub returns : goal.returns
returns c = ubi_yes _ _ _ (passed _ _ _ c.in_ok-ask_sound.ensures.value) c.summary.ensures
