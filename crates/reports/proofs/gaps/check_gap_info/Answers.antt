use Rattle.strokes.specs.Lent.{stores_of}
use Rattle.reports.proofs.FirstLaws.{passed}
use Rattle.reports.proofs.GapLaws.{pair_no, pair_yes, pair_listed}
use Rattle.reports.proofs.gaps.check_gap_info.Goals as goal

pub returns-in_err-ask_sound : goal.returns-in_err-ask_sound
returns-in_err-ask_sound c = let e = pair_no _ _ _ _ _ c.from_residual.ensures.1 c.in_err-ask_sound.ensures.value in record { report = e; listed = pair_listed _ _ _ _ e }

pub returns : goal.returns
unfolding stores_of
returns c = let e = pair_yes _ _ _ _ (passed _ _ _ c.in_ok-ask_sound.ensures.value) c.gap_among.ensures in record { report = e; listed = pair_listed _ _ _ _ e }
