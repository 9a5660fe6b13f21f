use Rattle.strokes.specs.Lent.{stores_of}
use Rattle.reports.proofs.FirstLaws.{passed}
use Rattle.reports.proofs.GapLaws.{gaps_no, gaps-refused, gaps_yes}
use Rattle.reports.proofs.gaps.check_gaps.Goals as goal

pub returns-in_err-ask_sound : goal.returns-in_err-ask_sound
returns-in_err-ask_sound c = gaps_no _ _ _ _ _ c.from_residual.ensures.1 c.in_err-ask_sound.ensures.value

pub returns-in_err-list_gaps : goal.returns-in_err-list_gaps
unfolding stores_of
returns-in_err-list_gaps c = gaps-refused _ _ _ _ _ _ c.from_residual-in_err-list_gaps.ensures.1 (passed _ _ _ c.in_ok-ask_sound.ensures.value) c.in_err-list_gaps.ensures

pub returns : goal.returns
unfolding stores_of
returns c = gaps_yes _ _ _ _ _ (passed _ _ _ c.in_ok-ask_sound.ensures.value) c.in_ok-list_gaps.ensures c.pairs.ensures
