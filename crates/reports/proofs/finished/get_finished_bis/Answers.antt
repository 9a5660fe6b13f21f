use Rattle.reports.proofs.FirstLaws.{passed}
use Rattle.reports.proofs.ListFacts.{finished_no, finished_yes, finished_runs}
use Rattle.reports.proofs.finished.get_finished_bis.Goals as goal

pub returns-in_err-ask_sound : goal.returns-in_err-ask_sound
returns-in_err-ask_sound c = let e = finished_no _ _ _ _ c.from_residual.ensures.1 c.in_err-ask_sound.ensures.value in record { value = e; count_value = finished_runs _ _ _ e }

pub returns : goal.returns
returns c = let k = c.in_ok-ask_sound.ensures in let e = finished_yes _ _ k.bars k.fractals (passed _ _ _ k.value) _ c.finished_count.ensures in record { value = e; count_value = finished_runs _ _ _ e }
