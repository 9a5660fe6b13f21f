use mathlib.Core.Path.{ap, ◌∙◌}
use Rattle.strokes.specs.Lent.{stores_of}
use Rattle.reports.specs.Code.FractalWalk.{plain_if}
use Rattle.reports.proofs.FirstLaws.{passed}
use Rattle.reports.proofs.UnfinishedAt.{seek_fits, unfinished_refused, unfinished_none, unfinished_given}
use Rattle.reports.proofs.StrengthLaws.{unfinished_strength}
use Rattle.reports.proofs.asked_fractals.unfinished_fractal_answers.Goals as goal

pub returns-in_err-ask_sound : goal.returns-in_err-ask_sound
returns-in_err-ask_sound c = unfinished_strength _ _ _ _ (unfinished_refused _ _ _ _ _ c.from_residual.ensures.1 c.in_err-ask_sound.ensures.value)

pub fractal_at-requires : goal.fractal_at-requires
unfolding stores_of
fractal_at-requires c = rw c.bars-bars.ensures (seek_fits _ _ (passed _ _ _ c.in_ok-ask_sound.ensures.value))

pub returns-in_default : goal.returns-in_default
unfolding stores_of plain_if
returns-in_default c = unfinished_strength _ _ _ _ (unfinished_none _ _ _ (rw c.bars-bars.ensures at (c.fractal_at.ensures ∙ ap plain_if c.in_default.is)) (passed _ _ _ c.in_ok-ask_sound.ensures.value))

pub returns : goal.returns
unfolding stores_of plain_if
returns c = unfinished_strength _ _ _ _ (unfinished_given _ _ _ _ _ c.answers.ensures (rw c.bars-bars.ensures at (c.fractal_at.ensures ∙ ap plain_if c.in-Some.is)) (passed _ _ _ c.in_ok-ask_sound.ensures.value))
