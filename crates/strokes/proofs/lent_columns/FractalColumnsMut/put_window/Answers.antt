use mathlib.Core.Path.{sym, ◌∙◌}
use Rattle.check_bi.specs.Code.Scan.{mark_of}
use Rattle.strokes.specs.Code.StrokeSteps.{plain_bar}
use Rattle.strokes.proofs.StoredFractals.{put_marked, window_put}
use Rattle.strokes.proofs.lent_columns.FractalColumnsMut.put_window.Goals as goal

pub returns-in-Some-clause-store : goal.returns-in-Some-clause-store
unfolding plain_bar put_marked
returns-in-Some-clause-store c =
    c.put_fractal.ensures.store ∙ sym (window_put _ _ _ _ _ _ (c.in-Some.ensures ∙ (λ i. mark_of (c.of.ensures i) (c.of-2.ensures i) (c.of-3.ensures i))))

pub returns-in-None-clause-store : goal.returns-in-None-clause-store
unfolding plain_bar put_marked
returns-in-None-clause-store c =
    sym (window_put _ _ _ _ _ _ (c.in-None.ensures ∙ (λ i. mark_of (c.of.ensures i) (c.of-2.ensures i) (c.of-3.ensures i))))
