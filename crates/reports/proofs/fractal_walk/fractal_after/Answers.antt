use mathlib.Core.Bool.{not}
use mathlib.Core.Path.{refl, ap, sym, ◌∙◌}
use Rattle.machine.specs.declared.Mark.TheVariants.{D, G}
use Rattle.machine.specs.Fractals.{same_mark}
use Rattle.strokes.specs.Code.StrokeSteps.{plain_bar}
use Rattle.strokes.proofs.StoredFractals.{is_taken}
use Rattle.reports.proofs.WalkLaws.{mark_is, window_none, window_passed, window_taken}
use Rattle.reports.proofs.fractal_walk.fractal_after.Goals as goal

pub returns-in_err-mark : goal.returns-in_err-mark
unfolding plain_bar
returns-in_err-mark c = λ l. rw c.from_residual.ensures (window_none _ _ _ _ l (mark_is _ c.args.a c.args.b c.args.c c.of.ensures c.of-2.ensures c.of-3.ensures c.in_err-mark.ensures))

pub returns-then-eq : goal.returns-then-eq
unfolding same_mark plain_bar
returns-then-eq c =
    λ l. window_passed _ _ _ _ l _ (mark_is _ c.args.a c.args.b c.args.c c.of.ensures c.of-2.ensures c.of-3.ensures c.in_ok-mark.ensures)
    (is_taken _ (elim [ D ↦ elim [ D ↦ refl | G ↦ refl ] | G ↦ elim [ D ↦ refl | G ↦ refl ] ]) c.args.last _ ∙ ap not (sym c.eq.ensures ∙ c.if-eq.true))

pub returns : goal.returns
unfolding same_mark plain_bar
returns c =
    λ l. window_taken _ _ _ _ l _ (mark_is _ c.args.a c.args.b c.args.c c.of.ensures c.of-2.ensures c.of-3.ensures c.in_ok-mark.ensures)
    (is_taken _ (elim [ D ↦ elim [ D ↦ refl | G ↦ refl ] | G ↦ elim [ D ↦ refl | G ↦ refl ] ]) c.args.last _ ∙ ap not (sym c.eq.ensures ∙ c.if-eq.false))
