use mathlib.Core.Bool.{not}
use mathlib.Core.Path.{refl, ap, sym, ◌∙◌}
use Rattle.machine.specs.declared.Mark.TheVariants.{D, G}
use Rattle.machine.specs.Fractals.{same_mark}
use Rattle.strokes.specs.Lent.{FractalStore}
use Rattle.std.specs.Prelude.{Some}
use Prim.Native.Nat.{◌+◌}
use Rattle.strokes.specs.Code.StrokeSteps.{put_fractal, put_if, last_of}
use Rattle.strokes.proofs.StoredFractals.{is_taken}
use Rattle.strokes.proofs.lent_columns.FractalColumnsMut.put_fractal.Goals as goal

pub returns-then-eq-clause-store : goal.returns-then-eq-clause-store
unfolding put_fractal put_if last_of same_mark
returns-then-eq-clause-store c =
    let a = c.args in
    rw (is_taken _ (elim [ D ↦ elim [ D ↦ refl | G ↦ refl ] | G ↦ elim [ D ↦ refl | G ↦ refl ] ]) a.w.last a.m ∙ ap not (sym c.eq.ensures ∙ c.if-eq.true))

pub returns-clause-store : goal.returns-clause-store
unfolding put_fractal put_if last_of same_mark
returns-clause-store c =
    let a = c.args in
    rw (is_taken _ (elim [ D ↦ elim [ D ↦ refl | G ↦ refl ] | G ↦ elim [ D ↦ refl | G ↦ refl ] ]) a.w.last a.m ∙ ap not (sym c.eq.ensures ∙ c.if-eq.false))
    (ap (λ (s : FractalStore). record { store = s; written = record { count = a.w.count + 1; last = Some a.m } }) c.put_bars.ensures.store)
