-- What is answered of a stroke that is named by its place, question by question. Assumes nothing.
use Prim.Native.Nat.{ℕ, ◌+◌, ◌≤◌, ◌<◌}
use native.Mathlib.Omega.{arith}
use mathlib.Core.Path.{◌≡◌, refl, ap, sym, ◌∙◌, subst}
use mathlib.Core.Bool.{Bool, true, false}
use mathlib.Core.List.{List, []}
use mathlib.Core.Option.{some}
use lib.IntN.{ℤ}
use lib.Ieee.{Float}
use lib.Dec.{ltb}
use lib.ListN.{length, get_or}
use borrow.Author.Tests.{ltb-true, ltb-false}
use Rattle.stores.specs.Stores.{bar_of}
use Rattle.machine.specs.declared.Mark.{Mark}
use Rattle.machine.specs.declared.Mark.TheVariants.{D, G}
use Rattle.machine.specs.Fractals.{Fractal}
use Rattle.machine.specs.Strokes.{Stroke}
use Rattle.strokes.specs.declared.Stand.{Stand}
use Rattle.strokes.specs.StateRead.{row_bar, fractal_of, row_fractal, no_fractal, state_of}
use Rattle.strokes.specs.Lent.{Stores}
use Rattle.question4.specs.Question4.{question4}
use Rattle.named.specs.declared.stroke_rows.StrokeRows.{StrokeRows}
use Rattle.std.proofs.Common.{Result, Ok, Err, IsErrAnd}
use Rattle.bars.specs.declared.refusals.Question.{Question}
use Rattle.bars.specs.declared.refusals.Question.TheVariants.{Exists}
use Rattle.reports.specs.declared.measures.Measures.{Measures}
use Rattle.reports.specs.Code.FirstQuestions.{asked_rows}
use Rattle.reports.proofs.FirstLaws.{rows_no}
use Rattle.reports.specs.Measures.{measures_of}
use Rattle.reports.specs.declared.fractal_answers.FractalAnswers.{FractalAnswers}
use Rattle.reports.specs.FractalAnswers.{strength_at, power_str, fractal_volume, has_zs, answers_of}
use Rattle.reports.specs.NamedFractals.{answers_if, stroke_answers_at}
use Rattle.named.specs.ReportQuestions.{nth, fractals_of, fractal_at}
use Rattle.reports.specs.NamedStrokes.{measures_if, measures_at}
use Rattle.named.specs.Code.NamedRows.{stroke_in, RowsStand}
use Rattle.reports.proofs.StrokeColumns.{Lends}
use Rattle.named.proofs.StrokeAt.{nth-none, nth-at}

module _ (s : Stand) (m : Stores) (i : ℕ) where
  pub measures_refused : (e : Question) (r : Result Measures Question) → length s.bars ≡ 65 → length s.fractals ≡ 65 → IsErrAnd r (λ y. y ≡ e) → Err e ≡ asked_rows s m i → r ≡ measures_at s m i
  unfolding measures_at measures_if
  measures_refused e r lb lf h g = rows_no s m i e r (λ q o. measures_if q s.power_places s.ratio_places (state_of s m).raw o) refl refl lb lf h g

  pub measures_given : (x : Measures) (b : Stroke) → x ≡ measures_of s.power_places s.ratio_places (state_of s m).raw b → question4 s m ≡ true → nth (state_of s m).strokes i ≡ some b → Ok x ≡ measures_at s m i
  unfolding measures_at measures_if
  measures_given x b e q n = ap Ok e ∙ (λ j. measures_if (sym q j) s.power_places s.ratio_places (state_of s m).raw (sym n j))

-- ---- a stroke's fractals

-- no answer asks a stamp
strength_stamps : (k : Mark) (t : List ℤ) (p : List Float) → strength_at k (row_fractal t p) ≡ strength_at k (row_fractal [] p)
unfolding strength_at row_fractal fractal_of row_bar bar_of
strength_stamps D t p = refl
strength_stamps G t p = refl

answers-stamps : (t : List ℤ) (p : List Float) → answers_of (row_fractal t p) ≡ answers_of (row_fractal [] p)
unfolding answers_of power_str fractal_volume has_zs row_fractal fractal_of row_bar bar_of
answers-stamps t p = λ i. record {
  power_str = strength_stamps (row_fractal [] p).mark t p i;
  power_volume = fractal_volume (row_fractal [] p);
  has_zs = has_zs (row_fractal [] p);
}

-- its rows lie in the column of the fractals' prices
pub answers_fit : (s : Stand) (m : Stores) (i : ℕ) (w : StrokeRows) → Lends s m i w → RowsStand w (length m.fractals.prices) × (length m.fractals.prices ≤ 65536)
answers_fit s m i w h =
    let e = h.facts.fractals.prices in
    (subst (RowsStand w) (sym e) h.stands, rw e h.facts.room-strokes.to)

module _ (s : Stand) (m : Stores) (i j : ℕ) where
  pub answers_refused : (e : Question) (r : Result FractalAnswers Question) → length s.bars ≡ 65 → length s.fractals ≡ 65 → IsErrAnd r (λ y. y ≡ e) → Err e ≡ asked_rows s m i → r ≡ stroke_answers_at s m i j
  unfolding stroke_answers_at answers_if fractal_at fractals_of nth
  answers_refused e r lb lf h g = rows_no s m i e r (λ q o. answers_if q (nth (fractals_of o) j)) refl refl lb lf h g

  -- a kept stroke: the fractal is missing, or in its row
  pub answers_in : (r : Result FractalAnswers Question) (w : StrokeRows) → Lends s m i w → question4 s m ≡ true
      → (w.fractals ≤ j → r ≡ Err Exists)
      → (j < w.fractals → r ≡ Ok (answers_of (row_fractal [] (get_or m.fractals.prices (w.first + j) []))))
      → r ≡ stroke_answers_at s m i j
  unfolding stroke_answers_at answers_if fractal_at fractals_of
  answers_in r w h q none_here here =
      by_place (ltb j w.fractals) refl ∙ (λ k. answers_if (sym q k) (nth (fractals_of (sym h.is k)) j))
    where
      by_place : (t : Bool) → ltb j w.fractals ≡ t → r ≡ answers_if true (nth (stroke_in m w).fractals j)
      by_place false e =
          none_here (ltb-false j w.fractals e) ∙ ap (answers_if true) (sym (nth-none (stroke_in m w).fractals j (omega (arith, ltb-false j w.fractals e, h.many))))
      by_place true e =
          let l = ltb-true j w.fractals e in
          here l
          ∙ ap Ok (sym (answers-stamps (get_or m.fractals.stamps (w.first + j) []) (get_or m.fractals.prices (w.first + j) [])))
          ∙ ap (λ (f : Fractal). answers_if true (some f)) (sym (h.row j no_fractal l))
          ∙ ap (answers_if true) (sym (nth-at (stroke_in m w).fractals j no_fractal (omega (arith, l, h.many))))
