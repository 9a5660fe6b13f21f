-- The end of a stroke is the first most extreme of its candidates, so every other fractal of its mark is less extreme, or equally extreme and later.
-- Assumes nothing.
use mathlib.Core.Path.{◌≡◌, sym, subst}
use mathlib.Core.Bool.{Bool, true, false, not, ◌&&◌, cond}
use mathlib.Core.List.{List, [], ◌∷◌}
use mathlib.Core.Logic.{inl, inr}
use lib.Signed.{lt_z}
use lib.Dec.{T}
use lib.Ieee.Fits.{and_i}
use Rattle.bars.specs.Lists.{All, keep_if}
use Rattle.machine.specs.Fractals.{Fractal, same_mark, beyond, fx_of, time_of}
use Rattle.machine.specs.declared.Mark.{Mark}
use Rattle.machine.specs.Strokes.{candidate}
use Rattle.machine.specs.KeptStrokes.{LessExtreme}
use Rattle.machine.proofs.Facts.{RisingFx}
use Rattle.arith.proofs.FloatOrder.{Number, decide, contra}
use Rattle.machine.proofs.Marks.{same-eq}
use Rattle.machine.proofs.FewerFractals.{beyond-all, beyond-or-eq, FirstMost}

-- e is the first most extreme of the list
abbrev pub FirstBest : Mark → Fractal → List Fractal → Type 0
FirstBest m e l = FirstMost (λ x. x) m e l

-- ---- among all fractals

-- what is known of each fractal after the start s
pub record Known (s x : Fractal) : Type 0 where
  pub number : Number (fx_of x)
  pub later : T (lt_z (time_of s) (time_of x))

module _ (s e : Fractal) (here : Number (fx_of e)) (out : T (beyond e.mark (fx_of e) (fx_of s))) (other : T (not (same_mark s.mark e.mark))) where
  -- one of e's mark that is no candidate is not beyond the start
  passed_over : (x : Fractal) → Known s x → T (not (candidate s x)) → T (same_mark e.mark x.mark) → T (beyond e.mark (fx_of e) (fx_of x))
  unfolding candidate
  passed_over x k h m =
      let q : x.mark ≡ e.mark = same-eq e.mark x.mark m in
      elim (decide (beyond e.mark (fx_of x) (fx_of s))) [
        | inl b ↦ contra (candidate s x)
            (and_i (not (same_mark s.mark x.mark)) (lt_z (time_of s) (time_of x) && beyond x.mark (fx_of x) (fx_of s)) (rw q other)
            (and_i (lt_z (time_of s) (time_of x)) (beyond x.mark (fx_of x) (fx_of s)) k.later (subst (λ z. T (beyond z (fx_of x) (fx_of s))) (sym q) b)))
            h
        | inr b ↦ beyond-all e.mark (fx_of e) (fx_of x) (fx_of s) k.number out b
      ]

  after_one : (t : Bool) (x : Fractal) (l : List Fractal) → (T (not t) → T (same_mark e.mark x.mark) → T (beyond e.mark (fx_of e) (fx_of x)))
      → Known s x → T (lt_z (time_of e) (time_of x))
      → All (λ y. T (not (beyond e.mark (fx_of y) (fx_of e)))) (cond t (x ∷ keep_if (candidate s) l) (keep_if (candidate s) l))
      → (All (λ y. T (not (beyond e.mark (fx_of y) (fx_of e)))) (keep_if (candidate s) l) → All (LessExtreme e) l) → All (LessExtreme e) (x ∷ l)
  after_one true x l h k later a r =
      (record { less = λ m. elim (beyond-or-eq e.mark (fx_of e) (fx_of x) here k.number a.0) [ inl b ↦ inr (inl b) | inr q ↦ inr (inr (q, later)) ] }, r a.1)
  after_one false x l h k later a r = (record { less = λ m. inr (inl (h tt m)) }, r a)

  after-all : (l : List Fractal) → All (Known s) l → All (λ y. T (lt_z (time_of e) (time_of y))) l
      → All (λ y. T (not (beyond e.mark (fx_of y) (fx_of e)))) (keep_if (candidate s) l) → All (LessExtreme e) l
  unfolding keep_if
  after-all [] k later a = tt
  after-all (x ∷ l) k later a = after_one (candidate s x) x l (passed_over x k.0) k.0 later.0 a (after-all l k.1 later.1)

  among_one : (t : Bool) (x : Fractal) (l : List Fractal) → (T (not t) → T (same_mark e.mark x.mark) → T (beyond e.mark (fx_of e) (fx_of x)))
      → All (Known s) (x ∷ l) → All (λ y. T (lt_z (time_of x) (time_of y))) l
      → FirstBest e.mark e (cond t (x ∷ keep_if (candidate s) l) (keep_if (candidate s) l))
      → (FirstBest e.mark e (keep_if (candidate s) l) → All (LessExtreme e) l) → All (LessExtreme e) (x ∷ l)
  among_one true x l h k later (inl f) r =
      (record { less = λ m. inl f.0 }, after-all l k.1 (subst (λ z. All (λ y. T (lt_z (time_of z) (time_of y))) l) f.0 later) f.1)
  among_one true x l h k later (inr f) r = (record { less = λ m. inr (inl f.0) }, r f.1)
  among_one false x l h k later f r = (record { less = λ m. inr (inl (h tt m)) }, r f)

  pub among : (l : List Fractal) → All (Known s) l → RisingFx l → FirstBest e.mark e (keep_if (candidate s) l) → All (LessExtreme e) l
  unfolding keep_if
  among [] k rise f = tt
  among (x ∷ l) k rise f = among_one (candidate s x) x l (passed_over x k.0) k rise.0 f (among l k.1 rise.1)
