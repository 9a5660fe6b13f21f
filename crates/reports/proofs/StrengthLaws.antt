-- The strength's label and number, by the source's tests. Assumes nothing.
use Prim.Native.Nat.{ℕ, ◌+◌}
use mathlib.Core.Path.{◌≡◌, refl, ap, sym, ◌∙◌, subst}
use mathlib.Core.Bool.{Bool, true, false, cond}
use mathlib.Core.Option.{Option, none, some, none-ne-some, some-injective}
use lib.Dec.{T}
use Rattle.machine.specs.declared.Mark.{Mark}
use Rattle.machine.specs.declared.Mark.TheVariants.{D, G}
use Rattle.bars.specs.Bars.{Merged}
use Rattle.machine.specs.Fractals.{Fractal}
use Rattle.strokes.specs.declared.Stand.{Stand}
use Rattle.strokes.specs.StateRead.{state_of}
use Rattle.strokes.specs.Lent.{Stores}
use Rattle.named.specs.ReportQuestions.{fractal_at, unfinished_at}
use Rattle.question4.specs.Question4.{question4}
use Rattle.reports.specs.declared.fractal_answers.Strength.{Strength}
use Rattle.std.proofs.Common.{Result}
use Rattle.bars.specs.declared.refusals.Question.{Question}
use Rattle.bars.specs.declared.refusals.Question.TheVariants.{Sound}
use Rattle.reports.specs.declared.fractal_answers.FractalAnswers.{FractalAnswers}
use Rattle.reports.proofs.FirstLaws.{err_ok, ok_same}
use Rattle.reports.specs.FractalAnswers.{strength_if, strength_at, power_str, label_of, strength_number, closes_beyond, power_label, IsStrength, answers_of}
use Rattle.reports.specs.NamedFractals.{answers_if, StrengthAnswered, stroke_answers_at, unfinished_answers_at}

-- by the two tests
label_if : (t u : Bool) → label_of (strength_if t u) ≡ cond t "强" (cond u "中" "弱")
unfolding label_of strength_if
label_if true u = refl
label_if false true = refl
label_if false false = refl

first_if : (t u : Bool) → T t → strength_number (strength_if t u) ≡ 2
unfolding strength_number strength_if
first_if true u h = refl
first_if false u h = absurd h

number_if : (t u : Bool) → (T t → T u) → strength_number (strength_if t u) ≡ cond t 1 0 + cond u 1 0
unfolding strength_number strength_if
number_if true true h = refl
number_if true false h = absurd (h tt)
number_if false true h = refl
number_if false false h = refl

-- the tests of either mark
tests : (k : Mark) (l m r : Merged) → let f : Fractal = record { mark = k; left = l; mid = m; right = r } in power_str f ≡ strength_if (closes_beyond f l) (closes_beyond f m)
unfolding power_str strength_at closes_beyond
tests D l m r = refl
tests G l m r = refl

-- by their outcomes
pub strength_by : (f : Fractal) (t u : Bool) → closes_beyond f f.left ≡ t → closes_beyond f f.mid ≡ u → strength_if t u ≡ power_str f
strength_by f t u e q = (λ i. strength_if (sym e i) (sym q i)) ∙ sym (tests f.mark f.left f.mid f.right)

pub strength_is : (f : Fractal) → IsStrength f (power_str f)
unfolding power_label
strength_is f =
    let t = closes_beyond f f.left in
    let u = closes_beyond f f.mid in
    let e : power_str f ≡ strength_if t u = tests f.mark f.left f.mid f.right in
    record {
      label = ap label_of e ∙ label_if t u;
      first = λ h. ap strength_number e ∙ first_if t u h;
      number = λ h. ap strength_number e ∙ number_if t u h;
    }

pub strength_given : (f : Fractal) (s : Strength) → s ≡ power_str f → (s ≡ power_str f) × IsStrength f s
strength_given f s e = (e, subst (IsStrength f) (sym e) (strength_is f))

-- by questions 4 and 13
strength_if_lem : (q : Bool) (o : Option Fractal) → StrengthAnswered o (answers_if q o)
unfolding answers_if answers_of
strength_if_lem false o x h f e = err_ok Sound x h
strength_if_lem true none x h f e = absurd (none-ne-some f e)
strength_if_lem true (some g) x h f e = subst (λ (a : FractalAnswers). IsStrength f a.power_str) (ok_same (answers_of g) x h) (subst (λ (y : Fractal). IsStrength y (power_str g)) (some-injective _ _ e) (strength_is g))

strength_answered : (q : Bool) (o : Option Fractal) (r : Result FractalAnswers Question) → r ≡ answers_if q o → StrengthAnswered o r
strength_answered q o r e = subst (StrengthAnswered o) (sym e) (strength_if_lem q o)

-- of a stroke's fractal, and of the unfinished bars'
pub stroke_strength : (s : Stand) (m : Stores) (i j : ℕ) (r : Result FractalAnswers Question) → r ≡ stroke_answers_at s m i j
    → (r ≡ stroke_answers_at s m i j) × StrengthAnswered (fractal_at (state_of s m).strokes i j) r
unfolding stroke_answers_at
stroke_strength s m i j r e = (e, strength_answered (question4 s m) (fractal_at (state_of s m).strokes i j) r e)

pub unfinished_strength : (s : Stand) (m : Stores) (j : ℕ) (r : Result FractalAnswers Question) → r ≡ unfinished_answers_at s m j
    → (r ≡ unfinished_answers_at s m j) × StrengthAnswered (unfinished_at (state_of s m).unfinished j) r
unfolding unfinished_answers_at
unfinished_strength s m j r e = (e, strength_answered (question4 s m) (unfinished_at (state_of s m).unfinished j) r e)
