-- Laws that the questions' functions cite: the tests asked one after the other. Assumes nothing.
use mathlib.Core.Path.{◌≡◌, refl, ◌∙◌}
use mathlib.Core.Bool.{Bool, true, false, ◌&&◌, cond}
use mathlib.Core.Option.{none, some}
use Rattle.std.specs.Prelude as Std
use native.Mathlib.Omega.{arith}
use lib.IntN.{ℤ}
use Rattle.bars.specs.declared.Bar.{Bar}
use Rattle.bars.specs.declared.refusals.Question.{Question}
use Rattle.bars.specs.declared.refusals.Question.TheVariants.{MinimumLength, MostStrokes, Rooms, Sound, Time, Prices, Volumes, LowAtMostHigh, NotEarlier, RawRoom, UnfinishedRoom, StrokeRoom, Exists, OutputRoom, Summary, Places, Record, Digits}
use Rattle.bars.specs.Refusals.{number}
use Rattle.bars.specs.Questions.{question5, question6, question7, question8, question9, first_no, first_failed, first_failed_after, not_earlier}

-- ---- tests asked one after the other

pub and_no : (p q : Bool) → p ≡ false → false ≡ p && q
and_no p q a = rw a

-- ---- the first that fails

module _ (b : Bar) where
  pub fails_5 : question5 b ≡ false → 5 ≡ first_failed none b
  unfolding first_failed
  fails_5 p = rw p

  pub fails_6 : question5 b ≡ true → question6 b ≡ false → 6 ≡ first_failed none b
  unfolding first_failed
  fails_6 p q = rw (p, q)

  pub fails_7 : question5 b ≡ true → question6 b ≡ true → question7 b ≡ false → 7 ≡ first_failed none b
  unfolding first_failed
  fails_7 p q r = rw (p, q, r)

  pub fails_8 : question5 b ≡ true → question6 b ≡ true → question7 b ≡ true → question8 b ≡ false → 8 ≡ first_failed none b
  unfolding first_failed
  fails_8 p q r s = rw (p, q, r, s)

  pub fails_none : question5 b ≡ true → question6 b ≡ true → question7 b ≡ true → question8 b ≡ true → 0 ≡ first_failed none b
  unfolding first_failed
  fails_none p q r s = rw (p, q, r, s)

-- one of the first four that fails is the first that fails, whatever the fifth says
early : (p q r s t : Bool) → (first_no p q r s true ≡ 0 → ⊥) → first_no p q r s true ≡ first_no p q r s t
unfolding first_no
early false q r s t h = refl
early true false r s t h = refl
early true true false s t h = refl
early true true true false t h = refl
early true true true true t h = absurd (h refl)

-- where none of the first four fails, the fifth decides
late : (p q r s t : Bool) → first_no p q r s true ≡ 0 → cond t 0 9 ≡ first_no p q r s t
unfolding first_no
late false q r s t h = absurd (omega arith)
late true false r s t h = absurd (omega arith)
late true true false s t h = absurd (omega arith)
late true true true false t h = absurd (omega arith)
late true true true true true h = refl
late true true true true false h = refl

-- ---- the last accepted bar by its time alone

pub after_none : (b : Bar) → first_failed_after Std.None b ≡ first_failed none b
unfolding first_failed_after first_failed not_earlier question9
after_none b = refl

pub after-some : (r b : Bar) → first_failed_after (Std.Some r.time) b ≡ first_failed (some r) b
unfolding first_failed_after first_failed not_earlier question9
after-some r b = refl

-- a bar that fails one of 5 to 8 fails it before question 9 is asked
pub after-failed : (last : Std.Option ℤ) (b : Bar) → (first_failed none b ≡ 0 → ⊥) → first_failed none b ≡ first_failed_after last b
unfolding first_failed_after first_failed question9
after-failed last b h = early (question5 b) (question6 b) (question7 b) (question8 b) (not_earlier last b) h

-- what question 9 adds to a bar that passes 5 to 8
pub after : (last : Std.Option ℤ) (b : Bar) → first_failed none b ≡ 0 → (v : Bool) → not_earlier last b ≡ v → cond v 0 9 ≡ first_failed_after last b
unfolding first_failed_after first_failed question9
after last b passed v e = rw (← e) (late (question5 b) (question6 b) (question7 b) (question8 b) (not_earlier last b) passed)

-- no question has the number 0
pub above : (q : Question) → number q ≡ 0 → ⊥
above MinimumLength e = absurd (omega arith)
above MostStrokes e = absurd (omega arith)
above Rooms e = absurd (omega arith)
above Sound e = absurd (omega arith)
above Time e = absurd (omega arith)
above Prices e = absurd (omega arith)
above Volumes e = absurd (omega arith)
above LowAtMostHigh e = absurd (omega arith)
above NotEarlier e = absurd (omega arith)
above RawRoom e = absurd (omega arith)
above UnfinishedRoom e = absurd (omega arith)
above StrokeRoom e = absurd (omega arith)
above Exists e = absurd (omega arith)
above OutputRoom e = absurd (omega arith)
above Summary e = absurd (omega arith)
above Places e = absurd (omega arith)
above Record e = absurd (omega arith)
above Digits e = absurd (omega arith)

pub after_refused : (last : Std.Option ℤ) (b : Bar) (q : Question) → number q ≡ first_failed none b → number q ≡ first_failed_after last b
after_refused last b q e = e ∙ after-failed last b (λ z. above q (e ∙ z))
