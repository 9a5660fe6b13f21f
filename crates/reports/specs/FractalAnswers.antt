-- The three answers of a fractal, as fx.rs has them: strength, volume, and whether its three bars overlap. Definitions only.
use Rattle.std.specs.Prelude.{ℕ, ◌+◌, Bool, true, false, cond, [], ◌∷◌, ◌≡◌, T, Float}
use Rattle.std.specs.Float.Ieee.{lt, le}
use Prim.Native.Char.{Char}
use Rattle.arith.specs.Sums.{sum_of}
use Rattle.machine.specs.declared.Mark.{Mark}
use Rattle.machine.specs.declared.Mark.TheVariants.{D, G}
use Rattle.reports.specs.declared.fractal_answers.Strength.{Strength}
use Rattle.reports.specs.declared.fractal_answers.Strength.TheVariants.{Strong, Medium, Weak}
use Rattle.reports.specs.declared.fractal_answers.FractalAnswers.{FractalAnswers}
use Rattle.bars.specs.Bars.{Merged}
use Rattle.machine.specs.Fractals.{Fractal}
use Rattle.named.specs.Folds.{greatest, least}

-- ---- strength (power_str)

-- by whether the third bar closes beyond the first one, and whether it closes beyond the second
unfoldable pub strength_if : Bool → Bool → Strength
strength_if true m = Strong
strength_if false true = Medium
strength_if false false = Weak

-- after a bottom, the third bar's close above the first bar's high is strong, above the second's medium; after a top, below their lows
unfoldable pub strength_at : Mark → Fractal → Strength
unfolding strength_if lt
strength_at D f = strength_if (lt f.left.bar.high f.right.bar.close) (lt f.mid.bar.high f.right.bar.close)
strength_at G f = strength_if (lt f.right.bar.close f.left.bar.low) (lt f.right.bar.close f.mid.bar.low)

unfoldable pub power_str : Fractal → Strength
unfolding strength_at
power_str f = strength_at f.mark f

-- the label that fx.rs gives for each case
unfoldable pub label_of : Strength → Char
label_of Strong = "强"
label_of Medium = "中"
label_of Weak = "弱"

-- a number for each case, ours: document 01 gives none
unfoldable pub strength_number : Strength → ℕ
strength_number Weak = 0
strength_number Medium = 1
strength_number Strong = 2

-- fx.rs' test of the third bar's close against the first or the second bar
unfoldable pub closes_beyond : Fractal → Merged → Bool
unfolding lt
closes_beyond f k = elim f.mark [ D ↦ lt k.bar.high f.right.bar.close | G ↦ lt f.right.bar.close k.bar.low ]

-- fx.rs' label, by its tests in its order
unfoldable pub power_label : Fractal → Char
unfolding closes_beyond
power_label f = cond (closes_beyond f f.left) "强" (cond (closes_beyond f f.mid) "中" "弱")

-- s is the strength of f. Its label is fx.rs'. Its number is 2 where the third bar closes beyond the first, and unless that is the only one it is how many of
-- the first two bars the third closes beyond.
pub record IsStrength (f : Fractal) (s : Strength) : Type 0 where
  pub label : label_of s ≡ power_label f
  pub first : T (closes_beyond f f.left) → strength_number s ≡ 2
  pub number : (T (closes_beyond f f.left) → T (closes_beyond f f.mid)) → strength_number s ≡ cond (closes_beyond f f.left) 1 0 + cond (closes_beyond f f.mid) 1 0

-- ---- volume (power_volume): the vol of the three bars, added

unfoldable pub fractal_volume : Fractal → Float
unfolding sum_of
fractal_volume f = sum_of (f.left.bar.vol ∷ f.mid.bar.vol ∷ f.right.bar.vol ∷ [])

-- ---- overlap (has_zs): the greatest low is at most the least high

unfoldable pub has_zs : Fractal → Bool
unfolding le greatest least
has_zs f =
    le (greatest (f.left.bar.low ∷ f.mid.bar.low ∷ f.right.bar.low ∷ []))
    (least (f.left.bar.high ∷ f.mid.bar.high ∷ f.right.bar.high ∷ []))

unfoldable pub answers_of : Fractal → FractalAnswers
unfolding power_str fractal_volume has_zs
answers_of f = record { power_str = power_str f; power_volume = fractal_volume f; has_zs = has_zs f }
