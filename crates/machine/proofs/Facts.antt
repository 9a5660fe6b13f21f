-- The words of the proofs: windows of three bars, times that rise, marks that alternate, and what holds of a stroke once it is made.
-- Assumes nothing.
use mathlib.Core.Path.{◌≡◌}
use mathlib.Core.Bool.{Bool, not}
use mathlib.Core.List.{List, [], ◌∷◌, ◌++◌}
use mathlib.Core.Option.{none}
use lib.Signed.{lt_z}
use lib.Dec.{T}
use Rattle.bars.specs.declared.Bar.{Bar}
use Rattle.bars.specs.Bars.{Merged}
use Rattle.bars.specs.Lists.{All}
use Rattle.machine.specs.declared.Mark.{Mark}
use Rattle.machine.specs.declared.Mark.TheVariants.{D, G}
use Rattle.machine.specs.Fractals.{Fractal, time_of, same_mark, is_top, is_bottom}
use Rattle.machine.specs.Strokes.{Stroke}
use Rattle.machine.specs.KeptStrokes.{LessExtreme}
use Rattle.machine.proofs.FewerFractals.{Alternate}

-- the times of fractals rise strictly
abbrev pub RisingFx : List Fractal → Type 0
RisingFx [] = Unit {0}
RisingFx (x ∷ l) = All (λ y. T (lt_z (time_of x) (time_of y))) l × RisingFx l

-- the middle bar stands out in the way of the mark
unfoldable pub shape : Mark → Bar → Bar → Bar → Bool
unfolding is_top is_bottom
shape D a b c = is_bottom a b c
shape G a b c = is_top a b c

-- the bars begin with the fractal f's first two, and a third that leaves it a fractal
abbrev pub Begins : Fractal → List Merged → Type 0
Begins f [] = ⊥
Begins f (a ∷ []) = ⊥
Begins f (a ∷ b ∷ []) = ⊥
Begins f (a ∷ b ∷ c ∷ l) = (a ≡ f.left) × (b ≡ f.mid) × T (shape f.mark a.bar b.bar c.bar)

-- nothing, or one fractal: what may follow the end of a stroke in its list
pub data AtMostOne : List Fractal → Type 0 where
  nothing : AtMostOne []
  one : (c : Fractal) → AtMostOne (c ∷ [])

-- a stroke goes from its start to an end of the other mark; its list begins with the start, and at most one fractal follows the end; marks alternate; and the end
-- is the first most extreme
pub record Good (b : Stroke) : Type 0 where
  pub turns : T (not (same_mark b.start.mark b.end.mark))
  pub before : List Fractal
  pub more : List Fractal
  pub few : AtMostOne more
  pub listed : b.fractals ≡ b.start ∷ before ++ b.end ∷ more
  pub alternate : Alternate none (b.start ∷ before ++ b.end ∷ more)
  pub extreme : All (LessExtreme b.end) b.fractals
