-- The rows of a fractal in the fractals' columns, and a list of fractals written to them from a place on. Definitions only.
use Rattle.std.specs.Prelude.{ℕ, ◌+◌, List, [], ◌∷◌, ◌++◌, map, length, take, drop, ℤ, Float}
use Rattle.bars.specs.declared.Bar.{Bar}
use Rattle.bars.specs.Bars.{row_of}
use Rattle.machine.specs.declared.Mark.{Mark}
use Rattle.machine.specs.Fractals.{Fractal}
use Rattle.strokes.specs.Lent.{FractalStore, fractal_store}
use Rattle.strokes.specs.StateRead.{row_fractal}

-- of its three bars: the times, then the ids
unfoldable pub stamps_of : Bar → Bar → Bar → List ℤ
stamps_of a b c = a.time ∷ b.time ∷ c.time ∷ a.id ∷ b.id ∷ c.id ∷ []

-- their rows of prices, one behind the other
unfoldable pub prices_of : Bar → Bar → Bar → List Float
unfolding row_of
prices_of a b c = row_of a ++ row_of b ++ row_of c

unfoldable pub stamp_row : Fractal → List ℤ
unfolding stamps_of
stamp_row f = stamps_of f.left.bar f.mid.bar f.right.bar

unfoldable pub price_row : Fractal → List Float
unfolding prices_of
price_row f = prices_of f.left.bar f.mid.bar f.right.bar

-- the mark that a fractal's row of prices shows
unfoldable pub row_mark : List Float → Mark
unfolding row_fractal
row_mark p = (row_fractal [] p).mark

-- d with its rows from place `at` on replaced by those of l
unfoldable pub pasted : {A : Type 0} → List A → ℕ → List A → List A
pasted d at l = take at d ++ l ++ drop (at + length l) d

-- the store with these fractals from place `at` on
unfoldable pub put_fractals : FractalStore → ℕ → List Fractal → FractalStore
unfolding pasted stamp_row price_row
put_fractals s at fs = fractal_store (pasted s.stamps at (map stamp_row fs)) (pasted s.prices at (map price_row fs))
