-- Questions 13 and 14 of document 01, which every report asks: what is named by a place, and whether the answer fits the output buffer. Definitions only.
use Rattle.std.specs.Prelude.{ℕ, zero, suc, ◌+◌, Bool, List, [], ◌∷◌, length, take, drop, ltb, leb}
use Rattle.std.proofs.Math.Option.{Option, none, some}
use Rattle.bars.specs.Bars.{Merged}
use Rattle.machine.specs.Fractals.{Fractal, check_fxs}
use Rattle.machine.specs.Strokes.{Stroke}

-- ---- a place in a list, the oldest at 0

unfoldable pub exists : {A : Type 0} → List A → ℕ → Bool
exists l i = ltb i (length l)

unfoldable pub nth : {A : Type 0} → List A → ℕ → Option A
nth [] i = none
nth (a ∷ l) zero = some a
nth (a ∷ l) (suc i) = nth l i

-- ---- question 13: do the named strokes and fractals exist?

-- a stroke is named by its place, oldest 0
unfoldable pub stroke_exists : List Stroke → ℕ → Bool
unfolding exists
stroke_exists bs i = exists bs i

-- a run is named by its first place and its length; an empty run exists if its first place is at most the count
unfoldable pub run_exists : List Stroke → ℕ → ℕ → Bool
run_exists bs first count = leb (first + count) (length bs)

unfoldable pub run_of : {A : Type 0} → List A → ℕ → ℕ → List A
run_of bs first count = take count (drop first bs)

-- a fractal is named by its stroke and its place in that stroke's list
unfoldable pub fractals_of : Option Stroke → List Fractal
fractals_of none = []
fractals_of (some b) = b.fractals

unfoldable pub fractal_exists : List Stroke → ℕ → ℕ → Bool
unfolding exists fractals_of nth
fractal_exists bs i j = exists (fractals_of (nth bs i)) j

unfoldable pub fractal_at : List Stroke → ℕ → ℕ → Option Fractal
unfolding fractals_of nth
fractal_at bs i j = nth (fractals_of (nth bs i)) j

-- or by its place among the unfinished bars' fractals
unfoldable pub unfinished_exists : List Merged → ℕ → Bool
unfolding exists check_fxs
unfinished_exists l j = exists (check_fxs l) j

unfoldable pub unfinished_at : List Merged → ℕ → Option Fractal
unfolding nth check_fxs
unfinished_at l j = nth (check_fxs l) j

-- ---- question 14: has the output buffer enough places for the items?

unfoldable pub question14 : {A : Type 0} → List A → ℕ → Bool
question14 items places = leb (length items) places
