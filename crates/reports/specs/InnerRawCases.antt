-- Instances of listed bars, computed: two bars into columns of three places, and into columns of which one has a place too few.
use Rattle.std.specs.Prelude.{ℕ, ◌≡◌, refl, List, [], ◌∷◌, pos, Float, Ok, Err}
use Rattle.std.specs.Float.{binary64}
use Rattle.std.specs.Float.Ieee.{of_int}
use Rattle.bars.specs.declared.Bar.{Bar}
use Rattle.bars.specs.declared.refusals.Question.TheVariants.{OutputRoom}
use Rattle.bars.specs.Bars.{row_of}
use Rattle.stores.specs.Stores.{raw_store, bar_of}
use Rattle.strokes.specs.FractalRows.{pasted}
use Rattle.named.specs.ReportQuestions.{question14}
use Rattle.reports.specs.InnerRawBars.{put_bars, places_for, list_if, list_bars, listed}

-- a row of six times the same price
unfoldable row : ℕ → List Float
unfolding of_int
row x = let f = of_int binary64 (pos x) in f ∷ f ∷ f ∷ f ∷ f ∷ f ∷ []

unfoldable bar : ℕ → Bar
unfolding bar_of row
bar t = bar_of (pos t) (pos t) (row t)

-- the third row stays
fits : list_bars (bar 10 ∷ bar 20 ∷ []) (raw_store (pos 1 ∷ pos 2 ∷ pos 3 ∷ []) (pos 4 ∷ pos 5 ∷ pos 6 ∷ []) (row 7 ∷ row 8 ∷ row 9 ∷ []))
    ≡ listed (Ok 2) (raw_store (pos 10 ∷ pos 20 ∷ pos 3 ∷ []) (pos 10 ∷ pos 20 ∷ pos 6 ∷ []) (row 10 ∷ row 20 ∷ row 9 ∷ []))
unfolding list_bars list_if places_for question14 put_bars pasted row_of bar bar_of row
fits = refl

-- nothing is written
too_few : list_bars (bar 10 ∷ bar 20 ∷ []) (raw_store (pos 1 ∷ pos 2 ∷ pos 3 ∷ []) (pos 4 ∷ []) (row 7 ∷ row 8 ∷ row 9 ∷ []))
    ≡ listed (Err OutputRoom) (raw_store (pos 1 ∷ pos 2 ∷ pos 3 ∷ []) (pos 4 ∷ []) (row 7 ∷ row 8 ∷ row 9 ∷ []))
unfolding list_bars list_if places_for question14 put_bars pasted row_of bar bar_of row
too_few = refl
