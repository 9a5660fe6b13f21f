-- Instances of how the stroke store is written and read, computed.
use Rattle.std.specs.Prelude.{ℕ, ◌≡◌, refl, List, [], ◌∷◌, map, drop, pos}
use Rattle.std.specs.Float.{binary64}
use Rattle.std.specs.Float.Ieee.{of_int}
use Rattle.bars.specs.Bars.{Merged}
use Rattle.machine.specs.declared.Mark.TheVariants.{D, G}
use Rattle.machine.specs.Fractals.{check_fxs}
use Rattle.strokes.specs.StateRead.{stored_fractals, stroke_with}
use Rattle.strokes.specs.Lent.{FractalStore, fractal_store}
use Rattle.strokes.specs.Code.StrokeSteps.{plain_bar, windows_end}
use Rattle.strokes.specs.FractalRows.{pasted, put_fractals}

-- two rows from place 1 on
pastes : pasted {A = ℕ} (10 ∷ 11 ∷ 12 ∷ 13 ∷ []) 1 (20 ∷ 21 ∷ []) ≡ 10 ∷ 20 ∷ 21 ∷ 13 ∷ []
unfolding pasted
pastes = refl

-- a stroke of the bars at 2 to 4: of 6 bars the one at 5 ends its last window, of 5 there is none more
one_more : windows_end 2 3 6 ≡ 6
unfolding windows_end
one_more = refl

none_more : windows_end 2 3 5 ≡ 5
unfolding windows_end
none_more = refl

-- a bar of this time, high and low
unfoldable bar : ℕ → ℕ → ℕ → Merged
unfolding of_int plain_bar
bar t h l =
    plain_bar
    (record {
      time = pos t;
      id = pos t;
      «open» = of_int binary64 (pos l);
      close = of_int binary64 (pos h);
      high = of_int binary64 (pos h);
      low = of_int binary64 (pos l);
      vol = of_int binary64 (pos t);
      amount = of_int binary64 (pos t);
    })

-- a top, a bottom and a top
unfoldable bars : List Merged
unfolding bar
bars = bar 1 12 10 ∷ bar 2 15 13 ∷ bar 3 14 12 ∷ bar 4 11 9 ∷ bar 5 12 10 ∷ bar 6 16 14 ∷ bar 7 13 11 ∷ []

unfoldable empty : FractalStore
empty = fractal_store ([] ∷ [] ∷ [] ∷ [] ∷ []) ([] ∷ [] ∷ [] ∷ [] ∷ [])

-- what is written from place 1 on is read there
reads-back : drop 1 (stored_fractals (put_fractals empty 1 (check_fxs bars))) ≡ check_fxs bars
unfolding stored_fractals put_fractals check_fxs bars empty
reads-back = refl

marks : map (λ f. f.mark) (check_fxs bars) ≡ G ∷ D ∷ G ∷ []
unfolding check_fxs bars
marks = refl

-- of three fractals a stroke ends on the second
ends : map (λ f. f.mid.bar.time) ((stroke_with (check_fxs bars) []).start ∷ (stroke_with (check_fxs bars) []).end ∷ []) ≡ pos 2 ∷ pos 4 ∷ []
unfolding stroke_with check_fxs bars
ends = refl
