-- Document 01's strokes among the unfinished bars: check_bi, and the first stroke's cut. Where document 01 speaks of bars it is by place, and
-- where it says time it is by time, so that it means something also where times do not rise; ByTime has the Rust's search. Definitions only.
use Rattle.std.specs.Prelude.{ℕ, ◌+◌, ◌-◌, Bool, true, false, not, ◌&&◌, ◌||◌, List, [], ◌∷◌, map, length, take, drop, leb}
use Rattle.std.proofs.Math.Option.{Option, none, some}
use Rattle.std.specs.Int.Signed.{lt_z}
use Rattle.std.specs.Float.Ieee.{lt}
use Rattle.bars.specs.declared.Bar.{Bar}
use Rattle.bars.specs.Bars.{Merged}
use Rattle.bars.specs.Lists.{keep_if}
use Rattle.machine.specs.declared.Mark.{Mark}
use Rattle.machine.specs.declared.Mark.TheVariants.{D, G}
use Rattle.machine.specs.declared.Direction.{Direction}
use Rattle.machine.specs.declared.Direction.TheVariants.{Up, Down}
use Rattle.machine.specs.Fractals.{Fractal, Placed, time_of, fx_of, same_mark, beyond, placed_fxs}

-- a stroke: start and end fractal, fractal list, merged bars. Its direction follows from the start's mark.
pub record Stroke : Type 0 where
  pub start : Fractal
  pub end : Fractal
  pub fractals : List Fractal
  pub bars : List Merged

-- from a bottom the stroke goes up, from a top down
unfoldable pub direction_of : Mark → Direction
direction_of D = Up
direction_of G = Down

-- the other way
unfoldable pub turned : Direction → Direction
turned Up = Down
turned Down = Up

-- candidates for the end have the other mark, a later time and fx strictly beyond the start's
unfoldable pub candidate : Fractal → Fractal → Bool
unfolding same_mark time_of fx_of beyond
candidate s f = not (same_mark s.mark f.mark) && (lt_z (time_of s) (time_of f) && beyond f.mark (fx_of f) (fx_of s))

-- ---- the first most extreme; `at` reads the fractal

unfoldable pub best_if : {A : Type 0} → Bool → A → A → A
best_if true f best = f
best_if false f best = best

unfoldable pub best : {A : Type 0} → (A → Fractal) → A → List A → A
unfolding best_if beyond fx_of
best at b [] = b
best at b (f ∷ l) = best at (best_if (beyond (at f).mark (fx_of (at f)) (fx_of (at b))) f b) l

unfoldable pub end_of : {A : Type 0} → (A → Fractal) → List A → Option A
unfolding best
end_of at [] = none
end_of at (f ∷ l) = some (best at f l)

-- ---- the stroke

-- one range strictly holds the other's on both sides
unfoldable pub holds : Bar → Bar → Bool
unfolding lt
holds a b = (lt b.high a.high && lt a.low b.low) || (lt a.high b.high && lt b.low a.low)

-- a stroke is made if its bars are at least the minimum and neither end fractal's range strictly holds the other's
unfoldable pub fits_min : ℕ → Stroke → Bool
unfolding holds
fits_min minimum b = leb minimum (length b.bars) && not (holds b.start.mid.bar b.end.mid.bar)

-- The stroke from s to e among the bars l with the fractals fs. Its bars run from the start's first to the end's third bar. Its fractals are those centred on
-- one of its bars, of which the last stands two places after the end's first.
unfoldable pub stroke_at : List Merged → List Placed → Placed → Placed → Stroke
unfolding keep_if
stroke_at l fs s e =
    record {
      start = s.fractal;
      end = e.fractal;
      fractals = map (λ f. f.fractal) (keep_if (λ f. leb f.place (e.place + 1)) fs);
      bars = take (e.place + 3 - s.place) (drop s.place l);
    }

-- what check_bi answers: a stroke or none, and the bars that are left
pub record Found : Type 0 where
  pub stroke : Option Stroke
  pub rest : List Merged

-- unfinished bars then begin at the end fractal's first bar
unfoldable pub made_at : Bool → List Merged → Placed → Stroke → Found
made_at true l e b = record { stroke = some b; rest = drop e.place l }
made_at false l e b = record { stroke = none; rest = l }

unfoldable pub found_to : ℕ → List Merged → List Placed → Placed → Option Placed → Found
unfolding made_at fits_min stroke_at
found_to minimum l fs s none = record { stroke = none; rest = l }
found_to minimum l fs s (some e) = made_at (fits_min minimum (stroke_at l fs s e)) l e (stroke_at l fs s e)

-- the start is the first fractal
unfoldable pub found_in : ℕ → List Merged → List Placed → Found
unfolding found_to end_of keep_if candidate
found_in minimum l [] = record { stroke = none; rest = l }
found_in minimum l (s ∷ fs) = found_to minimum l (s ∷ fs) s (end_of (λ f. f.fractal) (keep_if (λ f. candidate s.fractal f.fractal) (s ∷ fs)))

-- check_bi
unfoldable pub check_bi : ℕ → List Merged → Found
unfolding found_in placed_fxs
check_bi minimum l = found_in minimum l (placed_fxs l)

-- ---- the first stroke's cut

-- the most extreme of the fractals of a's mark, the last if tied
unfoldable pub start_best : {A : Type 0} → (A → Fractal) → A → List A → A
unfolding best_if beyond fx_of same_mark
start_best at a [] = a
start_best at a (f ∷ l) = start_best at (best_if (same_mark (at a).mark (at f).mark && not (beyond (at a).mark (fx_of (at a)) (fx_of (at f)))) f a) l

-- with a fractal, the bars are cut to begin at the first bar of the most extreme fractal of the first one's mark
unfoldable pub cut_to : List Merged → List Placed → List Merged
unfolding start_best
cut_to l [] = l
cut_to l (f ∷ fs) = drop (start_best (λ g. g.fractal) f fs).place l

unfoldable pub cut : List Merged → List Merged
unfolding cut_to placed_fxs
cut l = cut_to l (placed_fxs l)
