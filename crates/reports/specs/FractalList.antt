-- The lists over the kept strokes and the unfinished bars: get_fx_list, get_finished_bis, last_bi_extend. Definitions only.
use Rattle.std.specs.Prelude.{Bool, true, false, List, [], ◌∷◌, ◌++◌, map, length, drop, ℤ, ltb}
use Rattle.std.proofs.Math.Option.{Option, none, some}
use Rattle.std.specs.Int.Signed.{lt_z}
use Rattle.std.specs.Float.Ieee.{lt}
use Rattle.bars.specs.Bars.{Merged}
use Rattle.bars.specs.Lists.{last, init, join}
use Rattle.machine.specs.declared.Direction.{Direction}
use Rattle.machine.specs.declared.Direction.TheVariants.{Up, Down}
use Rattle.machine.specs.Fractals.{Fractal, time_of, check_fxs}
use Rattle.machine.specs.Strokes.{Stroke, direction_of}
use Rattle.named.specs.Folds.{greatest, least}
use Rattle.machine.specs.Break.{high_of, low_of}

-- ---- get_fx_list

-- whether a fractal of time t is later than the last one listed, of time p
unfoldable pub is_after : Option ℤ → ℤ → Bool
is_after none t = true
is_after (some p) t = lt_z p t

unfoldable pub list_if : Bool → Fractal → Option ℤ → (Option ℤ → List Fractal) → List Fractal
unfolding time_of
list_if true f p rest = f ∷ rest (some (time_of f))
list_if false f p rest = rest p

-- those that are each strictly later than the last one listed before, the first than p
unfoldable pub later_than : Option ℤ → List Fractal → List Fractal
unfolding list_if is_after time_of
later_than p [] = []
later_than p (f ∷ l) = list_if (is_after p (time_of f)) f p (λ q. later_than q l)

-- the fractals of the kept strokes, oldest first, each stroke's list without its first
unfoldable pub stroke_fxs : List Stroke → List Fractal
unfolding join
stroke_fxs bs = join (map (λ b. drop 1 b.fractals) bs)

-- get_fx_list: then the fractals of the unfinished bars; one that is not later than the last one listed is left out
unfoldable pub get_fx_list : List Stroke → List Merged → List Fractal
unfolding later_than stroke_fxs check_fxs
get_fx_list bs l = later_than none (stroke_fxs bs ++ check_fxs l)

-- ---- get_finished_bis

unfoldable pub finished_if : Bool → List Stroke → List Stroke
unfolding init
finished_if true bs = init bs
finished_if false bs = bs

-- with fewer than 5 unfinished bars the last stroke is left out
unfoldable pub get_finished_bis : List Stroke → List Merged → List Stroke
unfolding finished_if
get_finished_bis bs l = finished_if (ltb (length l) 5) bs

-- ---- last_bi_extend

-- whether the unfinished bars reach strictly beyond the stroke b: over its high if it goes up, under its low if it goes down
unfoldable pub extends : Direction → Stroke → List Merged → Bool
unfolding lt high_of low_of greatest least
extends Up b l = lt (high_of b) (greatest (map (λ k. k.bar.high) l))
extends Down b l = lt (least (map (λ k. k.bar.low) l)) (low_of b)

unfoldable pub extends_last : Option Stroke → List Merged → Bool
unfolding extends direction_of
extends_last none l = false
extends_last (some b) [] = false
extends_last (some b) (k ∷ l) = extends (direction_of b.start.mark) b (k ∷ l)

unfoldable pub last_bi_extend : List Stroke → List Merged → Bool
unfolding extends_last last
last_bi_extend bs l = extends_last (last bs) l
