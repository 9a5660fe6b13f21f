-- check_bi and the first stroke's cut as the Rust searches for them: by the times of bars. On bars whose times rise it is the search by place of Strokes,
-- which is a theorem of proofs/. Definitions only.
use Rattle.std.specs.Prelude.{ℕ, Bool, true, false, ◌&&◌, List, [], ◌∷◌, ℤ}
use Rattle.std.proofs.Math.Option.{Option, none, some}
use Rattle.std.specs.Int.Signed.{lt_z, le_z}
use Rattle.bars.specs.Bars.{Merged}
use Rattle.bars.specs.Lists.{keep_if, skip_while}
use Rattle.machine.specs.Fractals.{Fractal, check_fxs}
use Rattle.machine.specs.Strokes.{Stroke, Found, candidate, end_of, fits_min, start_best}

-- the bars from the first one on that is not earlier than t
unfoldable pub from : ℤ → List Merged → List Merged
unfolding skip_while
from t l = skip_while (λ k. lt_z k.bar.time t) l

-- the stroke of start s and end e among the fractals fs of the bars l
unfoldable pub stroke_of : List Merged → List Fractal → Fractal → Fractal → Stroke
unfolding from keep_if
stroke_of l fs s e =
    record {
      start = s;
      end = e;
      fractals = keep_if (λ f. le_z s.left.bar.time f.mid.bar.time && le_z f.mid.bar.time e.right.bar.time) fs;
      bars = keep_if (λ k. le_z k.bar.time e.right.bar.time) (from s.left.bar.time l);
    }

unfoldable pub made_if : Bool → List Merged → Stroke → Found
unfolding from
made_if true l b = record { stroke = some b; rest = from b.end.left.bar.time l }
made_if false l b = record { stroke = none; rest = l }

unfoldable pub found_with : ℕ → List Merged → List Fractal → Fractal → Option Fractal → Found
unfolding made_if fits_min stroke_of
found_with minimum l fs s none = record { stroke = none; rest = l }
found_with minimum l fs s (some e) = made_if (fits_min minimum (stroke_of l fs s e)) l (stroke_of l fs s e)

unfoldable pub found_among : ℕ → List Merged → List Fractal → Found
unfolding found_with end_of keep_if candidate
found_among minimum l [] = record { stroke = none; rest = l }
found_among minimum l (s ∷ fs) = found_with minimum l (s ∷ fs) s (end_of (λ f. f) (keep_if (candidate s) (s ∷ fs)))

unfoldable pub check_bi_by_time : ℕ → List Merged → Found
unfolding found_among check_fxs
check_bi_by_time minimum l = found_among minimum l (check_fxs l)

unfoldable pub cut_at : List Merged → List Fractal → List Merged
unfolding from start_best
cut_at l [] = l
cut_at l (f ∷ fs) = from (start_best (λ g. g) f fs).left.bar.time l

unfoldable pub cut_by_time : List Merged → List Merged
unfolding cut_at check_fxs
cut_by_time l = cut_at l (check_fxs l)
