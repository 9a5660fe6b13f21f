-- Kept strokes as they are read off the stand's counts and the rows of the fractal store, by place: what zones, runs and fake strokes ask of them. That these are
-- the strokes of the stand's state is proofs/StrokesRead. Definitions only.
use Rattle.std.specs.Prelude.{ℕ, zero, suc, ◌+◌, ◌-◌, ◌*◌, ◌/◌, ◌≤◌, ◌<◌, List, [], ◌∷◌, length, take, get_or}
use Rattle.arith.specs.Order.{max_of, min_of}
use Rattle.machine.specs.declared.Mark.{Mark}
use Rattle.machine.specs.Strokes.{direction_of}
use Rattle.check_bi.specs.declared.check_fx.Candle.{Candle}
use Rattle.strokes.specs.declared.Stand.{Stand}
use Rattle.strokes.specs.StateRead.{total}
use Rattle.strokes.specs.Lent.{FractalStore}
use Rattle.zones.specs.declared.Summary.{Summary}
use Rattle.named.specs.Code.NamedRows.{mark_at, middle_at}

-- where the rows of the stroke at place i begin, and how many fractals it has
unfoldable pub stroke_place : Stand → ℕ → ℕ
unfolding total
stroke_place s i = total (take i s.bars)

unfoldable pub fractal_number : Stand → ℕ → ℕ
fractal_number s i = get_or s.fractals i 0

-- its end stands on its last fractal, or on the last but one where they are odd in number
unfoldable pub stroke_end : Stand → ℕ → ℕ
unfolding stroke_place fractal_number
stroke_end s i = stroke_place s i + (2 * (fractal_number s i / 2) - 1)

-- a stroke from a fractal of the mark, with the middle bars of its start and of its end
unfoldable pub summary_from : Mark → Candle → Candle → Summary
unfolding direction_of max_of min_of
summary_from m a z = record { direction = direction_of m; high = max_of a.high z.high; low = min_of a.low z.low; began = a.time; ended = z.time }

unfoldable pub summary_at : Stand → FractalStore → ℕ → Summary
unfolding summary_from mark_at middle_at stroke_place stroke_end
summary_at s f i = summary_from (mark_at f (stroke_place s i)) (middle_at f (stroke_place s i)) (middle_at f (stroke_end s i))

-- n items from place p on, where g reads the item at a place
unfoldable pub items_from : {A : Type 0} → (ℕ → A) → ℕ → ℕ → List A
items_from g p zero = []
items_from g p (suc n) = g p ∷ items_from g (suc p) n

-- the strokes of a run, by its first place and its length
unfoldable pub read_run : Stand → FractalStore → ℕ → ℕ → List Summary
unfolding items_from summary_at
read_run s f first n = items_from (summary_at s f) first n

-- the stroke at place i has a fractal, and its rows lie inside the store
pub record StrokeStands (s : Stand) (f : FractalStore) (i : ℕ) : Type 0 where
  pub place : i < 65
  pub some : 1 ≤ fractal_number s i
  pub stamps : stroke_place s i + fractal_number s i ≤ length f.stamps
  pub prices : stroke_place s i + fractal_number s i ≤ length f.prices
  pub small : stroke_place s i + fractal_number s i ≤ 65536

-- so it is for every stroke of a run
pub record RunStands (s : Stand) (f : FractalStore) (first count : ℕ) : Type 0 where
  pub places : first + count ≤ 64
  pub each : (j : ℕ) → j < count → StrokeStands s f (first + j)
