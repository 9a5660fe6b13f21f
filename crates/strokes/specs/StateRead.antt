-- How the plain machine's settings and state are read off a stand and its lent stores. Kept strokes lie oldest first, without holes, from the stroke store's
-- beginning, each with its merged bars and its fractals from the same place on. What lies beyond the counts is not read. Definitions only.
use Rattle.std.specs.Prelude.{ℕ, ◌+◌, ◌-◌, ◌*◌, ◌/◌, Bool, ◌&&◌, cond, List, [], ◌∷◌, map, length, take, drop, get_or, ℤ, pos, leb, eqb, Float}
use Rattle.bars.specs.Bars.{Merged}
use Rattle.bars.specs.Lists.{every}
use Rattle.stores.specs.Stores.{RawStore, MergedStore, zip_with, bar_of, raw_bars, merged_bars}
use Rattle.machine.specs.declared.Mark.TheVariants.{D, G}
use Rattle.strokes.specs.declared.Stand.{Stand}
use Rattle.strokes.specs.Lent.{FractalStore, Stores}
use Rattle.machine.specs.Fractals.{Fractal, is_top}
use Rattle.machine.specs.Strokes.{Stroke}
use Rattle.machine.specs.Stand.{Settings, State}

-- ---- the fractals of strokes

-- the k-th bar of a fractal's row
unfoldable pub row_bar : List ℤ → List Float → ℕ → Merged
unfolding bar_of
row_bar t p k = record { bar = bar_of (get_or t k (pos 0)) (get_or t (k + 3) (pos 0)) (take 6 (drop (6 * k) p)); elements = [] }

-- A fractal's mark is not stored: its three bars show it.
unfoldable pub fractal_of : Merged → Merged → Merged → Fractal
unfolding is_top
fractal_of a b c = record { mark = cond (is_top a.bar b.bar c.bar) G D; left = a; mid = b; right = c }

unfoldable pub row_fractal : List ℤ → List Float → Fractal
unfolding row_bar fractal_of
row_fractal t p = fractal_of (row_bar t p 0) (row_bar t p 1) (row_bar t p 2)

-- the fractals at all places, from place 0 on
unfoldable pub stored_fractals : FractalStore → List Fractal
unfolding zip_with row_fractal
stored_fractals s = zip_with row_fractal s.stamps s.prices

-- ---- the strokes

-- what stands for a fractal where a stroke has none
unfoldable pub no_fractal : Fractal
unfolding row_fractal
no_fractal = row_fractal [] []

-- A stroke of these fractals and bars. It starts on the first fractal. It ends on the last one, or on the last but one where they are odd in number: the last
-- is then centred on the stroke's last bar.
unfoldable pub stroke_with : List Fractal → List Merged → Stroke
unfolding no_fractal
stroke_with fs ks = record { start = get_or fs 0 no_fractal; end = get_or fs (2 * (length fs / 2) - 1) no_fractal; fractals = fs; bars = ks }

-- the strokes of these numbers of bars and of fractals, one after the other
unfoldable pub strokes_with : List ℕ → List ℕ → List Merged → List Fractal → List Stroke
unfolding stroke_with
strokes_with [] ms ks fs = []
strokes_with (n ∷ ns) [] ks fs = []
strokes_with (n ∷ ns) (m ∷ ms) ks fs = stroke_with (take m fs) (take n ks) ∷ strokes_with ns ms (drop n ks) (drop n fs)

-- ---- the stand

unfoldable pub settings_of : Stand → Settings
settings_of s =
    record {
      minimum = s.minimum;
      most = s.most;
      raw_room = s.rooms.raw;
      unfinished_room = s.rooms.unfinished;
      stroke_room = s.rooms.strokes;
      power_places = s.power_places;
      ratio_places = s.ratio_places;
    }

-- how many bars, and how many fractals, each kept stroke has
unfoldable pub bar_counts : Stand → List ℕ
bar_counts s = take s.strokes s.bars

unfoldable pub fractal_counts : Stand → List ℕ
fractal_counts s = take s.strokes s.fractals

unfoldable pub state_of : Stand → Stores → State
unfolding raw_bars merged_bars stored_fractals strokes_with bar_counts fractal_counts
state_of s m =
    record {
      raw = take s.raw (raw_bars m.raw);
      unfinished = take s.unfinished (merged_bars m.unfinished);
      strokes = strokes_with (bar_counts s) (fractal_counts s) (merged_bars m.strokes) (stored_fractals m.fractals);
    }

-- ---- the lent stores have their recorded lengths, and the counts fit them

unfoldable pub raw_sized : ℕ → RawStore → Bool
raw_sized n s = eqb (length s.times) n && (eqb (length s.ids) n && eqb (length s.prices) n)

unfoldable pub merged_sized : ℕ → MergedStore → Bool
merged_sized n s =
    (eqb (length s.times) n && (eqb (length s.ids) n && eqb (length s.prices) n))
    && (eqb (length s.counts) n && eqb (length s.elements) n)

unfoldable pub fractal_sized : ℕ → FractalStore → Bool
fractal_sized n s = eqb (length s.stamps) n && eqb (length s.prices) n

unfoldable pub stores_sized : Stand → Stores → Bool
unfolding raw_sized merged_sized fractal_sized
stores_sized s m =
    (raw_sized s.rooms.raw m.raw && merged_sized s.rooms.unfinished m.unfinished)
    && (merged_sized s.rooms.strokes m.strokes && fractal_sized s.rooms.strokes m.fractals)

unfoldable pub total : List ℕ → ℕ
total [] = 0
total (n ∷ ns) = n + total ns

-- the kept bars fit the stores, and the kept strokes the stand
unfoldable pub counts_sized : Stand → Bool
unfolding total bar_counts
counts_sized s =
    (leb s.raw s.rooms.raw && leb s.unfinished s.rooms.unfinished) && (leb s.strokes 64 && leb (total (bar_counts s)) s.rooms.strokes)

-- a merged bar has at most 101 elements
unfoldable pub elements_sized : ℕ → MergedStore → Bool
unfolding every
elements_sized n s = every (λ k. leb k 101) (take n s.counts)

unfoldable pub sized : Stand → Stores → Bool
unfolding stores_sized counts_sized elements_sized total bar_counts
sized s m =
    stores_sized s m
    && (counts_sized s && (elements_sized s.unfinished m.unfinished && elements_sized (total (bar_counts s)) m.strokes))

-- ---- what the stores leave out of a state

-- a merged bar, a fractal, a stroke and a state without the elements of fractals' bars
unfoldable pub bare_bar : Merged → Merged
bare_bar k = record { bar = k.bar; elements = [] }

unfoldable pub bare_fractal : Fractal → Fractal
unfolding bare_bar
bare_fractal f = record { mark = f.mark; left = bare_bar f.left; mid = bare_bar f.mid; right = bare_bar f.right }

unfoldable pub bare_stroke : Stroke → Stroke
unfolding bare_fractal
bare_stroke b = record { start = bare_fractal b.start; end = bare_fractal b.end; fractals = map bare_fractal b.fractals; bars = b.bars }

unfoldable pub bare_state : State → State
unfolding bare_stroke
bare_state s = record { raw = s.raw; unfinished = s.unfinished; strokes = map bare_stroke s.strokes }
