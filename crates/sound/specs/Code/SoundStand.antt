-- Question 4 asked of the lent stores, column by column: each list of Soundness in the columns that hold it, cut to the places that are in use. Definitions
-- only.
use Rattle.std.specs.Prelude.{ℕ, ◌-◌, ◌*◌, ◌/◌, Bool, true, false, not, ◌&&◌, cond, List, [], ◌∷◌, map, length, take, drop, get_or, ℤ, pos, leb, ltb, Float}
use Rattle.std.proofs.Math.Option.{Option, none, some}
use Rattle.std.specs.Int.Signed.{le_z}
use Rattle.std.specs.Float.{nan}
use Rattle.std.specs.Float.Ieee.{lt, le, eq, neg}
use Rattle.bars.specs.Lists.{last, every, some_of}
use Rattle.bars.specs.Questions.{first_time, last_time, least_price, most_price, is_price, from_zero, is_volume, question6, question7, question8}
use Rattle.stores.specs.Stores.{RawStore, MergedStore, zip_with, bar_of}
use Rattle.strokes.specs.declared.Stand.{Stand}
use Rattle.machine.specs.Soundness.{settings_sound, rises, same_time, ends_on}
use Rattle.strokes.specs.StateRead.{settings_of, counts_sized, stores_sized, bar_counts, fractal_counts}
use Rattle.strokes.specs.Lent.{Stores}

-- ---- numbers

-- what is asked of a stand's numbers alone: the counts fit the rooms, and the settings pass
unfoldable pub numbers_pass : Stand → Bool
unfolding counts_sized settings_sound settings_of
numbers_pass s = counts_sized s && settings_sound (settings_of s)

-- ---- times

-- question 5 of a time
unfoldable pub in_time : ℤ → Bool
unfolding first_time last_time
in_time t = le_z first_time t && le_z t last_time

-- times rise strictly and pass question 5
unfoldable pub times_pass : List ℤ → Bool
unfolding rises every in_time
times_pass l = rises l && every in_time l

-- ---- rows of prices

-- questions 6 to 8 of a raw bar's row
unfoldable pub raw_row : List Float → Bool
unfolding bar_of question6 question7 question8
raw_row p = question6 (bar_of (pos 0) (pos 0) p) && (question7 (bar_of (pos 0) (pos 0) p) && question8 (bar_of (pos 0) (pos 0) p))

-- questions 6 and 8 of a merged bar's row, and vol and amount from zero up
unfoldable pub merged_row : List Float → Bool
unfolding bar_of question6 question8 from_zero
merged_row p =
    question6 (bar_of (pos 0) (pos 0) p) && (question8 (bar_of (pos 0) (pos 0) p) && (from_zero (get_or p 4 nan) && from_zero (get_or p 5 nan)))

-- ---- rows of prices, as the scans ask them

abbrev pub smaller_of : Float → Float → Float
smaller_of x y = cond (lt x y) x y

abbrev pub larger_of : Float → Float → Float
larger_of x y = cond (lt x y) y x

unfoldable pub size_of : Float → Float
unfolding lt neg
size_of x = larger_of x (neg x)

-- questions 6 and 8 of open, close, high and low above zero: by the smallest price and the largest
unfoldable pub above_zero : Float → Float → Float → Float → Bool
unfolding lt le least_price most_price
above_zero o c h l = (le least_price (smaller_of l (smaller_of o c)) && le (larger_of (larger_of o c) h) most_price) && le l h

-- questions 6 and 8
unfoldable pub of_any_sign : Float → Float → Float → Float → Bool
unfolding is_price le
of_any_sign o c h l = (is_price o && is_price c) && ((is_price h && is_price l) && le l h)

-- true: of any sign, false: above zero alone
unfoldable pub prices_by : Bool → Float → Float → Float → Float → Bool
unfolding of_any_sign above_zero
prices_by true o c h l = of_any_sign o c h l
prices_by false o c h l = above_zero o c h l

unfoldable pub raw_row_by : Bool → List Float → Bool
unfolding prices_by is_volume
raw_row_by any p = prices_by any (get_or p 0 nan) (get_or p 1 nan) (get_or p 2 nan) (get_or p 3 nan) && (is_volume (get_or p 4 nan) && is_volume (get_or p 5 nan))

unfoldable pub merged_row_by : Bool → List Float → Bool
unfolding prices_by from_zero
merged_row_by any p = prices_by any (get_or p 0 nan) (get_or p 1 nan) (get_or p 2 nan) (get_or p 3 nan) && (from_zero (get_or p 4 nan) && from_zero (get_or p 5 nan))

-- ---- elements

unfoldable pub small_count : ℕ → Bool
small_count n = leb n 101

-- one of the times ts is t
unfoldable pub is_time : List ℤ → ℤ → Bool
unfolding some_of same_time
is_time ts t = some_of (λ u. same_time u t) ts

-- the elements of each row are among the times ts
unfoldable pub named_rows : List ℤ → List ℕ → List (List ℤ) → Bool
unfolding every is_time zip_with
named_rows ts cs es = every (every (is_time ts)) (zip_with take cs es)

-- whether t stands at place p
unfoldable pub at_place : List ℤ → ℕ → ℤ → Bool
unfolding same_time
at_place ts p t = ltb p (length ts) && same_time (get_or ts p (pos 0)) t

-- the newest raw time, if any, is the last of the last elements
unfoldable pub ends_in : Option ℤ → Option (List ℤ) → Bool
unfolding ends_on last
ends_in none o = true
ends_in (some t) none = false
ends_in (some t) (some e) = ends_on t (last e)

unfoldable pub newest_row : List ℤ → List ℕ → List (List ℤ) → Bool
unfolding ends_in last zip_with
newest_row ts cs es = ends_in (last ts) (last (zip_with take cs es))

-- ---- the raw store and the unfinished bars

unfoldable pub raw_columns : List ℤ → List (List Float) → Bool
unfolding times_pass every raw_row
raw_columns ts ps = times_pass ts && every raw_row ps

-- where another bar follows it, the first is not asked
unfoldable pub skipped : ℕ → ℕ
skipped n = cond (leb n 1) 0 1

-- the unfinished bars, where the raw times are rt
unfoldable pub unfinished_columns : List ℤ → List ℤ → List (List Float) → List ℕ → List (List ℤ) → Bool
unfolding times_pass every merged_row small_count newest_row named_rows skipped
unfinished_columns rt ts ps cs es =
    times_pass ts
    && (every merged_row ps
    && (every small_count cs && (newest_row rt cs es && named_rows rt (drop (skipped (length cs)) cs) (drop (skipped (length cs)) es))))

-- ---- strokes

-- a fractal's row shows a top: its bars' highs stand at 2, 8 and 14, their lows at 3, 9 and 15
unfoldable pub top_row : List Float → Bool
unfolding lt
top_row p =
    (lt (get_or p 2 nan) (get_or p 8 nan) && lt (get_or p 14 nan) (get_or p 8 nan))
    && (lt (get_or p 3 nan) (get_or p 9 nan) && lt (get_or p 15 nan) (get_or p 9 nan))

unfoldable pub differ : Bool → Bool → Bool
differ true b = not b
differ false b = b

-- each mark differs from the one before it
unfoldable pub alternating : List Bool → Bool
unfolding differ
alternating [] = true
alternating (a ∷ []) = true
alternating (a ∷ b ∷ l) = differ a b && alternating (b ∷ l)

-- the middle bar's high and low are numbers, so that the fractal is the same as itself
unfoldable pub is_real : List Float → Bool
unfolding eq
is_real p = eq (get_or p 8 nan) (get_or p 8 nan) && eq (get_or p 9 nan) (get_or p 9 nan)

-- a stroke with fractals holds both ends, which are two of them, where these are the same as themselves
unfoldable pub ends_held : List (List Float) → Bool
unfolding is_real
ends_held fp = leb 1 (length fp) && (is_real (get_or fp 0 []) && is_real (get_or fp (2 * (length fp / 2) - 1) []))

unfoldable pub middle_times : List (List ℤ) → List ℤ
middle_times fs = map (λ t. get_or t 1 (pos 0)) fs

-- question 5 of the times of a fractal's three bars
unfoldable pub stamps_pass : List ℤ → Bool
unfolding in_time
stamps_pass t = in_time (get_or t 0 (pos 0)) && (in_time (get_or t 1 (pos 0)) && in_time (get_or t 2 (pos 0)))

-- the rows of its three bars
unfoldable pub bars_pass : List Float → Bool
unfolding merged_row
bars_pass p = merged_row (take 6 p) && (merged_row (take 6 (drop 6 p)) && merged_row (take 6 (drop 12 p)))

unfoldable pub bars_by : Bool → List Float → Bool
unfolding merged_row_by
bars_by any p = merged_row_by any (take 6 p) && (merged_row_by any (take 6 (drop 6 p)) && merged_row_by any (take 6 (drop 12 p)))

unfoldable pub fractal_columns : List (List ℤ) → List (List Float) → Bool
unfolding rises every middle_times stamps_pass bars_pass alternating top_row ends_held
fractal_columns fs fp = (rises (middle_times fs) && every stamps_pass fs) && (every bars_pass fp && (alternating (map top_row fp) && ends_held fp))

-- a stroke, where the raw times are rt
unfoldable pub stroke_columns : List ℤ → List ℤ → List (List Float) → List ℕ → List (List ℤ) → List (List ℤ) → List (List Float) → Bool
unfolding times_pass every merged_row small_count fractal_columns named_rows
stroke_columns rt ts ps cs es fs fp =
    leb 4 (length ts)
    && (times_pass ts
    && (every merged_row ps
    && (every small_count cs
    && (fractal_columns fs fp && named_rows rt (take (length ts - 2) (drop 1 cs)) (take (length ts - 2) (drop 1 es))))))

-- strokes of these numbers of bars and of fractals, one after the other
unfoldable pub strokes_columns : List ℤ → List ℕ → List ℕ → List ℤ → List (List Float) → List ℕ → List (List ℤ) → List (List ℤ) → List (List Float) → Bool
unfolding stroke_columns
strokes_columns rt [] ms ts ps cs es fs fp = true
strokes_columns rt (n ∷ ns) [] ts ps cs es fs fp = true
strokes_columns rt (n ∷ ns) (m ∷ ms) ts ps cs es fs fp =
    (ltb m n && stroke_columns rt (take n ts) (take n ps) (take n cs) (take n es) (take m fs) (take m fp))
    && strokes_columns rt ns ms (drop n ts) (drop n ps) (drop n cs) (drop n es) (drop n fs) (drop n fp)

-- ---- all columns

-- n raw bars and m unfinished bars are kept
unfoldable pub front_columns : ℕ → ℕ → RawStore → MergedStore → Bool
unfolding raw_columns unfinished_columns
front_columns n m r u =
    raw_columns (take n r.times) (take n r.prices)
    && unfinished_columns (take n r.times) (take m u.times) (take m u.prices) (take m u.counts) (take m u.elements)

-- question 4 of a stand and its lent stores, column by column
unfoldable pub columns_sound : Stand → Stores → Bool
unfolding stores_sized numbers_pass front_columns strokes_columns bar_counts fractal_counts
columns_sound s m =
    stores_sized s m
    && (numbers_pass s
    && (front_columns s.raw s.unfinished m.raw m.unfinished
    && (leb s.strokes s.most
    && strokes_columns (take s.raw m.raw.times) (bar_counts s) (fractal_counts s) m.strokes.times m.strokes.prices m.strokes.counts m.strokes.elements m.fractals.stamps m.fractals.prices)))
