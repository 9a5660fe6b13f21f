-- One stroke and all strokes pass the clauses of soundness where their columns do. Assumes nothing.
use Prim.Native.Nat.{ℕ, zero, suc, ◌+◌, ◌-◌, ◌*◌, ◌/◌, ◌≤◌, min}
use native.Mathlib.Nat.{zero-add}
use native.Mathlib.Omega.{arith}
use mathlib.Core.Path.{◌≡◌, refl, ap, sym, ◌∙◌, subst}
use mathlib.Core.Bool.{Bool, true, false, ◌&&◌}
use mathlib.Core.List.{List, [], ◌∷◌, map}
use lib.ListN.{length, take, drop, get_or, length-take, length-drop}
use lib.IntN.{ℤ}
use lib.Dec.{T, leb, ltb, leb→le}
use lib.Ieee.{Float}
use lib.Ieee.Fits.{and_i, and_l, and_r}
use borrow.Author.Tests.{le-ltb, lt-ltb, ltb-true, ltb-false}
use Rattle.bars.specs.declared.Bar.{Bar}
use Rattle.bars.specs.Bars.{Merged}
use Rattle.bars.specs.Lists.{every, some_of, init}
use Rattle.stores.specs.Stores.{merged_store, merged_bars}
use Rattle.stores.proofs.Columns.{zip-take, zip-drop, zip_length}
use Rattle.stores.proofs.KeptBars.{map-take}
use Rattle.machine.specs.Fractals.{Fractal}
use Rattle.machine.specs.Strokes.{Stroke}
use Rattle.machine.specs.Soundness.{fewer_fractals, bar_times, fractal_merged, stroke_merged, rises, stroke_rises, same_fractal, is_stroke, is_named, inner}
use Rattle.strokes.specs.StateRead.{row_fractal, stored_fractals, no_fractal, stroke_with, strokes_with, total}
use Rattle.strokes.specs.Lent.{fractal_store}
use Rattle.strokes.proofs.BareStates.{map-drop}
use Rattle.sound.specs.Code.SoundStand.{in_time, times_pass, merged_row, small_count, is_time, named_rows, top_row, alternating, ends_held, middle_times, stamps_pass, bars_pass, fractal_columns, stroke_columns, strokes_columns}
use Rattle.arith.proofs.Tests.{and_assoc, same}
use Rattle.sound.proofs.SoundReads.{and_swap, Rows, rows_of, merged-times, merged-every, merged-elements, merged-length, named-elements, merged-take, merged-drop, init-take, fractal_middles, fractals-every}
use Rattle.sound.proofs.SoundScans.{every-at}
use Rattle.sound.proofs.SoundEnds.{marks_are, ends_are, ends-none}

-- ---- flags in another order

-- h follows from e, s and q: a stroke's ends are two of its fractals
module _ (i p s q h r m f a e n c : Bool) (ends_too : T e → T s → T q → T h) where
  -- as the clauses ask a stroke
  clauses_of : Bool
  clauses_of = ((i && p) && ((s && q) && h)) && ((r && m) && (((f && a) && e) && (n && c)))

  -- as its columns are asked
  columns_of : Bool
  columns_of = f && ((r && i) && (p && (c && (((m && s) && (q && (a && e))) && n))))

  -- each of them
  record Parts : Type 0 where
    in_time_lem : T i
    prices : T p
    stamps : T s
    rows : T q
    rise : T r
    middles : T m
    four : T f
    marks : T a
    ends : T e
    named : T n
    counts : T c

  of_clauses : T clauses_of → Parts
  unfolding clauses_of
  of_clauses w = search (and_l, and_r) depth 9

  of_columns : T columns_of → Parts
  unfolding columns_of
  of_columns w = search (and_l, and_r) depth 9

  to_clauses : Parts → T clauses_of
  unfolding clauses_of
  to_clauses w = let t : T h = ends_too w.ends w.stamps w.rows in search and_i depth 9

  to_columns : Parts → T columns_of
  unfolding columns_of
  to_columns w = search and_i depth 9

  clauses_columns : clauses_of ≡ columns_of
  clauses_columns = same clauses_of columns_of (λ w. to_columns (of_clauses w)) (λ w. to_clauses (of_columns w))

-- ---- one stroke

-- what soundness asks of a stroke whose bars have these numbers of elements, but that it has fewer fractals than bars
unfoldable pub stroke_asked : List Bar → List ℕ → Stroke → Bool
stroke_asked raw cs b = stroke_merged b && (stroke_rises b && (is_stroke b && (every (is_named raw) (inner b) && every small_count cs)))

-- a stroke's ends are held
held : (fs : List (List ℤ)) (fp : List (List Float)) → length fp ≡ length fs
    → (some_of (same_fractal (get_or (stored_fractals (fractal_store fs fp)) 0 no_fractal)) (stored_fractals (fractal_store fs fp))
    && some_of (same_fractal (get_or (stored_fractals (fractal_store fs fp)) (2 * (length (stored_fractals (fractal_store fs fp)) / 2) - 1) no_fractal)) (stored_fractals (fractal_store fs fp))) ≡ ends_held fp
held fs [] e =
    let l = stored_fractals (fractal_store fs []) in
    ends-none fs [] (get_or l 0 no_fractal) (get_or l (2 * (length l / 2) - 1) no_fractal) refl
held fs (p ∷ fp) e = ends_are fs (p ∷ fp) e (omega arith)

fractals-length : (fs : List (List ℤ)) (fp : List (List Float)) → length fp ≡ length fs → length (stored_fractals (fractal_store fs fp)) ≡ length fs
unfolding stored_fractals
fractals-length fs fp e = zip_length row_fractal fs fp (sym e)

-- .. and their three bars pass where those of all its fractals do
ends-merged : (fs : List (List ℤ)) (fp : List (List Float)) → length fp ≡ length fs → T (ends_held fp) → T (every stamps_pass fs) → T (every bars_pass fp)
    → T (fractal_merged (get_or (stored_fractals (fractal_store fs fp)) 0 no_fractal)
    && fractal_merged (get_or (stored_fractals (fractal_store fs fp)) (2 * (length (stored_fractals (fractal_store fs fp)) / 2) - 1) no_fractal))
unfolding ends_held
ends-merged fs fp e h s q =
    let l = stored_fractals (fractal_store fs fp) in
    let a : T (every fractal_merged l) = subst T (sym (fractals-every fs fp e)) (and_i (every stamps_pass fs) (every bars_pass fp) s q) in
    let k : 1 ≤ length fp = leb→le 1 (length fp) (and_l (leb 1 (length fp)) _ h) in
    let n : 1 ≤ length l = omega (arith, fractals-length fs fp e) in
    and_i (fractal_merged (get_or l 0 no_fractal)) (fractal_merged (get_or l (2 * (length l / 2) - 1) no_fractal)) (every-at fractal_merged l 0 no_fractal a (omega arith))
    (every-at fractal_merged l (2 * (length l / 2) - 1) no_fractal a (omega arith))

-- the elements of all its bars but the first and the last
inner-named : {ts is : List ℤ} {ps : List (List Float)} {cs : List ℕ} {es : List (List ℤ)} (raw : List Bar) → Rows ts is ps cs es
    → every (is_named raw) (init (drop 1 (merged_bars (merged_store ts is ps cs es)))) ≡ named_rows (bar_times raw) (take (length ts - 2) (drop 1 cs)) (take (length ts - 2) (drop 1 es))
unfolding named_rows
inner-named {ts} {is} {ps} {cs} {es} raw w =
    let k = merged_bars (merged_store ts is ps cs es) in
    let n = length ts - 2 in
    let e : length (drop 1 k) - 1 ≡ n = omega (arith, length-drop 1 k, merged-length w) in
    ap (every (is_named raw)) (init-take (drop 1 k) ∙ ap (λ (i : ℕ). take i (drop 1 k)) e) ∙ named-elements raw (take n (drop 1 k))
    ∙ ap (every (every (is_time (bar_times raw))))
    (map-take (λ m. m.elements) n (drop 1 k) ∙ ap (take n) (map-drop (λ m. m.elements) 1 k ∙ ap (drop 1) (merged-elements w) ∙ sym (zip-drop take 1 cs es))
    ∙ sym (zip-take take n (drop 1 cs) (drop 1 es)))

pub stroke_are : {ts is : List ℤ} {ps : List (List Float)} {cs : List ℕ} {es : List (List ℤ)} (raw : List Bar) (fs : List (List ℤ)) (fp : List (List Float))
    → Rows ts is ps cs es → length fp ≡ length fs
    → stroke_asked raw cs (stroke_with (stored_fractals (fractal_store fs fp)) (merged_bars (merged_store ts is ps cs es))) ≡ stroke_columns (bar_times raw) ts ps cs es fs fp
unfolding stroke_asked stroke_with stroke_merged stroke_rises is_stroke inner stroke_columns times_pass fractal_columns clauses_of columns_of
stroke_are {ts} {is} {ps} {cs} {es} raw fs fp w e =
    let l = stored_fractals (fractal_store fs fp) in
    let ends = fractal_merged (get_or l 0 no_fractal) && fractal_merged (get_or l (2 * (length l / 2) - 1) no_fractal) in
    (λ j. (merged-every w j && (fractals-every fs fp e j && ends))
    && ((rises (merged-times w j) && rises (fractal_middles fs fp e j))
    && (((leb 4 (merged-length w j) && marks_are fs fp e j) && held fs fp e j) && (inner-named raw w j && every small_count cs))))
    ∙ clauses_columns (every in_time ts) (every merged_row ps) (every stamps_pass fs) (every bars_pass fp) ends (rises ts) (rises (middle_times fs)) (leb 4 (length ts)) (alternating (map top_row fp)) (ends_held fp)
    (named_rows (bar_times raw) (take (length ts - 2) (drop 1 cs)) (take (length ts - 2) (drop 1 es))) (every small_count cs) (ends-merged fs fp e)

-- ---- all strokes

-- what soundness asks of strokes whose bars have these numbers of elements
unfoldable pub strokes_asked : List Bar → List ℕ → List Stroke → Bool
strokes_asked raw cs l =
    every fewer_fractals l
    && (every stroke_merged l
    && (every stroke_rises l && (every is_stroke l && (every (λ b. every (is_named raw) (inner b)) l && every small_count cs))))

-- one stroke and those behind it
strokes-next : (raw : List Bar) (cs cs' : List ℕ) (b : Stroke) (l : List Stroke)
    → (every fewer_fractals (b ∷ l)
    && (every stroke_merged (b ∷ l)
    && (every stroke_rises (b ∷ l) && (every is_stroke (b ∷ l) && (every (λ b. every (is_named raw) (inner b)) (b ∷ l) && (every small_count cs && every small_count cs'))))))
    ≡ ((fewer_fractals b && stroke_asked raw cs b) && strokes_asked raw cs' l)
unfolding every stroke_asked strokes_asked
strokes-next raw cs cs' b l =
    order (fewer_fractals b) (stroke_merged b) (stroke_rises b) (is_stroke b) (every (is_named raw) (inner b)) (every small_count cs) (every fewer_fractals l) (every stroke_merged l)
    (every stroke_rises l) (every is_stroke l) (every (λ b. every (is_named raw) (inner b)) l) (every small_count cs')
  where
    order : (f m r k n c f' m' r' k' n' c' : Bool) → ((f && f') && ((m && m') && ((r && r') && ((k && k') && ((n && n') && (c && c'))))))
        ≡ ((f && (m && (r && (k && (n && c))))) && (f' && (m' && (r' && (k' && (n' && c'))))))
    order f m r k n c f' m' r' k' n' c' =
        ap (λ (y : Bool). (f && f') && y)
        (ap (λ (y : Bool). (m && m') && y)
        (ap (λ (y : Bool). (r && r') && y) (ap (λ (y : Bool). (k && k') && y) (and_swap n n' c c') ∙ and_swap k k' (n && c) (n' && c')) ∙ and_swap r r' (k && (n && c)) (k' && (n' && c')))
        ∙ and_swap m m' (r && (k && (n && c))) (r' && (k' && (n' && c'))))
        ∙ and_swap f f' (m && (r && (k && (n && c)))) (m' && (r' && (k' && (n' && c'))))

-- the counts of the first n bars, and of those behind them
every_parts : {A : Type 0} (p : A → Bool) (n t : ℕ) (l : List A) → every p (take (n + t) l) ≡ (every p (take n l) && every p (take t (drop n l)))
unfolding every
every_parts p zero t l = ap (λ (k : ℕ). every p (take k l)) (zero-add t)
every_parts p (suc n) t [] = none (suc n + t) ∙ sym (none t)
  where
    none : (t : ℕ) → every p (take t []) ≡ true
    none zero = refl
    none (suc t) = refl
every_parts p (suc n) t (a ∷ l) =
    let e : suc n + t ≡ suc (n + t) = omega arith in
    ap (λ (k : ℕ). every p (take k (a ∷ l))) e ∙ ap (λ (y : Bool). p a && y) (every_parts p n t l) ∙ and_assoc (p a) (every p (take n l)) (every p (take t (drop n l)))

-- fewer fractals than bars, where so many bars are there
fewer-counts : (m n room a b : ℕ) → a ≡ min m room → b ≡ min n room → n ≤ room → ltb a b ≡ ltb m n
fewer-counts m n room a b p q h = by (ltb m n) refl
  where
    by : (x : Bool) → ltb m n ≡ x → ltb a b ≡ ltb m n
    by true e = let k = ltb-true m n e in lt-ltb a b (omega arith) ∙ sym e
    by false e = let k = ltb-false m n e in le-ltb a b (omega arith) ∙ sym e

fewer_of : (m n room : ℕ) (f : List Fractal) (k : List Merged) → length f ≡ room → length k ≡ room → n ≤ room → fewer_fractals (stroke_with (take m f) (take n k)) ≡ ltb m n
unfolding fewer_fractals stroke_with
fewer_of m n room f k p q h =
    fewer-counts m n room (length (take m f)) (length (take n k)) (length-take m f ∙ ap (λ (i : ℕ). min m i) p) (length-take n k ∙ ap (λ (i : ℕ). min n i) q) h

-- columns of one length
pub record Sized (room : ℕ) (ts is : List ℤ) (ps : List (List Float)) (cs : List ℕ) (es fs : List (List ℤ)) (fp : List (List Float)) : Type 0 where
  pub times : length ts ≡ room
  pub ids : length is ≡ room
  pub prices : length ps ≡ room
  pub counts : length cs ≡ room
  pub elements : length es ≡ room
  pub stamps : length fs ≡ room
  pub fractals : length fp ≡ room

length_at : {A : Type 0} (n room : ℕ) (l : List A) → length l ≡ room → length (drop n l) ≡ room - n
length_at n room l e = length-drop n l ∙ ap (λ (k : ℕ). k - n) e

pub length_to : {A B : Type 0} (n room : ℕ) (l : List A) (r : List B) → length l ≡ room → length r ≡ room → length (take n l) ≡ length (take n r)
length_to n room l r e f = length-take n l ∙ ap (λ (k : ℕ). min n k) (e ∙ sym f) ∙ sym (length-take n r)

module _ {room : ℕ} {ts is : List ℤ} {ps : List (List Float)} {cs : List ℕ} {es fs : List (List ℤ)} {fp : List (List Float)} (n : ℕ) (z : Sized room ts is ps cs es fs fp) where
  sized-behind : Sized (room - n) (drop n ts) (drop n is) (drop n ps) (drop n cs) (drop n es) (drop n fs) (drop n fp)
  sized-behind =
      record {
        times = length_at n room ts z.times;
        ids = length_at n room is z.ids;
        prices = length_at n room ps z.prices;
        counts = length_at n room cs z.counts;
        elements = length_at n room es z.elements;
        stamps = length_at n room fs z.stamps;
        fractals = length_at n room fp z.fractals;
      }

  rows_front : Rows (take n ts) (take n is) (take n ps) (take n cs) (take n es)
  rows_front =
      rows_of (take n ts) (take n is) (take n ps) (take n cs) (take n es) (length_to n room is ts z.ids z.times) (length_to n room ps ts z.prices z.times) (length_to n room cs ts z.counts z.times) (length_to n room es ts z.elements z.times)

fractals-take : (n : ℕ) (fs : List (List ℤ)) (fp : List (List Float)) → take n (stored_fractals (fractal_store fs fp)) ≡ stored_fractals (fractal_store (take n fs) (take n fp))
unfolding stored_fractals
fractals-take n fs fp = sym (zip-take row_fractal n fs fp)

fractals-drop : (n : ℕ) (fs : List (List ℤ)) (fp : List (List Float)) → drop n (stored_fractals (fractal_store fs fp)) ≡ stored_fractals (fractal_store (drop n fs) (drop n fp))
unfolding stored_fractals
fractals-drop n fs fp = sym (zip-drop row_fractal n fs fp)

pub strokes_are : (raw : List Bar) (ns ms : List ℕ) (room : ℕ) (ts is : List ℤ) (ps : List (List Float)) (cs : List ℕ) (es fs : List (List ℤ)) (fp : List (List Float))
    → Sized room ts is ps cs es fs fp → length ns ≡ length ms → total ns ≤ room
    → strokes_asked raw (take (total ns) cs) (strokes_with ns ms (merged_bars (merged_store ts is ps cs es)) (stored_fractals (fractal_store fs fp)))
    ≡ strokes_columns (bar_times raw) ns ms ts ps cs es fs fp
unfolding strokes_asked strokes_with strokes_columns total every
strokes_are raw [] ms room ts is ps cs es fs fp z e h = refl
strokes_are raw (n ∷ ns) [] room ts is ps cs es fs fp z e h = absurd (omega arith)
strokes_are raw (n ∷ ns) (m ∷ ms) room ts is ps cs es fs fp z e h =
    let k = merged_bars (merged_store ts is ps cs es) in
    let f = stored_fractals (fractal_store fs fp) in
    let b = stroke_with (take m f) (take n k) in
    let l = strokes_with ns ms (drop n k) (drop n f) in
    let t = total ns in
    let w = rows_front n z in
    let lf = z.stamps in
    let lp = z.fractals in
    let lk = merged-length (rows_of ts is ps cs es (z.ids ∙ sym z.times) (z.prices ∙ sym z.times) (z.counts ∙ sym z.times) (z.elements ∙ sym z.times)) ∙ z.times in
    let ll = fractals-length fs fp (lp ∙ sym lf) ∙ lf in
    let few : fewer_fractals b ≡ ltb m n = fewer_of m n room f k ll lk (omega arith) in
    let one : stroke_asked raw (take n cs) b ≡ stroke_columns (bar_times raw) (take n ts) (take n ps) (take n cs) (take n es) (take m fs) (take m fp) =
    (λ j. stroke_asked raw (take n cs) (stroke_with (fractals-take m fs fp j) (merged-take n (merged_store ts is ps cs es) j)))
    ∙ stroke_are raw (take m fs) (take m fp) w (length_to m room fp fs lp lf) in
    let more : strokes_asked raw (take t (drop n cs)) l ≡ strokes_columns (bar_times raw) ns ms (drop n ts) (drop n ps) (drop n cs) (drop n es) (drop n fs) (drop n fp) =
    (λ j. strokes_asked raw (take t (drop n cs)) (strokes_with ns ms (merged-drop n (merged_store ts is ps cs es) j) (fractals-drop n fs fp j)))
    ∙ strokes_are raw ns ms (room - n) (drop n ts) (drop n is) (drop n ps) (drop n cs) (drop n es) (drop n fs) (drop n fp) (sized-behind n z) (omega arith) (omega arith) in
    ap (λ (y : Bool). every fewer_fractals (b ∷ l) && (every stroke_merged (b ∷ l) && (every stroke_rises (b ∷ l) && (every is_stroke (b ∷ l) && (every (λ b. every (is_named raw) (inner b)) (b ∷ l) && y)))))
    (every_parts small_count n t cs)
    ∙ strokes-next raw (take n cs) (take t (drop n cs)) b l ∙ (λ j. (few j && one j) && more j)
