-- Laws of the list of fractals, one handed out after the other. Assumes nothing.
use Prim.Native.Nat.{ℕ, suc, ◌+◌, ◌≤◌, ◌<◌}
use native.Mathlib.Omega.{arith}
use mathlib.Core.Path.{◌≡◌, refl, ap, sym, ◌∙◌}
use mathlib.Core.Bool.{Bool, true, false}
use mathlib.Core.List.{List, [], ◌∷◌, ◌++◌, map}
use mathlib.Core.Option.{Option, some}
use lib.ListN.{length, take, drop, get_or, length-take, length-drop, drop_of_length-le}
use lib.Seq.{length-take-le, drop-cons, get_or-take, get_or-drop, take-add, take_all, drop-drop}
use lib.IntN.{ℤ, pos}
use lib.Ieee.{Float, nan}
use Rattle.std.specs.Prelude as Std
use Rattle.std.specs.Prelude.{Some, None}
use Rattle.bars.specs.Bars.{row_of}
use Rattle.stores.specs.Stores.{bar_of, zip_with}
use Rattle.stores.proofs.Columns.{zip-at, zip_length}
use Rattle.machine.specs.Fractals.{Fractal, time_of}
use Rattle.strokes.specs.StateRead.{row_bar, fractal_of, row_fractal, stored_fractals, no_fractal, total}
use Rattle.strokes.specs.declared.lent_columns.FractalColumnsMut.{FractalColumnsMut}
use Rattle.strokes.specs.Columns.{SameFractals}
use Rattle.strokes.specs.Lent.{FractalStore, fractal_store}
use Rattle.strokes.specs.FractalRows.{stamps_of, prices_of, stamp_row, price_row}
use Rattle.named.proofs.StrokeAt.{fewer-at}
use Rattle.reports.specs.declared.fx_list.FractalRows.{FractalRows}
use Rattle.reports.specs.declared.fx_list.FxList.{FxList}
use Rattle.reports.specs.FractalList.{is_after, list_if, later_than}
use Rattle.reports.specs.Code.FxListing.{rows_of, GivesRows, stroke_rows, rows_from, CanRead, all_left, time_of_last, listed_left, rows_left}

-- ---- the same columns yet

pub same_none : (a : FractalColumnsMut) → SameFractals a a
same_none a = record { stamps = refl; prices = refl; stamps_room = refl; prices_room = refl }

-- ---- rows read back

six : {A : Type 0} (z : A) (l : List A) → length l ≡ 6 → get_or l 0 z ∷ get_or l 1 z ∷ get_or l 2 z ∷ get_or l 3 z ∷ get_or l 4 z ∷ get_or l 5 z ∷ [] ≡ l
six z [] h = absurd (omega arith)
six z (a ∷ []) h = absurd (omega arith)
six z (a ∷ b ∷ []) h = absurd (omega arith)
six z (a ∷ b ∷ c ∷ []) h = absurd (omega arith)
six z (a ∷ b ∷ c ∷ d ∷ []) h = absurd (omega arith)
six z (a ∷ b ∷ c ∷ d ∷ e ∷ []) h = absurd (omega arith)
six z (a ∷ b ∷ c ∷ d ∷ e ∷ f ∷ []) h = refl
six z (a ∷ b ∷ c ∷ d ∷ e ∷ f ∷ g ∷ l) h = absurd (omega arith)

pub stamps-back : (t : List ℤ) (p : List Float) → length t ≡ 6 → stamp_row (row_fractal t p) ≡ t
unfolding stamp_row stamps_of row_fractal fractal_of row_bar bar_of
stamps-back t p h = six (pos 0) t h

row_back : (t i : ℤ) (p : List Float) → length p ≡ 6 → row_of (bar_of t i p) ≡ p
unfolding row_of bar_of
row_back t i p h = six nan p h

part : (k : ℕ) (p : List Float) → length p ≡ 18 → k + 6 ≤ 18 → length (take 6 (drop k p)) ≡ 6
part k p h g = length-take-le 6 (drop k p) (omega (arith, length-drop k p))

pub prices-back : (t : List ℤ) (p : List Float) → length p ≡ 18 → price_row (row_fractal t p) ≡ p
unfolding price_row prices_of row_fractal fractal_of row_bar
prices-back t p h =
    (λ i. row_back (get_or t 0 (pos 0)) (get_or t 3 (pos 0)) (take 6 (drop 0 p)) (part 0 p h (omega arith)) i
    ++ row_back (get_or t 1 (pos 0)) (get_or t 4 (pos 0)) (take 6 (drop 6 p)) (part 6 p h (omega arith)) i
    ++ row_back (get_or t 2 (pos 0)) (get_or t 5 (pos 0)) (take 6 (drop 12 p)) (part 12 p h (omega arith)) i)
    ∙ whole
  where
    whole : take 6 p ++ take 6 (drop 6 p) ++ take 6 (drop 12 p) ≡ p
    whole = sym (ap (λ (x : List Float). x ++ take 6 (drop 12 p)) (take-add 6 6 p)) ∙ sym (take-add 12 6 p) ∙ take_all 18 p (omega arith)

pub rows-back : (t : List ℤ) (p : List Float) → length t ≡ 6 → length p ≡ 18 → record { stamps = t; prices = p } ≡ rows_of (row_fractal t p)
unfolding rows_of
rows-back t p a b = λ i. record { stamps = sym (stamps-back t p a) i; prices = sym (prices-back t p b) i }

-- ---- the fractals of the strokes

stroke_from : (ns ms : List ℕ) (F : List Fractal) → rows_from ns ms 1 F ≡ stroke_rows ns ms F
unfolding rows_from stroke_rows
stroke_from [] ms F = refl
stroke_from (n ∷ ns) [] F = refl
stroke_from (n ∷ ns) (m ∷ ms) F = refl

pub strokes-all : (ns ms : List ℕ) (F : List Fractal) → rows_from (drop 0 ns) (drop 0 ms) 1 (drop 0 F) ≡ stroke_rows ns ms F
strokes-all ns ms F = stroke_from ns ms F

module _ (ns ms : List ℕ) (F : List Fractal) (at i : ℕ) (a : i < length ns) (b : i < length ms) where
  abbrev Rest : List Fractal
  Rest = stroke_rows (drop (suc i) ns) (drop (suc i) ms) (drop (at + get_or ns i 0) F)

  from_cons : (j : ℕ) → rows_from (drop i ns) (drop i ms) j (drop at F) ≡ drop j (take (get_or ms i 0) (drop at F)) ++ Rest
  unfolding rows_from
  from_cons j =
      (λ t. rows_from (drop-cons ns i 0 a t) (drop-cons ms i 0 b t) j (drop at F))
      ∙ ap (λ (z : List Fractal). drop j (take (get_or ms i 0) (drop at F)) ++ stroke_rows (drop (suc i) ns) (drop (suc i) ms) z) (drop-drop (get_or ns i 0) at F)

  -- none is left of the i-th
  pub stroke_over : (j : ℕ) → get_or ms i 0 ≤ j → rows_from (drop i ns) (drop i ms) j (drop at F) ≡ rows_from (drop (i + 1) ns) (drop (i + 1) ms) 1 (drop (at + get_or ns i 0) F)
  stroke_over j h =
      let c : i + 1 ≡ suc i = omega arith in
      let z : length (take (get_or ms i 0) (drop at F)) ≤ j = rw length-take (omega arith) in
      from_cons j
      ∙ ap (λ (x : List Fractal). x ++ Rest) (drop_of_length-le (take (get_or ms i 0) (drop at F)) {i = j} z)
      ∙ sym (stroke_from (drop (suc i) ns) (drop (suc i) ms) (drop (at + get_or ns i 0) F))
      ∙ (λ t. rows_from (drop (sym c t) ns) (drop (sym c t) ms) 1 (drop (at + get_or ns i 0) F))

  -- the next one stands in row j of its rows
  pub stroke_row : (j : ℕ) (f : Fractal) → drop j (take (get_or ms i 0) (drop at F)) ≡ f ∷ drop (suc j) (take (get_or ms i 0) (drop at F))
      → rows_from (drop i ns) (drop i ms) j (drop at F) ≡ f ∷ rows_from (drop i ns) (drop i ms) (j + 1) (drop at F)
  stroke_row j f e =
      let c : j + 1 ≡ suc j = omega arith in
      from_cons j
      ∙ ap (λ (x : List Fractal). x ++ Rest) e
      ∙ ap (λ (x : List Fractal). f ∷ x) (sym (from_cons (suc j)))
      ∙ (λ t. f ∷ rows_from (drop i ns) (drop i ms) (sym c t) (drop at F))

rows_none : (ns ms : List ℕ) (j : ℕ) (F : List Fractal) → length ns ≡ 0 → rows_from ns ms j F ≡ []
unfolding rows_from
rows_none [] ms j F h = refl
rows_none (n ∷ ns) ms j F h = let z : ⊥ = omega arith in absurd z

pub strokes_end : (ns ms : List ℕ) (i j : ℕ) (F : List Fractal) → length ns ≤ i → rows_from (drop i ns) (drop i ms) j F ≡ []
strokes_end ns ms i j F h = rows_none (drop i ns) (drop i ms) j F (omega (arith, length-drop i ns))

module _ (ts : List (List ℤ)) (ps : List (List Float)) (same : length ps ≡ length ts) (at m j : ℕ) (inside : at + m ≤ length ts) (k : j < m) where
  abbrev M : List Fractal
  M = take m (drop at (stored_fractals (fractal_store ts ps)))

  pub row_cons : drop j M ≡ row_fractal (get_or ts (at + j) []) (get_or ps (at + j) []) ∷ drop (suc j) M
  unfolding stored_fractals
  row_cons =
      let l : length (zip_with row_fractal ts ps) ≡ length ts = zip_length row_fractal ts ps (sym same) in
      let n : length M ≡ m = length-take-le m (drop at (zip_with row_fractal ts ps)) (omega (arith, length-drop at (zip_with row_fractal ts ps))) in
      drop-cons M j no_fractal (omega arith)
      ∙ ap (λ (x : Fractal). x ∷ drop (suc j) M)
      (get_or-take m (drop at (zip_with row_fractal ts ps)) j no_fractal k ∙ get_or-drop at (zip_with row_fractal ts ps) j no_fractal
      ∙ zip-at row_fractal (at + j) ts ps [] [] no_fractal (omega arith) (omega arith))

-- what the code knows of the i-th stroke
module _ (r : FractalStore) (ns ms : List ℕ) (i at : ℕ) (h : CanRead r ns ms i at) (a : i < length ns) where
  pub counted_too : i < length ms
  counted_too = omega (arith, h.alike)

  total_cons : total (drop i ns) ≡ get_or ns i 0 + total (drop (i + 1) ns)
  unfolding total
  total_cons =
      let c : i + 1 ≡ suc i = omega arith in
      ap total (drop-cons ns i 0 a) ∙ ap (λ (k : ℕ). get_or ns i 0 + total (drop k ns)) (sym c)

  pub bars_fit : at + get_or ns i 0 ≤ length r.stamps
  bars_fit = let e = total_cons in let f = h.fits in omega arith

  pub fractals_fit : at + get_or ms i 0 ≤ length r.stamps
  fractals_fit = let e = fewer-at ns ms i h.fewer a counted_too in let f = bars_fit in omega arith

  pub can_over : CanRead r ns ms (i + 1) (at + get_or ns i 0)
  can_over =
      let e = total_cons in
      let f = h.fits in
      record { even = h.even; small = h.small; alike = h.alike; fewer = h.fewer; fits = omega arith }

-- ---- the strokes', then those of the unfinished bars

module _ (a a' b b' : List Fractal) where
  pub front_out : (r : FractalRows) → (f : Fractal) × (r ≡ rows_of f) × (a ≡ f ∷ a') → GivesRows (a ++ b) (Some r) (a' ++ b)
  front_out r h = (h.0, h.1, ap (λ (x : List Fractal). x ++ b) h.2)

  pub back_out : (r : FractalRows) (f : Fractal) → r ≡ rows_of f → (a ≡ []) × (a' ≡ []) → b ≡ f ∷ b' → GivesRows (a ++ b) (Some r) (a' ++ b')
  back_out r f q e h = (f, q, (λ i. e.0 i ++ h i) ∙ ap (λ (x : List Fractal). f ∷ x ++ b') (sym e.1))

  pub all_out : (a ≡ []) × (a' ≡ []) → (b ≡ []) × (b' ≡ []) → GivesRows (a ++ b) None (a' ++ b')
  all_out e h = ((λ i. e.0 i ++ h.0 i), (λ i. e.1 i ++ h.1 i))

-- ---- whether it is listed

module _ (p : Option ℤ) (l m : List Fractal) (r : FractalRows) (t : ℤ) (h : t ≡ get_or r.stamps 1 (pos 0)) (g : (f : Fractal) × (r ≡ rows_of f) × (l ≡ f ∷ m)) where
  time_is : time_of g.0 ≡ t
  unfolding rows_of stamp_row stamps_of time_of
  time_is = ap (λ (x : FractalRows). get_or x.stamps 1 (pos 0)) (sym g.1) ∙ sym h

  step_is : later_than p l ≡ list_if (is_after p t) g.0 p (λ q. later_than q m)
  unfolding later_than
  step_is = ap (later_than p) g.2 ∙ ap (λ (x : ℤ). list_if (is_after p x) g.0 p (λ q. later_than q m)) time_is

  pub listed_here : is_after p t ≡ true → map rows_of (later_than p l) ≡ r ∷ map rows_of (later_than (some t) m)
  unfolding list_if
  listed_here e =
      ap (map rows_of) (step_is ∙ ap (λ (b : Bool). list_if b g.0 p (λ q. later_than q m)) e)
      ∙ (λ i. sym g.1 i ∷ map rows_of (later_than (some (time_is i)) m))

  pub left_out : is_after p t ≡ false → later_than p l ≡ later_than p m
  unfolding list_if
  left_out e = step_is ∙ ap (λ (b : Bool). list_if b g.0 p (λ q. later_than q m)) e

-- from one state of the walk to the next
module _ (s t : FxList) (r : FractalRows) (u : ℤ) (h : u ≡ get_or r.stamps 1 (pos 0)) (g : (f : Fractal) × (r ≡ rows_of f) × (all_left s ≡ f ∷ all_left t)) (e : t.last ≡ s.last) where
  pub listed_next : is_after (time_of_last t.last) u ≡ true → rows_left s ≡ r ∷ rows_left (record { strokes = t.strokes; unfinished = t.unfinished; last = Some u })
  unfolding rows_left listed_left all_left time_of_last
  listed_next k =
      ap (λ (o : Std.Option ℤ). map rows_of (later_than (time_of_last o) (all_left s))) (sym e)
      ∙ listed_here (time_of_last t.last) (all_left s) (all_left t) r u h g k

  pub left_next : is_after (time_of_last t.last) u ≡ false → listed_left t ≡ listed_left s
  unfolding listed_left
  left_next k =
      sym (left_out (time_of_last t.last) (all_left s) (all_left t) r u h g k)
      ∙ ap (λ (o : Std.Option ℤ). later_than (time_of_last o) (all_left s)) e

pub none_listed : (w : FxList) → all_left w ≡ [] → listed_left w ≡ []
unfolding listed_left later_than
none_listed w e = ap (later_than (time_of_last w.last)) e
