-- A kept stroke that is named by its place: its rows show it, and what a sound stand says of them. Assumes nothing.
use Prim.Native.Nat.{ℕ, zero, suc, ◌+◌, ◌≤◌, ◌<◌}
use native.Mathlib.Omega.{arith}
use mathlib.Core.Path.{◌≡◌, refl, ap, ◌∙◌, subst}
use mathlib.Core.Bool.{Bool, ◌&&◌}
use mathlib.Core.List.{List, [], ◌∷◌}
use mathlib.Core.Option.{Option, none, some}
use lib.Dec.{T, leb, leb→le}
use lib.ListN.{length, take, drop, get_or, length-drop}
use lib.Seq.{take-take, drop-drop, get_or-take, get_or-drop, length-take-le}
use lib.Ieee.Fits.{and_l, and_r}
use Rattle.bars.specs.Bars.{Merged}
use Rattle.bars.specs.Lists.{every, some_of}
use Rattle.stores.specs.Stores.{merged_bars}
use Rattle.stores.proofs.Columns.{merged-length, zip-at}
use Rattle.machine.specs.Fractals.{Fractal}
use Rattle.machine.specs.Strokes.{Stroke}
use Rattle.machine.specs.Soundness.{is_stroke, alternates, same_fractal}
use Rattle.strokes.specs.declared.Stand.{Stand}
use Rattle.strokes.specs.StateRead.{row_fractal, stored_fractals, stroke_with, strokes_with, bar_counts, fractal_counts, total, state_of}
use Rattle.strokes.specs.Lent.{Stores}
use Rattle.strokes.specs.Code.StrokeSteps.{Fewer, Kept}
use Rattle.strokes.proofs.StoredStrokes.{stored_length, length-take-most, not-empty}
use Rattle.named.specs.declared.stroke_rows.StrokeRows.{StrokeRows}
use Rattle.named.specs.ReportQuestions.{nth}
use Rattle.named.specs.Code.NamedRows.{rows_of, stroke_in, RowsStand}

-- ---- a place in a list

pub nth-none : {A : Type 0} (l : List A) (i : ℕ) → length l ≤ i → nth l i ≡ none
unfolding nth
nth-none [] i h = refl
nth-none (a ∷ l) zero h = let w : ⊥ = omega arith in absurd w
nth-none (a ∷ l) (suc i) h = nth-none l i (omega arith)

pub nth-at : {A : Type 0} (l : List A) (i : ℕ) (z : A) → i < length l → nth l i ≡ some (get_or l i z)
unfolding nth
nth-at [] i z h = let w : ⊥ = omega arith in absurd w
nth-at (a ∷ l) zero z h = refl
nth-at (a ∷ l) (suc i) z h = nth-at l i z (omega arith)

-- ---- by recursion

stroke-nth : (ns ms : List ℕ) (ks : List Merged) (fs : List Fractal) (i : ℕ) → i < length ns → i < length ms
    → nth (strokes_with ns ms ks fs) i ≡ some (stroke_with (take (get_or ms i 0) (drop (total (take i ns)) fs)) (take (get_or ns i 0) (drop (total (take i ns)) ks)))
unfolding nth strokes_with total
stroke-nth [] ms ks fs i h k = let w : ⊥ = omega arith in absurd w
stroke-nth (n ∷ ns) [] ks fs i h k = let w : ⊥ = omega arith in absurd w
stroke-nth (n ∷ ns) (m ∷ ms) ks fs zero h k = refl
stroke-nth (n ∷ ns) (m ∷ ms) ks fs (suc i) h k =
    stroke-nth ns ms (drop n ks) (drop n fs) i (omega arith) (omega arith)
    ∙ (λ j. some (stroke_with (take (get_or ms i 0) (drop-drop (total (take i ns)) n fs j)) (take (get_or ns i 0) (drop-drop (total (take i ns)) n ks j))))

pub total_part : (ns : List ℕ) (i : ℕ) → i < length ns → total (take i ns) + get_or ns i 0 ≤ total ns
unfolding total
total_part [] i h = let w : ⊥ = omega arith in absurd w
total_part (n ∷ ns) zero h = omega arith
total_part (n ∷ ns) (suc i) h = let e = total_part ns i (omega arith) in omega arith

pub fewer-at : (ns ms : List ℕ) (i : ℕ) → Fewer ns ms → i < length ns → i < length ms → get_or ms i 0 ≤ get_or ns i 0
fewer-at [] ms i f h k = let w : ⊥ = omega arith in absurd w
fewer-at (n ∷ ns) [] i f h k = let w : ⊥ = omega arith in absurd w
fewer-at (n ∷ ns) (m ∷ ms) zero f h k = f.0
fewer-at (n ∷ ns) (m ∷ ms) (suc i) f h k = fewer-at ns ms i f.1 (omega arith) (omega arith)

abbrev Passes : {A : Type 0} → (A → Bool) → Option A → Type 0
Passes p none = Unit {0}
Passes p (some a) = T (p a)

each-passes : {A : Type 0} (p : A → Bool) (l : List A) (i : ℕ) → T (every p l) → Passes p (nth l i)
unfolding nth every
each-passes p [] i h = tt
each-passes p (x ∷ l) zero h = and_l (p x) (every p l) h
each-passes p (x ∷ l) (suc i) h = each-passes p l i (and_r (p x) (every p l) h)

pub every-nth : {A : Type 0} (p : A → Bool) (l : List A) (i : ℕ) (a : A) → nth l i ≡ some a → T (every p l) → T (p a)
every-nth {A = A} p l i a e h = subst (λ (o : Option A). Passes p o) e (each-passes p l i h)

-- ---- of a stand

pub rows_are : (s : Stand) (i : ℕ) (r : StrokeRows) → r.first ≡ total (take i s.bars) → r.bars ≡ get_or s.bars i 0 → r.fractals ≡ get_or s.fractals i 0 → r ≡ rows_of s i
unfolding rows_of
rows_are s i r a b c = λ j. record { first = a j; bars = b j; fractals = c j }

module _ (s : Stand) (m : Stores) (i : ℕ) (h : i < s.strokes) (few : s.strokes ≤ 65) (lb : length s.bars ≡ 65) (lf : length s.fractals ≡ 65) where
  in_bars : i < length (bar_counts s)
  unfolding bar_counts
  in_bars = omega (arith, length-take-le s.strokes s.bars (omega arith))

  in_fractals : i < length (fractal_counts s)
  unfolding fractal_counts
  in_fractals = omega (arith, length-take-le s.strokes s.fractals (omega arith))

  first-is : total (take i (bar_counts s)) ≡ (rows_of s i).first
  unfolding bar_counts rows_of
  first-is = ap total (take-take i s.strokes s.bars (omega arith))

  bars_are : get_or (bar_counts s) i 0 ≡ (rows_of s i).bars
  unfolding bar_counts rows_of
  bars_are = get_or-take s.strokes s.bars i 0 h

  fractals_are : get_or (fractal_counts s) i 0 ≡ (rows_of s i).fractals
  unfolding fractal_counts rows_of
  fractals_are = get_or-take s.strokes s.fractals i 0 h

  -- its rows show it
  pub stroke-at : nth (state_of s m).strokes i ≡ some (stroke_in m (rows_of s i))
  unfolding state_of stroke_in
  stroke-at =
      stroke-nth (bar_counts s) (fractal_counts s) (merged_bars m.strokes) (stored_fractals m.fractals) i in_bars in_fractals
      ∙ (λ j. some (stroke_with (take (fractals_are j) (drop (first-is j) (stored_fractals m.fractals))) (take (bars_are j) (drop (first-is j) (merged_bars m.strokes)))))

  pub first-within : (rows_of s i).first + (rows_of s i).bars ≤ total (bar_counts s)
  first-within = omega (arith, total_part (bar_counts s) i in_bars, first-is, bars_are)

-- ---- of a stand whose strokes pass

module _ (s : Stand) (m : Stores) (i : ℕ) (h : i < s.strokes) (lb : length s.bars ≡ 65) (lf : length s.fractals ≡ 65) (k : Kept s m.strokes m.fractals) where
  abbrev rows : StrokeRows
  rows = rows_of s i

  abbrev here : Stroke
  here = stroke_in m rows

  passes : (p : Stroke → Bool) → T (every p (state_of s m).strokes) → T (p here)
  passes p t = every-nth p (state_of s m).strokes i here (stroke-at s m i h k.strokes lb lf) t

  inside : rows.first + rows.bars ≤ s.rooms.strokes
  inside = omega (arith, first-within s m i h k.strokes lb lf, k.fits)

  few : rows.fractals ≤ rows.bars
  few =
      let ms = fractal_counts s in
      let e = fewer-at (bar_counts s) ms i k.fewer (in_bars s m i h k.strokes lb lf) (in_fractals s m i h k.strokes lb lf) in
      omega (arith, e, bars_are s m i h k.strokes lb lf, fractals_are s m i h k.strokes lb lf)

  bars-most : length here.bars ≤ rows.bars
  unfolding stroke_in stroke_with
  bars-most = length-take-most rows.bars (drop rows.first (merged_bars m.strokes))

  fractals-most : length here.fractals ≤ rows.fractals
  unfolding stroke_in stroke_with
  fractals-most = length-take-most rows.fractals (drop rows.first (stored_fractals m.fractals))

  pub rows-stand : T (every is_stroke (state_of s m).strokes) → RowsStand rows s.rooms.strokes
  unfolding is_stroke
  rows-stand t =
      let b = here in
      let g = passes is_stroke t in
      let x = leb 4 (length b.bars) in
      let y = alternates none b.fractals in
      let u = some_of (same_fractal b.start) b.fractals in
      let v = some_of (same_fractal b.end) b.fractals in
      let w = and_l x y (and_l (x && y) (u && v) g) in
      let o = not-empty (same_fractal b.start) b.fractals (and_l u v (and_r (x && y) (u && v) g)) in
      record {
        fits = inside;
        four = omega (arith, leb→le 4 (length b.bars) w, bars-most);
        one = omega (arith, o, fractals-most);
        fewer = few;
      }

  module _ (g : RowsStand rows s.rooms.strokes) where
    pub bars-length : length here.bars ≡ rows.bars
    unfolding stroke_in stroke_with
    bars-length =
        length-take-le rows.bars (drop rows.first (merged_bars m.strokes))
        (omega (arith, inside, length-drop rows.first (merged_bars m.strokes), merged-length m.strokes s.rooms.strokes k.merged))

    pub fractals-length : length here.fractals ≡ rows.fractals
    unfolding stroke_in stroke_with
    fractals-length =
        length-take-le rows.fractals (drop rows.first (stored_fractals m.fractals))
        (omega (arith, inside, few, length-drop rows.first (stored_fractals m.fractals), stored_length m.fractals s.rooms.strokes k.fractals))

    -- the j-th fractal stands in the j-th row from the first
    pub fractal-row : (j : ℕ) (z : Fractal) → j < rows.fractals
        → get_or here.fractals j z ≡ row_fractal (get_or m.fractals.stamps (rows.first + j) []) (get_or m.fractals.prices (rows.first + j) [])
    unfolding stroke_in stroke_with stored_fractals
    fractal-row j z l =
        get_or-take rows.fractals (drop rows.first (stored_fractals m.fractals)) j z l
        ∙ get_or-drop rows.first (stored_fractals m.fractals) j z
        ∙ zip-at row_fractal (rows.first + j) m.fractals.stamps m.fractals.prices [] [] z
        (omega (arith, inside, few, k.fractals.stamps)) (omega (arith, inside, few, k.fractals.prices))
