-- Strokes read off the rows by place are those of the stand's state.
-- Assumes nothing.
use Prim.Native.Nat.{ℕ, zero, suc, ◌+◌, ◌-◌, ◌*◌, ◌/◌, ◌≤◌, ◌<◌}
use native.Mathlib.Omega.{arith}
use mathlib.Core.Path.{◌≡◌, refl, ap, sym, ◌∙◌}
use mathlib.Core.Bool.{◌&&◌}
use mathlib.Core.List.{List, [], ◌∷◌, map}
use mathlib.Core.Option.{none, some, some-injective}
use lib.ListN.{length, take, drop, get_or, length-drop}
use lib.Seq.{take-take, drop-cons, get_or-take, get_or-drop, length-take-le}
use lib.IntN.{ℤ, pos}
use lib.Ieee.{Float, nan}
use lib.Ieee.Fits.{and_l, and_r}
use lib.Dec.{T, leb}
use Rattle.bars.specs.Bars.{Merged}
use Rattle.bars.specs.Lists.{some_of}
use Rattle.stores.specs.Stores.{MergedStore, bar_of, merged_bars}
use Rattle.stores.proofs.Columns.{zip-at}
use Rattle.machine.specs.Fractals.{Fractal, time_of}
use Rattle.machine.specs.Strokes.{Stroke}
use Rattle.machine.specs.Break.{high_of, low_of}
use Rattle.machine.specs.Soundness.{alternates, same_fractal, is_stroke, strokes_pass}
use Rattle.check_bi.specs.Code.Scan.{candle_of}
use Rattle.strokes.specs.declared.Stand.{Stand}
use Rattle.strokes.specs.StateRead.{row_bar, fractal_of, row_fractal, no_fractal, stored_fractals, stroke_with, bar_counts, fractal_counts, total, state_of}
use Rattle.strokes.specs.Lent.{FractalStore, Stores}
use Rattle.strokes.specs.Code.StrokeSteps.{SizedFractals}
use Rattle.strokes.proofs.StoredStrokes.{stored_length, length-take-most, row-mark, not-empty}
use Rattle.sound.specs.StandSound.{IsSound}
use Rattle.sound.proofs.SoundFacts.{Facts, facts}
use Rattle.named.specs.ReportQuestions.{nth, run_of}
use Rattle.named.specs.Code.NamedRows.{rows_of, stroke_in, mark_at, middle_at}
use Rattle.named.proofs.StrokeAt.{stroke-at, every-nth, total_part, fewer-at, nth-at}
use Rattle.zones.specs.Zones.{summary}
use Rattle.zones.specs.Code.StrokesRead.{stroke_place, fractal_number, stroke_end, summary_from, summary_at, items_from, read_run, StrokeStands, RunStands}

-- ---- the stroke at a place

-- its fractals and its bars
abbrev pub fractals_at : Stand → FractalStore → ℕ → List Fractal
fractals_at s f i = take (fractal_number s i) (drop (stroke_place s i) (stored_fractals f))

abbrev pub bars_at : Stand → MergedStore → ℕ → List Merged
bars_at s k i = take (get_or s.bars i 0) (drop (stroke_place s i) (merged_bars k))

-- ---- what stands in a fractal's row

row-middle : (t : List ℤ) (p : List Float) → candle_of (row_fractal t p).mid ≡ record { time = get_or t 1 (pos 0); high = get_or p 8 nan; low = get_or p 9 nan }
unfolding candle_of row_fractal fractal_of row_bar bar_of
row-middle t p =
    λ j. record { time = get_or t 1 (pos 0); high = (get_or-take 6 (drop 6 p) 2 nan (omega arith) ∙ get_or-drop 6 p 2 nan) j; low = (get_or-take 6 (drop 6 p) 3 nan (omega arith) ∙ get_or-drop 6 p 3 nan) j }

module _ (s : Stand) (f : FractalStore) (n i : ℕ) (sized : SizedFractals f n) (h : StrokeStands s f i) where
  -- the j-th of its fractals
  pub fractal-at : (j : ℕ) → j < fractal_number s i → get_or (fractals_at s f i) j no_fractal ≡ row_fractal (get_or f.stamps (stroke_place s i + j) []) (get_or f.prices (stroke_place s i + j) [])
  unfolding stored_fractals
  fractal-at j b =
      let p = h.stamps in
      let q = h.prices in
      get_or-take (fractal_number s i) (drop (stroke_place s i) (stored_fractals f)) j no_fractal b
      ∙ get_or-drop (stroke_place s i) (stored_fractals f) j no_fractal
      ∙ zip-at row_fractal (stroke_place s i + j) f.stamps f.prices [] [] no_fractal (omega arith) (omega arith)

  pub mark-at : (j : ℕ) → j < fractal_number s i → (get_or (fractals_at s f i) j no_fractal).mark ≡ mark_at f (stroke_place s i + j)
  unfolding mark_at
  mark-at j b = ap (λ (x : Fractal). x.mark) (fractal-at j b) ∙ row-mark (get_or f.stamps (stroke_place s i + j) []) (get_or f.prices (stroke_place s i + j) [])

  pub middle-at : (j : ℕ) → j < fractal_number s i → candle_of (get_or (fractals_at s f i) j no_fractal).mid ≡ middle_at f (stroke_place s i + j)
  unfolding middle_at
  middle-at j b = ap (λ (x : Fractal). candle_of x.mid) (fractal-at j b) ∙ row-middle (get_or f.stamps (stroke_place s i + j) []) (get_or f.prices (stroke_place s i + j) [])

  pub fractals-length : length (fractals_at s f i) ≡ fractal_number s i
  fractals-length =
      let p = h.stamps in
      length-take-le (fractal_number s i) (drop (stroke_place s i) (stored_fractals f)) (omega (arith, length-drop (stroke_place s i) (stored_fractals f), stored_length f n sized, sized.stamps))

  of_ends : (a z : Fractal) (fx : List Fractal) (ks : List Merged) → summary (record { start = a; end = z; fractals = fx; bars = ks }) ≡ summary_from a.mark (candle_of a.mid) (candle_of z.mid)
  unfolding summary summary_from candle_of high_of low_of time_of
  of_ends a z fx ks = refl

  pub summary-is : (ks : List Merged) → summary (stroke_with (fractals_at s f i) ks) ≡ summary_at s f i
  unfolding stroke_with summary_at stroke_end
  summary-is ks =
      let fx = fractals_at s f i in
      let m = fractal_number s i in
      let e = 2 * (m / 2) - 1 in
      let one = h.some in
      let z : stroke_place s i + 0 ≡ stroke_place s i = omega arith in
      of_ends (get_or fx 0 no_fractal) (get_or fx (2 * (length fx / 2) - 1) no_fractal) fx ks
      ∙ ap (λ (x : ℕ). summary_from (get_or fx 0 no_fractal).mark (candle_of (get_or fx 0 no_fractal).mid) (candle_of (get_or fx (2 * (x / 2) - 1) no_fractal).mid)) fractals-length
      ∙ (λ j. summary_from (mark-at 0 (omega arith) j) (middle-at 0 (omega arith) j) (middle-at e (omega arith) j))
      ∙ ap (λ (x : ℕ). summary_from (mark_at f x) (middle_at f x) (middle_at f (stroke_place s i + e))) z

-- ---- a sound stand's strokes can be read

has_fractal : (b : Stroke) → T (is_stroke b) → 1 ≤ length b.fractals
unfolding is_stroke
has_fractal b h =
    let x = leb 4 (length b.bars) && alternates none b.fractals in
    let u = some_of (same_fractal b.start) b.fractals in
    let v = some_of (same_fractal b.end) b.fractals in
    not-empty (same_fractal b.start) b.fractals (and_l u v (and_r x (u && v) h))

module _ (s : Stand) (m : Stores) (lb : length s.bars ≡ 65) (lf : length s.fractals ≡ 65) (h : IsSound s m) where
  F : Facts s m
  F = facts s m lb lf h

  within-bars : s.strokes ≤ length s.bars
  within-bars = let few = F.few-strokes in omega arith

  within-fractals : s.strokes ≤ length s.fractals
  within-fractals = let few = F.few-strokes in omega arith

  pub stroke-is : (i : ℕ) → i < s.strokes → nth (state_of s m).strokes i ≡ some (stroke_with (fractals_at s m.fractals i) (bars_at s m.strokes i))
  unfolding rows_of stroke_in stroke_place fractal_number
  stroke-is i b = let few = F.few-strokes in stroke-at s m i b (omega arith) lb lf

  stroke-here : (i : ℕ) → i < s.strokes → T (is_stroke (stroke_with (fractals_at s m.fractals i) (bars_at s m.strokes i)))
  unfolding strokes_pass
  stroke-here i b = every-nth is_stroke (state_of s m).strokes i (stroke_with (fractals_at s m.fractals i) (bars_at s m.strokes i)) (stroke-is i b) F.clauses.strokes

  pub stroke-stands : (i : ℕ) → i < s.strokes → StrokeStands s m.fractals i
  unfolding bar_counts fractal_counts stroke_place fractal_number stroke_with
  stroke-stands i b =
      let n = s.strokes in
      let few = F.few-strokes in
      let room = F.room-strokes.to in
      let fits = F.few-bars in
      let one = has_fractal (stroke_with (fractals_at s m.fractals i) (bars_at s m.strokes i)) (stroke-here i b) in
      let most = length-take-most (fractal_number s i) (drop (stroke_place s i) (stored_fractals m.fractals)) in
      let lenb = length-take-le n s.bars within-bars in
      let lenf = length-take-le n s.fractals within-fractals in
      let less = fewer-at (bar_counts s) (fractal_counts s) i F.kept.fewer (omega arith) (omega arith) in
      let x = get_or-take n s.bars i 0 b in
      let y = get_or-take n s.fractals i 0 b in
      let t = total_part (bar_counts s) i (omega arith) in
      let u = ap total (take-take i n s.bars (omega arith)) in
      let p = F.fractals.stamps in
      let q = F.fractals.prices in
      record { place = omega arith; some = omega arith; stamps = omega arith; prices = omega arith; small = omega arith }

  pub run-stands : (first count : ℕ) → first + count ≤ s.strokes → RunStands s m.fractals first count
  run-stands first count b = let few = F.few-strokes in record { places = omega arith; each = λ j k. stroke-stands (first + j) (omega arith) }

  state-at : (i : ℕ) (z : Stroke) → i < s.strokes → get_or (state_of s m).strokes i z ≡ stroke_with (fractals_at s m.fractals i) (bars_at s m.strokes i)
  state-at i z b = some-injective _ _ (sym (nth-at (state_of s m).strokes i z (omega (arith, F.strokes-length))) ∙ stroke-is i b)

  -- a run that is read is the run of the state's strokes
  pub run_read : (first count : ℕ) → first + count ≤ s.strokes → read_run s m.fractals first count ≡ map summary (run_of (state_of s m).strokes first count)
  unfolding read_run items_from run_of
  run_read first zero b = refl
  run_read first (suc n) b =
      let z = stroke_with [] [] in
      let l = (state_of s m).strokes in
      let len = F.strokes-length in
      let c : first < s.strokes = omega arith in
      (λ j. (sym (summary-is s m.fractals s.rooms.strokes first F.fractals (stroke-stands first c) (bars_at s m.strokes first)) ∙ ap summary (sym (state-at first z c))) j ∷ run_read (suc first) n (omega arith) j)
      ∙ ap (λ (x : List Stroke). map summary (take (suc n) x)) (sym (drop-cons l first z (omega arith)))
