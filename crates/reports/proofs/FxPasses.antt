-- The listing of fractals: they are few, question 14 asks for their places, and what is answered. Assumes nothing.
use Prim.Native.Nat.{ℕ, ◌≤◌, ◌<◌, min}
use native.Mathlib.Omega.{arith}
use mathlib.Core.Path.{◌≡◌, refl, ap, sym, ◌∙◌}
use mathlib.Core.Bool.{Bool, true, false, ◌&&◌}
use mathlib.Core.List.{List, [], ◌∷◌, map}
use mathlib.Core.Option.{Option, none, some}
use lib.ListN.{length, take, drop, length-map, length-drop, length-append}
use lib.Dec.{leb}
use lib.IntN.{ℤ}
use Rattle.stores.specs.Stores.{RawStore, raw_bars}
use Rattle.machine.specs.Fractals.{Fractal, time_of, check_fxs}
use Rattle.strokes.specs.declared.Stand.{Stand}
use Rattle.strokes.specs.StateRead.{stored_fractals, bar_counts, fractal_counts, total}
use Rattle.strokes.specs.Lent.{FractalStore}
use Rattle.strokes.specs.Code.StrokeSteps.{Fewer, plain_bar, fractals_between}
use Rattle.strokes.specs.FractalRows.{put_fractals}
use Rattle.strokes.proofs.StoredStrokes.{length-take-most, fxs-few}
use Rattle.reports.specs.FractalList.{is_after, list_if, later_than}
use Rattle.reports.specs.Code.FxListing.{rows_of, stroke_rows}
use Rattle.reports.specs.FxAnswers.{fits_all, listed_by, output_by, FxDone}
use Rattle.reports.proofs.FxRows.{all_rows, CanGo}
use Rattle.reports.proofs.FxWritten.{put_rows, rows_put}
use borrow.Author.Tests.{le-leb, leb-true}
use Rattle.std.proofs.Common.{Ok, Err}
use Rattle.bars.specs.declared.refusals.Question.TheVariants.{OutputRoom}

-- ---- they are few

pub windows_few : (u : RawStore) (n : ℕ) → length (fractals_between u 0 n) ≤ n
unfolding fractals_between check_fxs
windows_few u n =
    let X = map plain_bar (raw_bars u) in
    let a = fxs-few none (take n X) in
    let b = length-take-most n X in
    omega arith

strokes-few : (ns ms : List ℕ) (fs : List Fractal) → Fewer ns ms → length (stroke_rows ns ms fs) ≤ total ns
unfolding stroke_rows total
strokes-few [] ms fs h = omega arith
strokes-few (n ∷ ns) [] fs h = omega arith
strokes-few (n ∷ ns) (m ∷ ms) fs h =
    let k = h.0 in
    let a = length-append (drop 1 (take m fs)) (stroke_rows ns ms (drop n fs)) in
    let b = length-drop 1 (take m fs) in
    let d = length-take-most m fs in
    let e = strokes-few ns ms (drop n fs) h.1 in
    omega arith

pub rows_few : (s : Stand) (u : RawStore) (f : FractalStore) → CanGo s u f → length (all_rows s u f) < 4294967296
unfolding all_rows
rows_few s u f h =
    let a = strokes-few (bar_counts s) (fractal_counts s) (stored_fractals f) h.fewer in
    let b = windows_few u s.unfinished in
    let d = length-append (stroke_rows (bar_counts s) (fractal_counts s) (stored_fractals f)) (fractals_between u 0 s.unfinished) in
    let x = h.fits in
    let y = h.small in
    let z = h.few in
    omega arith

later_if : (b : Bool) (f : Fractal) (p : Option ℤ) (l : List Fractal) → ((q : Option ℤ) → length (later_than q l) ≤ length l) → length (list_if b f p (λ q. later_than q l)) ≤ length (f ∷ l)
unfolding list_if
later_if true f p l h = let k = h (some (time_of f)) in omega arith
later_if false f p l h = let k = h p in omega arith

pub later_few : (p : Option ℤ) (l : List Fractal) → length (later_than p l) ≤ length l
unfolding later_than
later_few p [] = omega arith
later_few p (f ∷ l) = later_if (is_after p (time_of f)) f p l (λ q. later_few q l)

-- ---- question 14

fits_yes : (d : FractalStore) (n : ℕ) → n ≤ length d.stamps → n ≤ length d.prices → fits_all d n ≡ true
unfolding fits_all
fits_yes d n a b = λ i. le-leb n (length d.stamps) a i && le-leb n (length d.prices) b i

few_of : (x y : Bool) (n a b : ℕ) → leb n a ≡ x → leb n b ≡ y → min a b < n → (x && y) ≡ false
few_of true true n a b p q h = let x = leb-true n a p in let y = leb-true n b q in let w : ⊥ = omega arith in absurd w
few_of true false n a b p q h = refl
few_of false y n a b p q h = refl

fits_few : (d : FractalStore) (n : ℕ) → min (length d.stamps) (length d.prices) < n → fits_all d n ≡ false
unfolding fits_all
fits_few d n h = few_of _ _ n (length d.stamps) (length d.prices) refl refl h

-- ---- what the listing returns

done_no : (l : List Fractal) (d d' : FractalStore) → fits_all d (length l) ≡ false → d' ≡ d → FxDone true l d d' (Err OutputRoom)
unfolding listed_by output_by
done_no l d d' e q =
    record {
      answer = ap (λ (b : Bool). listed_by true b (length l)) (sym e);
      output = q ∙ ap (λ (b : Bool). output_by (true && b) d l) (sym e);
    }

done_yes : (l : List Fractal) (d d' : FractalStore) (n : ℕ) → fits_all d (length l) ≡ true → n ≡ length l → d' ≡ put_fractals d 0 l → FxDone true l d d' (Ok n)
unfolding listed_by output_by
done_yes l d d' n e k q =
    record {
      answer = ap Ok k ∙ ap (λ (b : Bool). listed_by true b (length l)) (sym e);
      output = q ∙ ap (λ (b : Bool). output_by (true && b) d l) (sym e);
    }

-- of n rows
module _ (l : List Fractal) (d : FractalStore) (n : ℕ) (e : n ≡ length (map rows_of l)) where
  n-is : n ≡ length l
  n-is = e ∙ length-map l rows_of

  pub few_places : min (length d.stamps) (length d.prices) < n → FxDone true l d d (Err OutputRoom)
  few_places h = let k = n-is in done_no l d d (fits_few d (length l) (omega arith)) refl

  pub all_written : (d' : FractalStore) → n ≤ length d.stamps → n ≤ length d.prices → d' ≡ put_rows d 0 (map rows_of l) → FxDone true l d d' (Ok n)
  all_written d' a b q = let k = n-is in done_yes l d d' n (fits_yes d (length l) (omega arith) (omega arith)) k (q ∙ rows_put d l)
