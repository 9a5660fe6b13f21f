-- What a sound stand gives get_fx_list, and that the elements of fractals' bars, which are not stored, are no part of its answer. Assumes nothing.
use Prim.Native.Nat.{ℕ, ◌≤◌, ◌<◌}
use native.Mathlib.Omega.{arith}
use mathlib.Core.Path.{◌≡◌, refl, ap, sym, ◌∙◌, subst}
use mathlib.Core.Bool.{Bool, true, false, ◌&&◌}
use mathlib.Core.List.{List, [], ◌∷◌, ◌++◌, map, map-append}
use mathlib.Core.Option.{Option, none, some}
use lib.ListN.{length, take, length-map}
use lib.Seq.{length-take-le}
use lib.IntN.{ℤ}
use lib.Ieee.{Float}
use Rattle.bars.specs.Bars.{Merged}
use Rattle.stores.specs.Stores.{RawStore, MergedStore, raw_part, raw_bars, merged_bars}
use Rattle.stores.specs.Code.StoreRows.{SizedMerged}
use Rattle.stores.proofs.Columns.{merged-bars}
use Rattle.stores.proofs.KeptBars.{map-take}
use Rattle.machine.specs.Fractals.{Fractal, time_of, check_fxs, fxs_after}
use Rattle.strokes.specs.declared.Stand.{Stand}
use Rattle.strokes.specs.StateRead.{state_of, stored_fractals, bar_counts, fractal_counts, total, bare_bar, bare_fractal}
use Rattle.strokes.specs.Lent.{Stores, FractalStore, fractal_store}
use Rattle.strokes.specs.Code.StrokeSteps.{plain_bar, fractals_between}
use Rattle.strokes.specs.FractalRows.{stamp_row, price_row, pasted, put_fractals}
use Rattle.strokes.proofs.StoredFractals.{fxs_bare}
use Rattle.strokes.proofs.StoredStrokes.{plain_bare, bare_twice}
use Rattle.sound.specs.StandSound.{IsSound}
use Rattle.question4.specs.Question4.{question4}
use Rattle.sound.proofs.SoundFacts.{Facts, facts}
use Rattle.question4.proofs.Question4Passed.{is-sound}
use Rattle.std.proofs.Common.{Result, Err, IsErrAnd}
use Rattle.bars.specs.declared.refusals.Question.{Question}
use Rattle.reports.specs.FractalList.{is_after, list_if, later_than, stroke_fxs, get_fx_list}
use Rattle.reports.specs.Code.FxListing.{stroke_rows, CanRead}
use Rattle.reports.specs.FxAnswers.{fits_all, listed_by, output_by, FxDone, fx_list_of}
use Rattle.reports.proofs.FxRows.{all_rows, CanGo}
use Rattle.reports.specs.Code.FirstQuestions.{if_sound}
use Rattle.reports.proofs.FirstLaws.{unsound, sound_no}
use Rattle.reports.proofs.FxListed.{strokes_are}
use Rattle.reports.proofs.FxPasses.{windows_few, rows_few, later_few}

-- ---- without elements

bare_if : (b : Bool) (f : Fractal) (p : Option ℤ) (rest rest' : Option ℤ → List Fractal) → ((q : Option ℤ) → map bare_fractal (rest q) ≡ rest' q)
    → map bare_fractal (list_if b f p rest) ≡ list_if b (bare_fractal f) p rest'
unfolding list_if bare_fractal bare_bar time_of
bare_if true f p rest rest' h = ap (λ (x : List Fractal). bare_fractal f ∷ x) (h (some (time_of f)))
bare_if false f p rest rest' h = h p

pub later_bare : (p : Option ℤ) (l : List Fractal) → map bare_fractal (later_than p l) ≡ later_than p (map bare_fractal l)
unfolding later_than bare_fractal bare_bar time_of
later_bare p [] = refl
later_bare p (f ∷ l) = bare_if (is_after p (time_of f)) f p (λ q. later_than q l) (λ q. later_than q (map bare_fractal l)) (λ q. later_bare q l)

-- the rows of a fractal have no elements
pub bare_stamps : (l : List Fractal) → map stamp_row (map bare_fractal l) ≡ map stamp_row l
unfolding stamp_row bare_fractal bare_bar
bare_stamps [] = refl
bare_stamps (f ∷ l) = ap (λ (x : List (List ℤ)). stamp_row f ∷ x) (bare_stamps l)

pub bare_prices : (l : List Fractal) → map price_row (map bare_fractal l) ≡ map price_row l
unfolding price_row bare_fractal bare_bar
bare_prices [] = refl
bare_prices (f ∷ l) = ap (λ (x : List (List Float)). price_row f ∷ x) (bare_prices l)

put_bare : (d : FractalStore) (at : ℕ) (l : List Fractal) → put_fractals d at (map bare_fractal l) ≡ put_fractals d at l
unfolding put_fractals
put_bare d at l = λ i. fractal_store (pasted d.stamps at (bare_stamps l i)) (pasted d.prices at (bare_prices l i))

out_bare : (b : Bool) (d : FractalStore) (l : List Fractal) → output_by b d (map bare_fractal l) ≡ output_by b d l
unfolding output_by
out_bare true d l = put_bare d 0 l
out_bare false d l = refl

-- lists that are alike without elements have the same answer and the same output
pub same_done : (t : Bool) (l l' : List Fractal) (d d' : FractalStore) (r : Result ℕ Question) → map bare_fractal l ≡ map bare_fractal l' → FxDone t l d d' r → FxDone t l' d d' r
same_done t l l' d d' r e h =
    let n : length l ≡ length l' = sym (length-map l bare_fractal) ∙ ap length e ∙ length-map l' bare_fractal in
    record {
      answer = h.answer ∙ ap (λ (k : ℕ). listed_by t (fits_all d k) k) n;
      output =
          h.output
          ∙ ap (λ (k : ℕ). output_by (t && fits_all d k) d l) n
          ∙ sym (out_bare (t && fits_all d (length l')) d l)
          ∙ ap (output_by (t && fits_all d (length l')) d) e
          ∙ out_bare (t && fits_all d (length l')) d l';
    }

-- ---- the fractals of the unfinished bars

pub fractals_are : (u : MergedStore) (n end : ℕ) → SizedMerged u n → fractals_between (raw_part u) 0 end ≡ map bare_fractal (check_fxs (take end (merged_bars u)))
unfolding fractals_between check_fxs
fractals_are u n end h =
    let U = merged_bars u in
    let e : map plain_bar (raw_bars (raw_part u)) ≡ map bare_bar U = sym (ap (map plain_bar) (merged-bars u n h)) ∙ plain_bare U in
    ap (λ (x : List Merged). fxs_after none (take end x)) e ∙ ap (fxs_after none) (sym (map-take bare_bar end U)) ∙ sym (fxs_bare none (take end U))

-- ---- of a sound stand

module _ (s : Stand) (m : Stores) (lb : length s.bars ≡ 65) (lf : length s.fractals ≡ 65) (h : IsSound s m) where
  known : Facts s m
  known = facts s m lb lf h

  pub can_go : CanGo s (raw_part m.unfinished) m.fractals
  can_go =
      let few = known.few-strokes in
      let t = known.fractals.stamps in
      let p = known.fractals.prices in
      let big = known.room-strokes.to in
      let fit = known.few-bars in
      let n = known.few-unfinished in
      let lim = known.room-unfinished.to in
      let ut = known.unfinished.raw.times in
      let ui = known.unfinished.raw.ids in
      let up = known.unfinished.raw.prices in
      record {
        strokes = omega arith;
        same = p ∙ sym t;
        small = omega arith;
        fits = omega arith;
        fewer = known.kept.fewer;
        bars = record { times = omega arith; ids = omega arith; prices = omega arith };
        few = omega arith;
      }

  -- the walk over the strokes' rows may begin
  pub can_read : CanRead m.fractals (take s.strokes s.bars) (take s.strokes s.fractals) 0 0
  unfolding bar_counts fractal_counts
  can_read =
      let g = can_go in
      let few = g.strokes in
      record {
        even = g.same;
        small = g.small;
        alike = length-take-le s.strokes s.fractals (omega arith) ∙ sym (length-take-le s.strokes s.bars (omega arith));
        fewer = g.fewer;
        fits = let f : total (take s.strokes s.bars) ≤ length m.fractals.stamps = g.fits in omega arith;
      }

  rows_alike : map bare_fractal (all_rows s (raw_part m.unfinished) m.fractals) ≡ map bare_fractal (stroke_fxs (state_of s m).strokes ++ check_fxs (state_of s m).unfinished)
  unfolding all_rows state_of
  rows_alike =
      let l = stroke_rows (bar_counts s) (fractal_counts s) (stored_fractals m.fractals) in
      let c = check_fxs (take s.unfinished (merged_bars m.unfinished)) in
      ap (λ (x : List Fractal). map bare_fractal (l ++ x)) (fractals_are m.unfinished s.rooms.unfinished s.unfinished known.unfinished)
      ∙ map-append bare_fractal l (map bare_fractal c)
      ∙ ap (λ (x : List Fractal). map bare_fractal l ++ x) (bare_twice c)
      ∙ sym (map-append bare_fractal l c)
      ∙ ap (λ (x : List Fractal). map bare_fractal (x ++ c)) (sym (strokes_are (bar_counts s) (fractal_counts s) (merged_bars m.strokes) (stored_fractals m.fractals)))

  list_alike : map bare_fractal (later_than none (all_rows s (raw_part m.unfinished) m.fractals)) ≡ map bare_fractal (fx_list_of (state_of s m))
  unfolding fx_list_of get_fx_list
  list_alike =
      later_bare none (all_rows s (raw_part m.unfinished) m.fractals)
      ∙ ap (later_than none) rows_alike
      ∙ sym (later_bare none (stroke_fxs (state_of s m).strokes ++ check_fxs (state_of s m).unfinished))

  sound_done : (d d' : FractalStore) (r : Result ℕ Question) → FxDone true (later_than none (all_rows s (raw_part m.unfinished) m.fractals)) d d' r → FxDone true (fx_list_of (state_of s m)) d d' r
  sound_done d d' r k = same_done true (later_than none (all_rows s (raw_part m.unfinished) m.fractals)) (fx_list_of (state_of s m)) d d' r list_alike k

-- ---- the answers, by question 4

pub fx_no : (t : Bool) (l : List Fractal) (d : FractalStore) (e : Question) (r : Result ℕ Question) → IsErrAnd r (λ y. y ≡ e) → Err e ≡ if_sound t (tt {0}) → FxDone t l d d r
unfolding listed_by output_by
fx_no t l d e r h g =
    record {
      answer = sound_no t tt e r (λ q. listed_by q (fits_all d (length l)) (length l)) refl h g;
      output = ap (λ (q : Bool). output_by (q && fits_all d (length l)) d l) (sym (unsound t tt e g).0);
    }

pub fx_yes : (s : Stand) (m : Stores) → length s.bars ≡ 65 → length s.fractals ≡ 65 → question4 s m ≡ true → (d d' : FractalStore) (r : Result ℕ Question)
    → FxDone true (later_than none (all_rows s (raw_part m.unfinished) m.fractals)) d d' r → FxDone (question4 s m) (fx_list_of (state_of s m)) d d' r
fx_yes s m lb lf e d d' r k = subst (λ (t : Bool). FxDone t (fx_list_of (state_of s m)) d d' r) (sym e) (sound_done s m lb lf (is-sound s m e) d d' r k)

-- what is listed of the walks over the rows
pub all_are : (s : Stand) (m : Stores) (l a b : List Fractal) → l ≡ later_than none (a ++ b) → a ≡ stroke_rows (take s.strokes s.bars) (take s.strokes s.fractals) (stored_fractals m.fractals)
    → b ≡ fractals_between (raw_part m.unfinished) 0 s.unfinished → l ≡ later_than none (all_rows s (raw_part m.unfinished) m.fractals)
unfolding all_rows bar_counts fractal_counts
all_are s m l a b e p q = e ∙ (λ i. later_than none (p i ++ q i))

pub all_few : (s : Stand) (m : Stores) (l : List Fractal) → CanGo s (raw_part m.unfinished) m.fractals → l ≡ later_than none (all_rows s (raw_part m.unfinished) m.fractals) → length l < 4294967296
all_few s m l h e =
    let a = later_few none (all_rows s (raw_part m.unfinished) m.fractals) in
    let b = rows_few s (raw_part m.unfinished) m.fractals h in
    let q = ap length e in
    omega arith

-- the same without strokes
pub can_read_none : (f : FractalStore) → length f.prices ≡ length f.stamps → length f.stamps ≤ 65536 → CanRead f [] [] 0 0
unfolding total
can_read_none f e h = record { even = e; small = h; alike = refl; fewer = tt; fits = omega arith }

pub bars_are : (u : RawStore) (n : ℕ) (F l a b : List Fractal) → l ≡ later_than none (a ++ b) → a ≡ stroke_rows [] [] F → b ≡ fractals_between u 0 n → l ≡ later_than none (fractals_between u 0 n)
unfolding stroke_rows
bars_are u n F l a b e p q = e ∙ (λ i. later_than none (p i ++ q i))

pub bars_few : (u : RawStore) (n : ℕ) (l : List Fractal) → n ≤ 65536 → l ≡ later_than none (fractals_between u 0 n) → length l < 4294967296
bars_few u n l h e =
    let a = later_few none (fractals_between u 0 n) in
    let b = windows_few u n in
    let q = ap length e in
    omega arith
