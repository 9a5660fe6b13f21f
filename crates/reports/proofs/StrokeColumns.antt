-- A stroke in the stroke store whose inner bars' elements name kept raw bars: what the columns that are lent to the measures hold. Assumes nothing.
use Prim.Native.Nat.{ℕ, ◌+◌, ◌-◌, ◌≤◌, ◌<◌}
use native.Mathlib.Omega.{arith}
use mathlib.Core.Path.{◌≡◌, refl, ap, sym, ◌∙◌, subst}
use mathlib.Core.Bool.{Bool}
use mathlib.Core.List.{List, [], ◌∷◌, map}
use mathlib.Core.Option.{some}
use lib.Dec.{T}
use lib.IntN.{ℤ}
use lib.ListN.{length, take, drop, get_or, length-take, length-drop}
use lib.Ieee.{nan}
use lib.Ieee.Fits.{and_l, and_r}
use Rattle.bars.specs.declared.Bar.{Bar}
use Rattle.bars.specs.Lists.{every, join}
use Rattle.bars.specs.Merging.{at_times}
use Rattle.stores.specs.Stores.{RawStore, MergedStore, zip_with, bar_of, raw_bars, merged_bars}
use Rattle.stores.specs.Code.StoreRows.{SizedRaw, SizedMerged, rising}
use Rattle.stores.proofs.KeptBars.{kept-times}
use Rattle.machine.specs.Fractals.{Fractal}
use Rattle.machine.specs.Strokes.{Stroke}
use Rattle.machine.specs.Soundness.{bar_times, is_named, inner, strokes_pass, elements_kept, asked}
use Rattle.strokes.specs.declared.Stand.{Stand}
use Rattle.strokes.specs.StateRead.{stroke_with, total, state_of, row_fractal}
use Rattle.strokes.specs.Lent.{Stores}
use Rattle.sound.specs.Code.SoundStand.{is_time, named_rows}
use Rattle.sound.specs.StandSound.{IsSound}
use Rattle.sound.proofs.SoundReads.{named-elements}
use Rattle.sound.proofs.SoundFacts.{Facts, facts, sound_fit}
use Rattle.named.specs.declared.stroke_rows.StrokeRows.{StrokeRows}
use Rattle.std.proofs.Common.{Ok, true}
use Rattle.question4.specs.Question4.{question4}
use Rattle.question4.proofs.Question4Passed.{is-sound}
use Rattle.reports.specs.Code.FirstQuestions.{asked_rows}
use Rattle.reports.proofs.FirstLaws.{named_is}
use Rattle.reports.specs.Measures.{get_raw_bars, closes_of, opens_and_closes}
use Rattle.reports.specs.Code.ElementPrices.{end_of, elements_in, InColumns}
use Rattle.named.specs.ReportQuestions.{nth}
use Rattle.reports.specs.Code.MeasuredRows.{CanRead, ShownBy}
use Rattle.named.specs.Code.NamedRows.{rows_of, end_row, stroke_in, RowsStand, cut}
use Rattle.reports.proofs.MeasureLaws.{inner-vols, inner-rows, inner-elements, prices_read, every_append}
use Rattle.named.proofs.StrokeAt.{stroke-at, first-within, rows-stand, bars-length, fractals-length, fractal-row, every-nth}
use Rattle.reports.proofs.RowEnds.{start_is, stop_is}

-- rows m places long behind place a
abbrev pub part : {A : Type 0} → ℕ → ℕ → List A → List A
part a m l = take m (drop a l)

-- the same rows cut out of columns of one length
pub cut_lengths : {A B : Type 0} (a z : ℕ) (l : List A) (m : List B) → length l ≡ length m → length (cut a z l) ≡ length (cut a z m)
cut_lengths a z l m e = omega (arith, length-take (z - a) (drop a l), length-take (z - a) (drop a m), length-drop a l, length-drop a m)

pub cut_small : {A : Type 0} (a z : ℕ) (l : List A) (n : ℕ) → length l ≤ n → length (cut a z l) ≤ n
cut_small a z l n h = omega (arith, length-take (z - a) (drop a l), length-drop a l)

every-join : {A : Type 0} (p : A → Bool) (l : List (List A)) → T (every (every p) l) → T (every p (join l))
unfolding every join
every-join p [] h = tt
every-join p (a ∷ l) h = every_append p a (join l) (and_l (every p a) (every (every p) l) h) (every-join p l (and_r (every p a) (every (every p) l) h))

module _ (r : RawStore) (n k : ℕ) (hr : SizedRaw r k) (few : n ≤ k) (rise : T (rising (take n r.times)))
    (s : MergedStore) (w at bars : ℕ) (hs : SizedMerged s w) (room : at + bars ≤ w) (two : 2 ≤ bars) (b : Stroke) (e : b.bars ≡ take bars (drop at (merged_bars s)))
    (named : T (every (is_named (take n (raw_bars r))) (inner b)))
  where
    abbrev cs : List ℕ
    cs = part (at + 1) (bars - 2) s.counts

    abbrev es : List (List ℤ)
    es = part (at + 1) (bars - 2) s.elements

    rows_named : T (named_rows (take n r.times) cs es)
    unfolding named_rows bar_times
    rows_named =
        subst (λ (l : List (List ℤ)). T (every (every (is_time (take n r.times))) l)) (inner-rows s w at bars hs room two b e)
        (subst (λ (ts : List ℤ). T (every (every (is_time ts)) (map (λ x. x.elements) (inner b)))) (kept-times r n k hr few)
        (subst T (named-elements (take n (raw_bars r)) (inner b)) named))

    pub elements-named : T (every (is_time (take n r.times)) (elements_in cs es))
    unfolding named_rows
    elements-named = every-join (is_time (take n r.times)) (zip_with take cs es) rows_named

    in_columns : InColumns (take n (raw_bars r)) b (take n r.times) (take n r.prices) (part (at + 1) (bars - 2) s.prices) cs es
    unfolding get_raw_bars closes_of opens_and_closes bar_of
    in_columns =
        let raw = take n (raw_bars r) in
        let q = inner-elements s w at bars hs room two b e in
        record {
          vols = inner-vols s w at bars hs room two b e;
          closes =
              ap (λ (l : List ℤ). closes_of (at_times raw l)) q
              ∙ prices_read r n k hr few rise (λ (x : Bar). x.close) (λ p. get_or p 1 nan) (λ t i p. refl) (elements_in cs es) elements-named;
          opens =
              ap (λ (l : List ℤ). opens_and_closes (at_times raw l)) q
              ∙ prices_read r n k hr few rise (λ (x : Bar). (x.«open», x.close)) (λ p. (get_or p 0 nan, get_or p 1 nan)) (λ t i p. refl) (elements_in cs es) elements-named;
        }

-- ---- a stroke that a sound stand keeps

-- all that the code asks and answers of it, where its rows are r
pub record Lends (s : Stand) (m : Stores) (i : ℕ) (r : StrokeRows) : Type 0 where
  pub facts : Facts s m
  pub stands : RowsStand r s.rooms.strokes
  pub is : nth (state_of s m).strokes i ≡ some (stroke_in m r)
  pub count : length (stroke_in m r).bars ≡ r.bars
  pub many : length (stroke_in m r).fractals ≡ r.fractals
  pub row : (j : ℕ) (z : Fractal) → j < r.fractals
      → get_or (stroke_in m r).fractals j z ≡ row_fractal (get_or m.fractals.stamps (r.first + j) []) (get_or m.fractals.prices (r.first + j) [])
  pub starts : end_of (stroke_in m r).start ≡ end_of (row_fractal [] (get_or m.fractals.prices r.first []))
  pub ends : end_of (stroke_in m r).end ≡ end_of (row_fractal [] (get_or m.fractals.prices (end_row r) []))
  pub named : T (every (is_named (state_of s m).raw) (inner (stroke_in m r)))

pub rows-small : (s : Stand) (m : Stores) (i : ℕ) → IsSound s m → i < s.strokes → length s.bars ≡ 65 → length s.fractals ≡ 65
    → (i < 65) × (total (take i s.bars) < 9223372036854775808)
unfolding rows_of
rows-small s m i h g lb lf =
    let f = sound_fit s m h in
    let a = f.few-strokes in
    let b = f.few-bars in
    let c = f.small-strokes in
    let d = first-within s m i g (omega arith) lb lf in
    (omega arith, omega arith)

pub lends : (s : Stand) (m : Stores) (i : ℕ) (r : StrokeRows) → IsSound s m → i < s.strokes → r ≡ rows_of s i → length s.bars ≡ 65 → length s.fractals ≡ 65 → Lends s m i r
unfolding strokes_pass elements_kept
lends s m i r h g e lb lf =
    let t = state_of s m in
    let f = facts s m lb lf h in
    let k = f.kept in
    let w = rows-stand s m i g lb lf k f.clauses.strokes in
    let at = stroke-at s m i g k.strokes lb lf in
    let inners : Stroke → Bool = λ b. every (is_named t.raw) (inner b) in
    let named = and_r (every (is_named t.raw) (asked t.unfinished)) (every inners t.strokes) f.clauses.elements in
    subst (Lends s m i) (sym e)
    (record {
      facts = f;
      stands = w;
      is = at;
      count = bars-length s m i g lb lf k w;
      many = fractals-length s m i g lb lf k w;
      row = fractal-row s m i g lb lf k w;
      starts = start_is s m i g lb lf k w;
      ends = stop_is s m i g lb lf k w;
      named = every-nth inners t.strokes i (stroke_in m (rows_of s i)) at named;
    })

-- the same of the rows that questions 4 and 13 gave
pub lends-named : (s : Stand) (m : Stores) (i : ℕ) (r : StrokeRows) → Ok r ≡ asked_rows s m i → length s.bars ≡ 65 → length s.fractals ≡ 65
    → (question4 s m ≡ true) × Lends s m i r
lends-named s m i r e lb lf =
    let g = named_is s m i r e in
    (g.0, lends s m i r (is-sound s m g.0) g.1 g.2 lb lf)

module _ (s : Stand) (m : Stores) (i : ℕ) (r : StrokeRows) (h : Lends s m i r) where
  abbrev n : ℕ
  n = s.raw

  abbrev k : MergedStore
  k = m.strokes

  pub long : r.bars - 2 ≡ r.first + r.bars - 1 - (r.first + 1)
  long = let f = h.stands.four in omega arith

  pub two : 2 ≤ r.bars
  two = let f = h.stands.four in omega arith

  pub bars_read_lem : (stroke_in m r).bars ≡ take r.bars (drop r.first (merged_bars k))
  unfolding stroke_in stroke_with
  bars_read_lem = refl

  pub raw-named : T (every (is_named (take n (raw_bars m.raw))) (inner (stroke_in m r)))
  unfolding state_of
  raw-named = h.named

  -- what the code may count on
  pub can_read : CanRead r n m
  can_read =
      let f = h.facts in
      let w = f.strokes in
      let e = w.raw.prices in
      record {
        raw = rw f.raw.times f.few-raw;
        ids = f.raw.ids ∙ sym f.raw.times;
        prices = f.raw.prices ∙ sym f.raw.times;
        stands = subst (RowsStand r) (sym e) h.stands;
        small = rw e f.room-strokes.to;
        counts = w.counts ∙ sym e;
        elements = w.elements ∙ sym e;
        fractals = f.fractals.prices ∙ sym e;
        rises = f.rising-times;
        named =
            subst (λ (x : ℕ). T (named_rows (take n m.raw.times) (take x (drop (r.first + 1) k.counts)) (take x (drop (r.first + 1) k.elements)))) long
            (rows_named m.raw n s.rooms.raw f.raw f.few-raw f.rising-times k s.rooms.strokes r.first r.bars w h.stands.fits two (stroke_in m r) bars_read_lem raw-named);
      }

  -- and what they give
  pub shown_by : ShownBy (state_of s m).raw (stroke_in m r) r n m
  unfolding state_of
  shown_by =
      let f = h.facts in
      let raw = take n (raw_bars m.raw) in
      record {
        starts = h.starts;
        ends = h.ends;
        count = sym h.count;
        columns =
            subst (λ (x : ℕ). InColumns raw (stroke_in m r) (take n m.raw.times) (take n m.raw.prices) (take x (drop (r.first + 1) k.prices)) (take x (drop (r.first + 1) k.counts)) (take x (drop (r.first + 1) k.elements))) long
            (in_columns m.raw n s.rooms.raw f.raw f.few-raw f.rising-times k s.rooms.strokes r.first r.bars f.strokes h.stands.fits two (stroke_in m r) bars_read_lem raw-named);
      }
