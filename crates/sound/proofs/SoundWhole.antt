-- Question 4 asked column by column is question 4 of document 01. Assumes nothing.
use Prim.Native.Nat.{ℕ, ◌≤◌}
use native.Mathlib.Omega.{arith}
use mathlib.Core.Path.{◌≡◌, refl, ap, sym, ◌∙◌, subst}
use mathlib.Core.Bool.{Bool, true, false, ◌&&◌}
use mathlib.Core.List.{List}
use lib.ListN.{length, take}
use lib.Seq.{length-take-le}
use lib.IntN.{ℤ}
use lib.Dec.{T, leb}
use lib.Ieee.Fits.{and_i, and_l, and_r}
use borrow.Author.Tests.{le-leb}
use Rattle.bars.specs.Lists.{every, last}
use Rattle.bars.specs.Questions.{is_bar}
use Rattle.stores.specs.Stores.{raw_bars, merged_bars}
use Rattle.stores.proofs.Columns.{raw-times, merged-length}
use Rattle.stores.proofs.KeptBars.{map-take}
use Rattle.strokes.specs.declared.Stand.{Stand}
use Rattle.machine.specs.Soundness.{is_merged, stroke_merged, rises, bar_times, merged_times, stroke_rises, is_stroke, is_named, asked, inner, newest_in, fewer_fractals, counts_fit, settings_sound, few_strokes, raw_pass, merged_pass, times_rise, strokes_pass, elements_kept, newest_last, lists_sound, sound_but, sound}
use Rattle.strokes.specs.StateRead.{stored_fractals, settings_of, state_of, bar_counts, fractal_counts, total, stores_sized, counts_sized, elements_sized, sized}
use Rattle.strokes.specs.Lent.{Stores}
use Rattle.strokes.proofs.StoredStates.{kept-raw, kept-unfinished}
use Rattle.strokes.proofs.StoredStrokes.{strokes-length}
use Rattle.sound.specs.Code.SoundStand.{small_count, unfinished_columns, front_columns, strokes_columns, numbers_pass, columns_sound}
use Rattle.sound.specs.StandSound.{stores_sound, IsSound}
use Rattle.arith.proofs.Tests.{and_false, pair, yes, same}
use Rattle.sound.proofs.SoundReads.{Rows, rows_of, merged-take}
use Rattle.sound.proofs.SoundStrokes.{cut_lengths}
use Rattle.sound.proofs.SoundFits.{Fit, fit}
use Rattle.sound.proofs.SoundFacts.{stores-sound, clauses, sizes, numbers-sound, sound_fit, bars_are, counts-alike}
use Rattle.sound.proofs.SoundFront.{raw_are, unfinished_are}
use Rattle.sound.proofs.SoundMeans.{strokes_asked, strokes_are}

-- ---- flags in another order

-- the clauses that are left once the numbers have passed: of the raw bars, of the unfinished bars, of the strokes
module _ (rise bars rise' merged' counts' newest named' most fewer merged rise'' strokes named counts : Bool) where
  -- as the columns are asked
  columns_of : Bool
  columns_of =
      ((rise && bars) && (rise' && (merged' && (counts' && (newest && named')))))
      && (most && (fewer && (merged && (rise'' && (strokes && (named && counts))))))

  -- as question 4 asks them
  clauses_of : Bool
  clauses_of =
      (counts' && counts)
      && ((fewer && (((most && bars) && ((merged' && merged) && ((rise && rise') && rise''))) && (strokes && (named' && named)))) && newest)

  -- each of them
  record Parts : Type 0 where
    p-rise : T rise
    p-bars : T bars
    p_rise' : T rise'
    p_merged' : T merged'
    p_counts' : T counts'
    p-newest : T newest
    p_named' : T named'
    p-most : T most
    p-fewer : T fewer
    p-merged : T merged
    p_rise'' : T rise''
    p-strokes : T strokes
    p-named : T named
    p-counts : T counts

  of_clauses : T clauses_of → Parts
  unfolding clauses_of
  of_clauses h = search (and_l, and_r) depth 9

  of_columns : T columns_of → Parts
  unfolding columns_of
  of_columns h = search (and_l, and_r) depth 9

  to_clauses : Parts → T clauses_of
  unfolding clauses_of
  to_clauses h = search and_i depth 9

  to_columns : Parts → T columns_of
  unfolding columns_of
  to_columns h = search and_i depth 9

  columns_clauses : columns_of ≡ clauses_of
  columns_clauses = same columns_of clauses_of (λ h. to_clauses (of_columns h)) (λ h. to_columns (of_clauses h))

-- ---- where the sizes and the numbers pass

module _ (s : Stand) (m : Stores) (f : Fit s m) where
  raw-times_are : bar_times (take s.raw (raw_bars m.raw)) ≡ take s.raw m.raw.times
  unfolding bar_times
  raw-times_are = map-take (λ b. b.time) s.raw (raw_bars m.raw) ∙ ap (take s.raw) (raw-times m.raw s.rooms.raw f.raw)

  -- the unfinished bars
  rows : Rows (take s.unfinished m.unfinished.times) (take s.unfinished m.unfinished.ids) (take s.unfinished m.unfinished.prices) (take s.unfinished m.unfinished.counts) (take s.unfinished m.unfinished.elements)
  rows =
      let n = s.unfinished in
      let u = m.unfinished in
      let z = f.unfinished in
      let h = f.few-unfinished in
      let t : n ≤ length u.times = rw z.raw.times h in
      rows_of (take n u.times) (take n u.ids) (take n u.prices) (take n u.counts) (take n u.elements) (cut_lengths u.ids u.times n (rw z.raw.ids h) t) (cut_lengths u.prices u.times n (rw z.raw.prices h) t) (cut_lengths u.counts u.times n (rw z.counts h) t) (cut_lengths u.elements u.times n (rw z.elements h) t)

  unfinished_clauses : (rises (merged_times (take s.unfinished (merged_bars m.unfinished)))
      && (every is_merged (take s.unfinished (merged_bars m.unfinished))
      && (every small_count (take s.unfinished m.unfinished.counts)
      && (newest_in (last (take s.raw (raw_bars m.raw))) (take s.unfinished (merged_bars m.unfinished))
      && every (is_named (take s.raw (raw_bars m.raw))) (asked (take s.unfinished (merged_bars m.unfinished)))))))
      ≡ unfinished_columns (take s.raw m.raw.times) (take s.unfinished m.unfinished.times) (take s.unfinished m.unfinished.prices) (take s.unfinished m.unfinished.counts) (take s.unfinished m.unfinished.elements)
  unfinished_clauses =
      let n = s.unfinished in
      let u = m.unfinished in
      let raw = take s.raw (raw_bars m.raw) in
      let t : n ≤ length u.times = rw f.unfinished.raw.times f.few-unfinished in
      let k : length (take n u.counts) ≡ length (take n u.times) = cut_lengths u.counts u.times n (rw f.unfinished.counts f.few-unfinished) t in
      (λ j. rises (merged_times (merged-take n u j))
      && (every is_merged (merged-take n u j)
      && (every small_count (take n u.counts) && (newest_in (last raw) (merged-take n u j) && every (is_named raw) (asked (merged-take n u j))))))
      ∙ unfinished_are raw rows k
      ∙ ap (λ (l : List ℤ). unfinished_columns l (take n u.times) (take n u.prices) (take n u.counts) (take n u.elements)) raw-times_are

  -- the raw and the unfinished bars of a sound stand
  front_sound : IsSound s m → T (front_columns s.raw s.unfinished m.raw m.unfinished)
  unfolding front_columns raw_pass merged_pass times_rise elements_kept newest_last elements_sized state_of
  front_sound h =
      let c = clauses (settings_of s) (state_of s m) h.state in
      let raw = take s.raw (raw_bars m.raw) in
      let l = take s.unfinished (merged_bars m.unfinished) in
      let b = (state_of s m).strokes in
      let rise = and_l (rises (bar_times raw) && rises (merged_times l)) (every stroke_rises b) c.times in
      let merged = and_l (every is_merged l) (every stroke_merged b) c.merged in
      let named = and_l (every (is_named raw) (asked l)) (every (λ b. every (is_named raw) (inner b)) b) c.elements in
      let ra = rises (bar_times raw) in
      let ru = rises (merged_times l) in
      let mu = every is_merged l in
      let cu = every small_count (take s.unfinished m.unfinished.counts) in
      let nu = newest_in (last raw) l in
      let au = every (is_named raw) (asked l) in
      subst T (λ j. raw_are s.raw s.rooms.raw m.raw f.raw f.few-raw j && unfinished_clauses j)
      (pair (ra && every is_bar raw) (ru && (mu && (cu && (nu && au)))) (pair ra (every is_bar raw) (and_l ra ru rise) c.raw)
      (pair ru (mu && (cu && (nu && au))) (and_r ra ru rise) (pair mu (cu && (nu && au)) merged (pair cu (nu && au) small (pair nu au c.newest named)))))
    where
      small : T (every small_count (take s.unfinished m.unfinished.counts))
      small = (sizes s m h.sizes).unfinished

module _ (s : Stand) (m : Stores) (lb : length s.bars ≡ 65) (lf : length s.fractals ≡ 65) (f : Fit s m) where
  -- the strokes
  strokes_clauses : strokes_asked (take s.raw (raw_bars m.raw)) (take (total (bar_counts s)) m.strokes.counts) (state_of s m).strokes
      ≡ strokes_columns (take s.raw m.raw.times) (bar_counts s) (fractal_counts s) m.strokes.times m.strokes.prices m.strokes.counts m.strokes.elements m.fractals.stamps m.fractals.prices
  unfolding state_of
  strokes_clauses =
      let k = m.strokes in
      let w = m.fractals in
      let z = f.strokes in
      strokes_are (take s.raw (raw_bars m.raw)) (bar_counts s) (fractal_counts s) s.rooms.strokes k.times k.ids k.prices k.counts k.elements w.stamps w.prices
      (record { times = z.raw.times; ids = z.raw.ids; prices = z.raw.prices; counts = z.counts; elements = z.elements; stamps = f.fractals.0; fractals = f.fractals.1 })
      (counts-alike s lb lf) f.few-bars
      ∙ ap (λ (l : List ℤ). strokes_columns l (bar_counts s) (fractal_counts s) k.times k.prices k.counts k.elements w.stamps w.prices) (raw-times_are s m f)

  -- the counts of the state fit, but that each stroke has fewer fractals than bars
  counts_clauses : counts_fit (settings_of s) (state_of s m) ≡ every fewer_fractals (state_of s m).strokes
  unfolding counts_fit state_of settings_of
  counts_clauses =
      let r = s.rooms in
      let a = kept-raw s m.raw f.raw f.few-raw in
      let b = kept-unfinished s m.unfinished f.unfinished f.few-unfinished in
      let c = bars_are (bar_counts s) (fractal_counts s) (merged_bars m.strokes) (stored_fractals m.fractals) (counts-alike s lb lf) (rw (merged-length m.strokes r.strokes f.strokes) f.few-bars) in
      rw (a, b, c, le-leb s.raw r.raw f.few-raw, le-leb s.unfinished r.unfinished f.few-unfinished, le-leb (total (bar_counts s)) r.strokes f.few-bars)

  most_clause : few_strokes s.most (state_of s m) ≡ leb s.strokes s.most
  unfolding few_strokes state_of bar_counts
  most_clause =
      let few = f.few-strokes in
      ap (λ (n : ℕ). leb n s.most)
      (strokes-length (bar_counts s) (fractal_counts s) (merged_bars m.strokes) (stored_fractals m.fractals) (counts-alike s lb lf) ∙ length-take-le s.strokes s.bars (omega arith))

  -- all that is left
  columns-left : (front_columns s.raw s.unfinished m.raw m.unfinished
      && (leb s.strokes s.most
      && strokes_columns (take s.raw m.raw.times) (bar_counts s) (fractal_counts s) m.strokes.times m.strokes.prices m.strokes.counts m.strokes.elements m.fractals.stamps m.fractals.prices))
      ≡ ((elements_sized s.unfinished m.unfinished && elements_sized (total (bar_counts s)) m.strokes)
      && ((counts_fit (settings_of s) (state_of s m) && lists_sound s.most (state_of s m)) && newest_last (state_of s m)))
  unfolding front_columns elements_sized lists_sound raw_pass merged_pass times_rise strokes_pass elements_kept newest_last state_of strokes_asked small_count columns_of clauses_of
  columns-left =
      let t = state_of s m in
      let raw = take s.raw (raw_bars m.raw) in
      let l = take s.unfinished (merged_bars m.unfinished) in
      let b = t.strokes in
      (λ j. (sym (raw_are s.raw s.rooms.raw m.raw f.raw f.few-raw) j && sym (unfinished_clauses s m f) j) && (sym most_clause j && sym strokes_clauses j))
      ∙ columns_clauses (rises (bar_times raw)) (every is_bar raw) (rises (merged_times l)) (every is_merged l) (every small_count (take s.unfinished m.unfinished.counts)) (newest_in (last raw) l) (every (is_named raw) (asked l)) (few_strokes s.most t) (every fewer_fractals b) (every stroke_merged b) (every stroke_rises b) (every is_stroke b) (every (λ b. every (is_named raw) (inner b)) b) (every small_count (take (total (bar_counts s)) m.strokes.counts))
      ∙ (λ j. (every small_count (take s.unfinished m.unfinished.counts) && every small_count (take (total (bar_counts s)) m.strokes.counts))
      && ((sym counts_clauses j && lists_sound s.most t) && newest_last t))

-- ---- question 4

-- where the stores' lengths, the counts or the settings fail, both answers are "no"
with_sizes : (stores counts settings p x y z : Bool) → (stores ≡ true → (counts && settings) ≡ true → p ≡ (x && (y && z)))
    → (stores && ((counts && settings) && p)) ≡ ((stores && (counts && x)) && ((settings && y) && z))
with_sizes false counts settings p x y z h = refl
with_sizes true false settings p x y z h = refl
with_sizes true true false p x y z h = sym (and_false x)
with_sizes true true true p x y z h = h refl refl

pub columns_are : (s : Stand) (m : Stores) → length s.bars ≡ 65 → length s.fractals ≡ 65 → columns_sound s m ≡ stores_sound s m
unfolding columns_sound stores_sound sized sound sound_but numbers_pass settings_of
columns_are s m lb lf =
    with_sizes (stores_sized s m) (counts_sized s) (settings_sound (settings_of s))
    (front_columns s.raw s.unfinished m.raw m.unfinished
    && (leb s.strokes s.most
    && strokes_columns (take s.raw m.raw.times) (bar_counts s) (fractal_counts s) m.strokes.times m.strokes.prices m.strokes.counts m.strokes.elements m.fractals.stamps m.fractals.prices))
    (elements_sized s.unfinished m.unfinished && elements_sized (total (bar_counts s)) m.strokes) (counts_fit (settings_of s) (state_of s m) && lists_sound s.most (state_of s m)) (newest_last (state_of s m))
    (λ e g. columns-left s m lb lf (fit s m e g))

-- ---- the answer at each return

pub no_stores : (s : Stand) (m : Stores) → stores_sized s m ≡ false → false ≡ stores_sound s m
unfolding stores_sound sized
no_stores s m e = rw e

pub no_numbers : (s : Stand) (m : Stores) → numbers_pass s ≡ false → false ≡ stores_sound s m
no_numbers s m e = same false (stores_sound s m) (λ w. absurd w) (λ k. subst T e (numbers-sound s m (stores-sound s m (yes (stores_sound s m) k))))

pub no_front : (s : Stand) (m : Stores) → front_columns s.raw s.unfinished m.raw m.unfinished ≡ false → false ≡ stores_sound s m
no_front s m e =
    same false (stores_sound s m) (λ w. absurd w)
    (λ k. let h = stores-sound s m (yes (stores_sound s m) k) in subst T e (front_sound s m (sound_fit s m h) h))

pub by_strokes : (s : Stand) (m : Stores) → length s.bars ≡ 65 → length s.fractals ≡ 65
    → stores_sized s m ≡ true → numbers_pass s ≡ true → front_columns s.raw s.unfinished m.raw m.unfinished ≡ true
    → (r : Bool)
    → r ≡ (leb s.strokes s.most && strokes_columns (take s.raw m.raw.times) (take s.strokes s.bars) (take s.strokes s.fractals) m.strokes.times m.strokes.prices m.strokes.counts m.strokes.elements m.fractals.stamps m.fractals.prices)
    → r ≡ stores_sound s m
unfolding columns_sound bar_counts fractal_counts
by_strokes s m lb lf e g h r q = columns ∙ columns_are s m lb lf
  where
    columns : r ≡ columns_sound s m
    columns = rw (e, g, h) q
