-- The clause of question 4 on the newest raw bar is read off three columns. Assumes nothing.
use Prim.Native.Nat.{ℕ, ◌≤◌}
use mathlib.Core.Path.{◌≡◌, ap, sym, ◌∙◌}
use mathlib.Core.Bool.{Bool, ◌&&◌}
use mathlib.Core.List.{List, map}
use lib.ListN.{length, take}
use lib.IntN.{ℤ}
use lib.Dec.{T, leb, leb→le}
use lib.Ieee.Fits.{and_l, and_r}
use Rattle.bars.specs.Bars.{Merged}
use Rattle.bars.specs.Lists.{last}
use Rattle.stores.specs.Stores.{raw_bars, merged_bars, zip_with}
use Rattle.stores.specs.Code.StoreRows.{SizedRaw, SizedMerged}
use Rattle.machine.specs.Soundness.{bar_times, newest_last}
use Rattle.strokes.specs.declared.Stand.{Stand}
use Rattle.strokes.specs.StateRead.{state_of, bar_counts, total, raw_sized, merged_sized, fractal_sized, stores_sized, counts_sized, sized}
use Rattle.strokes.specs.Lent.{Stores}
use Rattle.strokes.proofs.StoredStrokes.{sized-merged}
use Rattle.sound.specs.Code.SoundStand.{ends_in, newest_row}
use Rattle.sound.specs.Code.NewestBar.{NewestRoom, NewestIs}
use Rattle.sound.proofs.SoundFits.{raw_fit, fractal_fit}
use Rattle.sound.proofs.SoundStrokes.{cut_lengths}
use Rattle.sound.proofs.SoundReads.{raw-rows, raw-times, raw-take, rows_of, merged-take, merged-elements, newest-elements}
use Rattle.sound.proofs.SoundFacts.{sizes}

-- every store has its room, and the kept bars fit the first two
pub record Lengths (s : Stand) (m : Stores) : Type 0 where
  pub raw : SizedRaw m.raw s.rooms.raw
  pub unfinished : SizedMerged m.unfinished s.rooms.unfinished
  pub strokes : SizedMerged m.strokes s.rooms.strokes
  pub fractals : (length m.fractals.stamps ≡ s.rooms.strokes) × (length m.fractals.prices ≡ s.rooms.strokes)
  pub few-raw : s.raw ≤ s.rooms.raw
  pub few-unfinished : s.unfinished ≤ s.rooms.unfinished

pub lengths : (s : Stand) (m : Stores) → T (sized s m) → Lengths s m
unfolding stores_sized counts_sized
lengths s m h =
    let r = s.rooms in
    let z = sizes s m h in
    let a = raw_sized r.raw m.raw in
    let b = merged_sized r.unfinished m.unfinished in
    let c = merged_sized r.strokes m.strokes in
    let d = fractal_sized r.strokes m.fractals in
    let ab = and_l (a && b) (c && d) z.stores in
    let cd = and_r (a && b) (c && d) z.stores in
    let x = leb s.raw r.raw in
    let y = leb s.unfinished r.unfinished in
    let xy = and_l (x && y) (leb s.strokes 64 && leb (total (bar_counts s)) r.strokes) z.counts in
    record {
      raw = raw_fit r.raw m.raw (and_l a b ab);
      unfinished = sized-merged r.unfinished m.unfinished (and_r a b ab);
      strokes = sized-merged r.strokes m.strokes (and_l c d cd);
      fractals = fractal_fit r.strokes m.fractals (and_r c d cd);
      few-raw = leb→le s.raw r.raw (and_l x y xy);
      few-unfinished = leb→le s.unfinished r.unfinished (and_r x y xy);
    }

-- the places that are read
pub newest-room : (s : Stand) (m : Stores) → T (sized s m) → NewestRoom s m.raw.times m.unfinished.counts m.unfinished.elements
newest-room s m h =
    let f = lengths s m h in
    record { times = rw f.raw.times f.few-raw; counts = rw f.unfinished.counts f.few-unfinished; elements = rw f.unfinished.elements f.few-unfinished }

newest-columns : (s : Stand) (m : Stores) → Lengths s m
    → newest_row (take s.raw m.raw.times) (take s.unfinished m.unfinished.counts) (take s.unfinished m.unfinished.elements) ≡ newest_last (state_of s m)
unfolding newest_row newest_last state_of
newest-columns s m f =
    let n = s.raw in
    let k = s.unfinished in
    let r = m.raw in
    let u = m.unfinished in
    let ht : n ≤ length r.times = rw f.raw.times f.few-raw in
    let hi : n ≤ length r.ids = rw f.raw.ids f.few-raw in
    let hp : n ≤ length r.prices = rw f.raw.prices f.few-raw in
    let kt : k ≤ length u.times = rw f.unfinished.raw.times f.few-unfinished in
    let ki : k ≤ length u.ids = rw f.unfinished.raw.ids f.few-unfinished in
    let kp : k ≤ length u.prices = rw f.unfinished.raw.prices f.few-unfinished in
    let kc : k ≤ length u.counts = rw f.unfinished.counts f.few-unfinished in
    let ke : k ≤ length u.elements = rw f.unfinished.elements f.few-unfinished in
    let a = raw-rows (take n r.times) (take n r.ids) (take n r.prices) (cut_lengths r.ids r.times n hi ht) (cut_lengths r.prices r.times n hp ht) in
    let w =
    rows_of (take k u.times) (take k u.ids) (take k u.prices) (take k u.counts) (take k u.elements) (cut_lengths u.ids u.times k ki kt)
    (cut_lengths u.prices u.times k kp kt) (cut_lengths u.counts u.times k kc kt) (cut_lengths u.elements u.times k ke kt) in
    let bt : bar_times (take n (raw_bars r)) ≡ take n r.times = ap bar_times (raw-take n r.times r.ids r.prices) ∙ raw-times a in
    let el : map (λ (x : Merged). x.elements) (take k (merged_bars u)) ≡ zip_with take (take k u.counts) (take k u.elements) =
    ap (map (λ (x : Merged). x.elements)) (merged-take k u) ∙ merged-elements w in
    sym (newest-elements (take n (raw_bars r)) (take k (merged_bars u)) ∙ (λ i. ends_in (last (bt i)) (last (el i))))

-- an answer for these columns is one for all stores that have them
pub newest-is : (s : Stand) (ts : List ℤ) (cs : List ℕ) (es : List (List ℤ)) (r : Bool)
    → r ≡ newest_row (take s.raw ts) (take s.unfinished cs) (take s.unfinished es) → NewestIs s ts cs es r
newest-is s ts cs es r e =
    record {
      answer = λ m h a b c.
          e ∙ (λ i. newest_row (take s.raw (sym a i)) (take s.unfinished (sym b i)) (take s.unfinished (sym c i))) ∙ newest-columns s m (lengths s m h);
    }
