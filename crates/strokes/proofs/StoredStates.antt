-- What a writing step makes of the state that is read off the stand and its stores: the list that the step is about, and no other. Assumes nothing.
use Prim.Native.Nat.{ℕ, zero, suc, ◌+◌, ◌-◌, ◌<◌, ◌≤◌}
use mathlib.Core.Bool.{Bool, false}
use mathlib.Core.List.{List, [], ◌∷◌, map}
use mathlib.Core.Option.{Option, some}
use mathlib.Core.Path.{◌≡◌, refl, ap, sym, ◌∙◌, subst}
use native.Mathlib.Omega.{arith}
use lib.ListN.{length, take, drop, get_or}
use lib.Seq.{length-take-le, get_or-take}
use lib.IntN.{ℤ}
use lib.Dec.{T, leb, leb→le}
use lib.Signed.{lt_z}
use lib.Ieee.Fits.{and_i, and_l, and_r}
use Rattle.bars.specs.declared.Bar.{Bar}
use Rattle.bars.specs.Bars.{Merged, merged_of}
use Rattle.bars.specs.Lists.{every, last, init}
use Rattle.stores.specs.Stores.{RawStore, MergedStore, raw_bars, merged_bars}
use Rattle.stores.specs.Code.StoreRows.{SizedRaw, SizedMerged, new_bar_at, rising}
use Rattle.stores.proofs.Columns.{raw-length, raw-times, merged-length, merged-at}
use Rattle.stores.proofs.KeptBars.{map-take}
use Rattle.strokes.specs.declared.Stand.{Stand}
use Rattle.machine.specs.Fractals.{Fractal}
use Rattle.machine.specs.Strokes.{Stroke}
use Rattle.machine.specs.Break.{joined}
use Rattle.machine.specs.Stand.{State}
use Rattle.machine.specs.Feed.{merged_with}
use Rattle.machine.specs.Soundness.{rises, bar_times, ends_on, closes}
use Rattle.strokes.specs.StateRead.{stored_fractals, stroke_with, strokes_with, bar_counts, fractal_counts, state_of, elements_sized}
use Rattle.strokes.specs.Lent.{Stores}
use Rattle.strokes.specs.Code.BarSteps.{HasRaw, HasUnfinished, RisingRaw, LastHas, kept_raw, kept_unfinished, with_raw, with_unfinished, without_last, stored_stroke, merged_again}
use Rattle.strokes.proofs.StoredRaw.{last-take}
use Rattle.strokes.proofs.StoredUnfinished.{room_of}

-- as many are kept as the stand counts
pub kept-raw : (s : Stand) (m : RawStore) → SizedRaw m s.rooms.raw → s.raw ≤ s.rooms.raw → length (kept_raw s m) ≡ s.raw
kept-raw s m h k = length-take-le s.raw (raw_bars m) (rw (raw-length m s.rooms.raw h) k)

pub kept-unfinished : (s : Stand) (m : MergedStore) → SizedMerged m s.rooms.unfinished → s.unfinished ≤ s.rooms.unfinished → length (kept_unfinished s m) ≡ s.unfinished
kept-unfinished s m h k = length-take-le s.unfinished (merged_bars m) (rw (merged-length m s.rooms.unfinished h) k)

-- the stores with another raw store, or another unfinished store
abbrev pub raw_set : Stores → RawStore → Stores
raw_set m w = record { raw = w; unfinished = m.unfinished; strokes = m.strokes; fractals = m.fractals }

abbrev pub unfinished_set : Stores → MergedStore → Stores
unfinished_set m w = record { raw = m.raw; unfinished = w; strokes = m.strokes; fractals = m.fractals }

pub state-raw : (s r : Stand) (m : Stores) (w : RawStore) (l : List Bar) → HasRaw s r w l
    → state_of r (raw_set m w) ≡ record { raw = l; unfinished = (state_of s m).unfinished; strokes = (state_of s m).strokes }
unfolding state_of bar_counts fractal_counts with_raw
state-raw s r m w l h =
    λ i. record {
      raw = h.bars i;
      unfinished = take (h.stand i).unfinished (merged_bars m.unfinished);
      strokes =
          strokes_with (take (h.stand i).strokes (h.stand i).bars) (take (h.stand i).strokes (h.stand i).fractals) (merged_bars m.strokes)
          (stored_fractals m.fractals);
    }

pub state-unfinished : (s r : Stand) (m : Stores) (w : MergedStore) (l : List Merged) → HasUnfinished s r w l
    → state_of r (unfinished_set m w) ≡ record { raw = (state_of s m).raw; unfinished = l; strokes = (state_of s m).strokes }
unfolding state_of bar_counts fractal_counts with_unfinished
state-unfinished s r m w l h =
    λ i. record {
      raw = take (h.stand i).raw (raw_bars m.raw);
      unfinished = h.bars i;
      strokes =
          strokes_with (take (h.stand i).strokes (h.stand i).bars) (take (h.stand i).strokes (h.stand i).fractals) (merged_bars m.strokes)
          (stored_fractals m.fractals);
    }

-- ---- the break

strokes-init : (n : ℕ) (ns ms : List ℕ) (ks : List Merged) (fs : List Fractal) → n < length ns → n < length ms
    → strokes_with (take n ns) (take n ms) ks fs ≡ init (strokes_with (take (suc n) ns) (take (suc n) ms) ks fs)
unfolding strokes_with init
strokes-init n [] ms ks fs h k = let w : ⊥ = omega arith in absurd w
strokes-init n (a ∷ ns) [] ks fs h k = let w : ⊥ = omega arith in absurd w
strokes-init zero (a ∷ ns) (b ∷ ms) ks fs h k = refl
strokes-init (suc n) (a ∷ []) (b ∷ ms) ks fs h k = let w : ⊥ = omega arith in absurd w
strokes-init (suc n) (a ∷ c ∷ ns) (b ∷ []) ks fs h k = let w : ⊥ = omega arith in absurd w
strokes-init (suc n) (a ∷ c ∷ ns) (b ∷ d ∷ ms) ks fs h k =
    ap (λ (r : List Stroke). stroke_with (take b fs) (take a ks) ∷ r) (strokes-init n (c ∷ ns) (d ∷ ms) (drop a ks) (drop a fs) (omega arith) (omega arith))

-- a stroke that is no longer counted is no longer kept, and nothing else changes
pub state_without_last : (s : Stand) (m : Stores) → 1 ≤ s.strokes → s.strokes ≤ length s.bars → s.strokes ≤ length s.fractals
    → state_of (without_last s) m ≡ record { raw = (state_of s m).raw; unfinished = (state_of s m).unfinished; strokes = init (state_of s m).strokes }
unfolding state_of bar_counts fractal_counts without_last
state_without_last s m one h k =
    let n = s.strokes - 1 in
    let e : suc n ≡ s.strokes = omega arith in
    let ks = merged_bars m.strokes in
    let fs = stored_fractals m.fractals in
    λ i. record {
      raw = take s.raw (raw_bars m.raw);
      unfinished = take s.unfinished (merged_bars m.unfinished);
      strokes =
          (strokes-init n s.bars s.fractals ks fs (omega arith) (omega arith) ∙ ap (λ (j : ℕ). init (strokes_with (take j s.bars) (take j s.fractals) ks fs)) e) i;
    }

-- joining reads a stroke's bars alone
pub joined_stored : (b : Stroke) (k : MergedStore) (at n : ℕ) (l : List Merged) → b.bars ≡ take n (drop at (merged_bars k)) → joined (stored_stroke k at n) l ≡ joined b l
unfolding joined stored_stroke stroke_with
joined_stored b k at n l e = ap (λ (x : List Merged). joined (stroke_with [] x) l) (sym e)

-- ---- merging

-- a bar with the last time: what put_again writes is what the feed asks
pub merged_with-again : (s : State) (b : Bar) → merged_with false s b ≡ merged_again s.raw s.unfinished b
unfolding merged_with merged_again
merged_with-again s b = refl

pub rises-rising : (l : List ℤ) → T (rises l) → T (rising l)
unfolding rises rising every
rises-rising [] h = tt
rises-rising (a ∷ []) h = tt
rises-rising (a ∷ b ∷ l) h =
    let p = and_l (every (λ u. lt_z a u) (b ∷ l)) (rises (b ∷ l)) h in
    and_i (lt_z a b) (rising (b ∷ l)) (and_l (lt_z a b) (every (λ u. lt_z a u) l) p) (rises-rising (b ∷ l) (and_r (every (λ u. lt_z a u) (b ∷ l)) (rises (b ∷ l)) h))

-- a sound stand's raw times rise in the store
pub rising-raw : (s : Stand) (m : RawStore) → SizedRaw m s.rooms.raw → s.raw ≤ s.rooms.raw → T (rises (bar_times (kept_raw s m))) → RisingRaw s m
unfolding bar_times
rising-raw s m h k r =
    let e : map (λ b. b.time) (kept_raw s m) ≡ take s.raw m.times = map-take (λ b. b.time) s.raw (raw_bars m) ∙ ap (take s.raw) (raw-times m s.rooms.raw h) in
    record { sized = h; fits = k; rise = subst (λ (l : List ℤ). T (rising l)) e (rises-rising (bar_times (kept_raw s m)) r) }

every-at : (p : ℕ → Bool) (l : List ℕ) (i : ℕ) → i < length l → T (every p l) → T (p (get_or l i 0))
unfolding every
every-at p [] i h e = let w : ⊥ = omega arith in absurd w
every-at p (a ∷ l) zero h e = and_l (p a) (every p l) e
every-at p (a ∷ l) (suc i) h e = every-at p l i (omega arith) (and_r (p a) (every p l) e)

closed_some : (t : ℤ) (n : ℕ) (row : List ℤ) → T (ends_on t (last (take n row))) → 1 ≤ n
unfolding ends_on last
closed_some t zero row h = absurd h
closed_some t (suc n) row h = omega arith

-- a sound stand's last unfinished bar has from 1 to 101 elements: it ends on the newest raw bar
pub last_has : (s : Stand) (u : MergedStore) (t : ℤ) → SizedMerged u s.rooms.unfinished → s.unfinished ≤ s.rooms.unfinished → 1 ≤ s.unfinished
    → T (elements_sized s.unfinished u) → T (closes t (last (kept_unfinished s u))) → LastHas s u
unfolding closes elements_sized merged_of new_bar_at
last_has s u t h fits one sized closed =
    let n = s.unfinished in
    let l = merged_bars u in
    let z = merged_of (new_bar_at u 0) in
    let k = merged_of (new_bar_at u (n - 1)) in
    let f : n ≤ length l = rw (merged-length u s.rooms.unfinished h) fits in
    let p : last (take n l) ≡ some k = last-take n l z one f ∙ ap some (merged-at u (n - 1) z (room_of u s.rooms.unfinished (n - 1 + 1) h (omega arith))) in
    let g : length (take n u.counts) ≡ n = length-take-le n u.counts (rw h.counts fits) in
    let a : n - 1 < n = omega arith in
    record {
      kept = one;
      some = closed_some t (get_or u.counts (n - 1) 0) (get_or u.elements (n - 1) []) (subst (λ (x : Option Merged). T (closes t x)) p closed);
      most =
          leb→le (get_or u.counts (n - 1) 0) 101
          (subst (λ (x : ℕ). T (leb x 101)) (get_or-take n u.counts (n - 1) 0 a) (every-at (λ k. leb k 101) (take n u.counts) (n - 1) (rw g a) sized));
    }
