-- How many bars a bar with the last time sends through merging again: where raw times rise, each element names one raw bar at most. Assumes nothing.
use Prim.Native.Nat.{ℕ, ◌+◌, ◌-◌, ◌≤◌}
use mathlib.Core.Bool.{◌&&◌}
use mathlib.Core.List.{List, [], ◌∷◌, map}
use mathlib.Core.Option.{Option, some}
use mathlib.Core.Path.{◌≡◌, refl, ap}
use native.Mathlib.Omega.{arith}
use lib.ListN.{length, take, length-append}
use lib.IntN.{ℤ}
use lib.Dec.{T}
use lib.Signed.{le_z}
use Rattle.bars.specs.declared.Bar.{Bar}
use Rattle.bars.specs.Bars.{Merged}
use Rattle.bars.specs.Lists.{keep_if, last, init}
use Rattle.bars.specs.Merging.{merge_all, at_times, again}
use Rattle.stores.specs.Stores.{RawStore, raw_bars}
use Rattle.stores.specs.Code.StoreRows.{SizedRaw, rising}
use Rattle.stores.proofs.Searching.{at_most_one}
use Rattle.stores.proofs.KeptBars.{kept-times}
use Rattle.bars.proofs.MergedLists.{Grows, merge_run_grows}

pub init-length : {A : Type 0} (l : List A) → length (init l) ≡ length l - 1
unfolding init
init-length [] = refl
init-length (a ∷ []) = refl
init-length (a ∷ b ∷ l) = let e = init-length (b ∷ l) in omega arith

module _ (raw : List Bar) (rises : T (rising (map (λ b. b.time) raw))) where
  -- these times name no more raw bars than they are
  pub times-most : (ts : List ℤ) → length (at_times raw ts) ≤ length ts
  unfolding at_times
  times-most [] = omega arith
  times-most (t ∷ ts) =
      let k = keep_if (λ b. le_z b.time t && le_z t b.time) raw in
      let one = at_most_one (λ b. b.time) t raw rises in
      let more = times-most ts in
      let e = length-append k (at_times raw ts) in
      omega arith

  -- the bars that go through merging again are as many as the last bar's elements, or fewer; one where it has none
  pub again-most : (k : Merged) (b : Bar) → length (again raw (some k) b) ≤ length k.elements - 1 + 1
  unfolding again
  again-most k b =
      let ts = init k.elements in
      let few = times-most ts in
      let e = length-append (at_times raw ts) (b ∷ []) in
      let i = init-length k.elements in
      omega arith

  -- so after a replaced bar the bars before the last one are there, and at most as many more as the last one had elements
  pub again_grows : (l : List Merged) (k : Merged) (b : Bar) → last l ≡ some k
      → Grows (length l - 1) (length k.elements - 1 + 1) (length (merge_all (init l) (again raw (last l) b)))
  again_grows l k b q =
      let few = again-most k b in
      let e : length (again raw (last l) b) ≡ length (again raw (some k) b) = ap (λ (o : Option Merged). length (again raw o b)) q in
      let i = init-length l in
      let g = merge_run_grows (init l) (again raw (last l) b) in
      record { least = omega (arith, g.least); most = omega (arith, g.most) }

-- the same of the first n bars of a store
pub again_kept : (s : RawStore) (n room : ℕ) (l : List Merged) (k : Merged) (b : Bar) → SizedRaw s room → n ≤ room → T (rising (take n s.times)) → last l ≡ some k
    → Grows (length l - 1) (length k.elements - 1 + 1) (length (merge_all (init l) (again (take n (raw_bars s)) (last l) b)))
again_kept s n room l k b h fits rises q = again_grows (take n (raw_bars s)) (rw (kept-times s n room h fits) rises) l k b q
