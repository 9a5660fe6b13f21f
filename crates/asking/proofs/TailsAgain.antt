-- Laws of the tail of a bar with the last time, and of the bars that both tails give, without their elements. Assumes nothing.
use Prim.Native.Nat.{ℕ, ◌+◌, ◌-◌, ◌≤◌}
use mathlib.Core.List.{List, [], ◌∷◌, ◌++◌, map}
use mathlib.Core.Option.{some}
use mathlib.Core.Path.{◌≡◌, refl, ap, sym, ◌∙◌, subst}
use native.Mathlib.Omega.{arith}
use lib.ListN.{length, take, get_or}
use lib.Seq.{length-take-le}
use lib.IntN.{ℤ}
use Rattle.bars.specs.declared.Bar.{Bar}
use Rattle.bars.specs.declared.NewBar.{NewBar}
use Rattle.bars.specs.Bars.{merged_of}
use Rattle.bars.specs.Lists.{fold_left, last}
use Rattle.bars.specs.Merging.{merge_in, merge_all, at_times, again}
use Rattle.stores.specs.Stores.{RawStore, MergedStore, raw_part, raw_bars, merged_bars}
use Rattle.stores.specs.Code.StoreRows.{SizedMerged, new_bar_at}
use Rattle.bars.specs.Code.MergedBars.{merge_bars, merge_bars_all}
use Rattle.stores.proofs.Columns.{merged-length, merged-at, merged-bars}
use Rattle.stores.proofs.KeptBars.{map-take}
use Rattle.bars.proofs.MergedLists.{without_elements, merge_bars_lem, merge_bars-all}
use Rattle.strokes.specs.Code.BarSteps.{merged_again}
use Rattle.strokes.proofs.StoredRaw.{init-take, last-take}
use Rattle.strokes.proofs.StoredUnfinished.{room_of}
use Rattle.asking.specs.declared.merged_tail.Tail.{Tail}
use Rattle.asking.specs.Code.MergedTail.{Holds, CanTail, HasTail, TailGrown, CanMergeAgain, bars_only, shown}
use Rattle.asking.proofs.MergedTails.{tail_of}

-- ---- the bars without their elements

-- the first n bars of a store
pub bars-kept : (u : MergedStore) (K n : ℕ) → SizedMerged u K → take n (raw_bars (raw_part u)) ≡ bars_only (take n (merged_bars u))
unfolding bars_only
bars-kept u K n h = sym (map-take without_elements n (merged_bars u) ∙ ap (take n) (merged-bars u K h))

-- a later bar
pub later-bars : (u : MergedStore) (K n : ℕ) (b : Bar) → SizedMerged u K → merge_bars (take n (raw_bars (raw_part u))) b ≡ bars_only (merge_in (take n (merged_bars u)) b)
unfolding bars_only
later-bars u K n b h = ap (λ (l : List Bar). merge_bars l b) (bars-kept u K n h) ∙ sym (merge_bars_lem (take n (merged_bars u)) b)

merge_end : (l bs : List Bar) (b : Bar) → merge_bars (merge_bars_all l bs) b ≡ merge_bars_all l (bs ++ b ∷ [])
unfolding merge_bars_all fold_left
merge_end l [] b = refl
merge_end l (x ∷ bs) b = merge_end (merge_bars l x) bs b

-- ---- a bar with the last time

-- the columns v of the bars hold all but the last of the first n
pub again-start : (u : MergedStore) (n : ℕ) (v : RawStore) → v ≡ raw_part u → CanMergeAgain u n → Holds v (n - 1)
again-start u n v e h = let fits = h.fits in subst (λ (x : RawStore). Holds x (n - 1)) (sym e) (record { store = h.store.raw; kept = omega arith })

module _ (u : MergedStore) (n : ℕ) (h : CanMergeAgain u n) (raw : List Bar) (b : Bar) (k : NewBar) (reads : k ≡ new_bar_at u (n - 1)) (row : length k.elements ≡ 101) where
  pub again-count : k.count ≡ get_or u.counts (n - 1) 0
  unfolding new_bar_at
  again-count = ap (λ (x : NewBar). x.count) reads

  -- the elements but the last
  abbrev names : List ℤ
  names = take (k.count - 1) k.elements

  pub few_names : (length names ≤ 100) × (1 ≤ k.count)
  few_names =
      let count = again-count in
      let few = h.again.most in
      let one = h.again.some in
      (omega (arith, length-take-le (k.count - 1) k.elements (omega arith)), omega arith)

  -- what is merged again
  again-is : merge_all (take (n - 1) (merged_bars u)) (at_times raw names ++ b ∷ []) ≡ merged_again raw (take n (merged_bars u)) b
  unfolding merged_again again merged_of
  again-is =
      let l = merged_bars u in
      let z = merged_of k in
      let has = h.again in
      let one = has.kept in
      let fits = h.fits in
      let few = has.most in
      let Some_of = has.some in
      let count = again-count in
      let f : n ≤ length l = rw (merged-length u (length u.times) h.store) fits in
      let p : last (take n l) ≡ some (merged_of k) = last-take n l z one f ∙ ap some (merged-at u (n - 1) z (room_of u (length u.times) (n - 1 + 1) h.store (omega arith)) ∙ ap merged_of (sym reads)) in
      let q = init-take k.count k.elements (omega arith) (omega arith) in
      ap (λ (ts : List ℤ). merge_all (take (n - 1) l) (at_times raw ts ++ b ∷ [])) (sym q) ∙ (λ j. merge_all (sym (init-take n l one f) j) (again raw (sym p j) b))

  again-bars : merge_bars (merge_bars_all (take (n - 1) (raw_bars (raw_part u))) (at_times raw names)) b ≡ bars_only (merged_again raw (take n (merged_bars u)) b)
  unfolding bars_only
  again-bars =
      let bs = at_times raw names in
      merge_end (take (n - 1) (raw_bars (raw_part u))) bs b
      ∙ ap (λ (l : List Bar). merge_bars_all l (bs ++ b ∷ [])) (bars-kept u (length u.times) (n - 1) h.store)
      ∙ sym (merge_bars-all (take (n - 1) (merged_bars u)) (bs ++ b ∷ []))
      ∙ ap (map without_elements) again-is

  -- the columns v of the bars, behind which the tail t has begun
  module _ {N : ℕ} (v : RawStore) (is : v ≡ raw_part u) (t : Tail N) (s : HasTail v t (take (n - 1) (raw_bars v)) × (t.base ≤ n - 1) × (t.rows ≤ 1)) where
    -- the tail t' once the bars that the elements name are merged
    module _ (t' : Tail N) (q : TailGrown v t (length names) t' (merge_bars_all (shown v t) (at_times raw names))) where
      pub again-last : 102 ≤ N → CanTail v t' 1
      again-last wide =
          let fits : n ≤ length v.times = rw is h.fits in
          let few = few_names.0 in
          let before = s.1 in
          let short = s.2 in
          let same = q.base in
          let grown = q.rows in
          record {
            behind = record { store = (again-start u n v is h).store; kept = omega arith };
            tail = q.has.sized;
            room = omega arith;
            tied = q.has.tied;
          }

      pub again_done : (t2 : Tail N) → TailGrown v t' 1 t2 (merge_bars (shown v t') b) → HasTail (raw_part u) t2 (bars_only (merged_again raw (take n (merged_bars u)) b)) × (t2.base ≤ n)
      again_done t2 g =
          let before = s.1 in
          let same = q.base in
          let then = g.base in
          let bs = at_times raw names in (
            subst (λ (x : RawStore). HasTail x t2 (bars_only (merged_again raw (take n (merged_bars u)) b))) is
                (tail_of v t2 (merge_bars (shown v t') b) (bars_only (merged_again raw (take n (merged_bars u)) b))
                (ap (λ (l : List Bar). merge_bars l b) (q.has.bars ∙ ap (λ (l : List Bar). merge_bars_all l bs) s.0.bars)
                ∙ ap (λ (x : RawStore). merge_bars (merge_bars_all (take (n - 1) (raw_bars x)) bs) b) is
                ∙ again-bars)
                g.has),
            omega arith,
          )
