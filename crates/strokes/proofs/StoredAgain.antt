-- A run of raw bars merged into the unfinished store one after the other, each found by its time. Assumes nothing.
use Prim.Native.Nat.{ℕ, ◌+◌, ◌-◌, ◌<◌, ◌≤◌}
use mathlib.Core.List.{List, [], ◌∷◌, ◌++◌, append-nil, append_assoc}
use mathlib.Core.Option.{some}
use mathlib.Core.Path.{◌≡◌, refl, ap, sym, ◌∙◌, subst}
use native.Mathlib.Numerals.{add-one}
use native.Mathlib.Omega.{arith}
use lib.ListN.{length, take, drop, get_or, drop_of_length-le}
use lib.Seq.{drop-cons}
use lib.IntN.{ℤ, pos}
use Rattle.bars.specs.declared.Bar.{Bar}
use Rattle.bars.specs.declared.NewBar.{NewBar}
use Rattle.bars.specs.Bars.{Merged, merged_of}
use Rattle.bars.specs.Lists.{keep_if, fold_left, last}
use Rattle.bars.specs.Merging.{merge_in, merge_all, at_times, again}
use Rattle.stores.specs.Stores.{RawStore, MergedStore, merged_bars}
use Rattle.stores.specs.Code.StoreRows.{SizedRaw, SizedMerged, new_bar_at}
use Rattle.stores.proofs.Columns.{merged-length, merged-at}
use Rattle.bars.proofs.MergedLists.{merge_run_grows}
use Rattle.stores.proofs.Searching.{timed}
use Rattle.strokes.specs.declared.Stand.{Stand}
use Rattle.strokes.specs.Code.BarSteps.{HasUnfinished, CanMerge, RisingRaw, LastHas, kept_raw, kept_unfinished, with_unfinished, merged_again}
use Rattle.strokes.proofs.StoredRaw.{init-take, last-take}
use Rattle.strokes.proofs.StoredUnfinished.{room_of, has_unfinished}

-- ---- the raw bar of a time

-- what the store's times have
pub named_sized : (s : Stand) (m : RawStore) → RisingRaw s m → SizedRaw m (length m.times)
named_sized s m h = record { times = refl; ids = h.sized.ids ∙ sym h.sized.times; prices = h.sized.prices ∙ sym h.sized.times }

-- ---- one raw bar merged

module _ (s r : Stand) (u w : MergedStore) (bs : List Bar) where
  pub none_named : CanMerge s u (merge_all (kept_unfinished s u) bs) → bs ≡ [] → HasUnfinished s s u (merge_all (kept_unfinished s u) bs)
  unfolding merge_all fold_left with_unfinished
  none_named h e =
      has_unfinished s s u u s.unfinished (merge_all (kept_unfinished s u) bs) refl refl h.unfinished h.fits (ap (merge_all (kept_unfinished s u)) (sym e))

  pub one-fits : (b : Bar) → CanMerge s u (merge_all (kept_unfinished s u) bs) → bs ≡ b ∷ [] → CanMerge s u (merge_in (kept_unfinished s u) b)
  unfolding merge_all fold_left
  one-fits b h e = subst (CanMerge s u) (ap (merge_all (kept_unfinished s u)) e) h

  pub one-named : (b : Bar) → bs ≡ b ∷ [] → HasUnfinished s r w (merge_in (kept_unfinished s u) b) → HasUnfinished s r w (merge_all (kept_unfinished s u) bs)
  unfolding merge_all fold_left
  one-named b e h = subst (HasUnfinished s r w) (sym (ap (merge_all (kept_unfinished s u)) e)) h

-- ---- the run

merge_both : (l : List Merged) (a b : List Bar) → merge_all l (a ++ b) ≡ merge_all (merge_all l a) b
unfolding merge_all fold_left
merge_both l [] b = refl
merge_both l (x ∷ a) b = merge_both (merge_in l x) a b

-- the first time of some, and then the others
times_both : (raw : List Bar) (t : ℤ) (ts : List ℤ) (b : Bar) → at_times raw (t ∷ []) ++ (at_times raw ts ++ b ∷ []) ≡ at_times raw (t ∷ ts) ++ b ∷ []
unfolding at_times
times_both raw t ts b =
    let k = keep_if (timed (λ b. b.time) t) raw in
    ap (λ (x : List Bar). x ++ (at_times raw ts ++ b ∷ [])) (append-nil k) ∙ sym (append_assoc k (at_times raw ts) (b ∷ []))

-- The stand v and the store w, while the bars of the times es and then b are still to be merged: v is s but for the number of unfinished bars, and what is
-- left to merge gives the answer.
pub record Going (s v : Stand) (w : MergedStore) (raw : List Bar) (es : List ℤ) (b : Bar) (answer : List Merged) : Type 0 where
  pub stand : v ≡ with_unfinished s v.unfinished
  pub sized : SizedMerged w s.rooms.unfinished
  pub fits : v.unfinished ≤ s.rooms.unfinished
  pub left : merge_all (kept_unfinished v w) (at_times raw es ++ b ∷ []) ≡ answer

pub going_first : (s : Stand) (u : MergedStore) (raw : List Bar) (es : List ℤ) (b : Bar) → SizedMerged u s.rooms.unfinished → s.unfinished ≤ s.rooms.unfinished
    → Going s s u raw (drop 0 es) b (merge_all (kept_unfinished s u) (at_times raw es ++ b ∷ []))
unfolding with_unfinished
going_first s u raw es b h k = record { stand = refl; sized = h; fits = k; left = refl }

module _ (s v : Stand) (m : RawStore) (w : MergedStore) (es : List ℤ) (b : Bar) (answer : List Merged) (i : ℕ) (g : Going s v w (kept_raw s m) (drop i es) b answer) where
  same-raw : kept_raw v m ≡ kept_raw s m
  unfolding with_unfinished
  same-raw = ap (λ (x : Stand). kept_raw x m) g.stand

  pub going_sized : (x : MergedStore) → SizedMerged x v.rooms.unfinished → SizedMerged x s.rooms.unfinished
  unfolding with_unfinished
  going_sized x h = subst (λ (y : Stand). SizedMerged x y.rooms.unfinished) g.stand h

  pub going_rising : RisingRaw s m → RisingRaw v m
  unfolding with_unfinished
  going_rising h = subst (λ (y : Stand). RisingRaw y m) (sym g.stand) (record { sized = h.sized; fits = h.fits; rise = h.rise })

  can_merge : (l : List Merged) → length l ≤ s.rooms.unfinished → CanMerge v w l
  unfolding with_unfinished
  can_merge l h =
      let e : v.rooms.unfinished ≡ s.rooms.unfinished = ap (λ (y : Stand). y.rooms.unfinished) g.stand in
      record { unfinished = subst (SizedMerged w) (sym e) g.sized; fits = rw e g.fits; room = rw e h }

  module _ (t : ℤ) (there : i < length es) (reads : t ≡ get_or es i (pos 0)) where
    step : List Merged
    step = merge_all (kept_unfinished v w) (at_times (kept_raw v m) (t ∷ []))

    goes_on : merge_all step (at_times (kept_raw s m) (drop (i + 1) es) ++ b ∷ []) ≡ answer
    unfolding step
    goes_on =
        ap (λ (r : List Bar). merge_all (merge_all (kept_unfinished v w) (at_times r (t ∷ []))) (at_times (kept_raw s m) (drop (i + 1) es) ++ b ∷ [])) same-raw
        ∙ sym (merge_both (kept_unfinished v w) (at_times (kept_raw s m) (t ∷ [])) (at_times (kept_raw s m) (drop (i + 1) es) ++ b ∷ []))
        ∙ ap (merge_all (kept_unfinished v w)) (times_both (kept_raw s m) t (drop (i + 1) es) b)
        ∙ ap (λ (ts : List ℤ). merge_all (kept_unfinished v w) (at_times (kept_raw s m) ts ++ b ∷ []))
        ((λ j. reads j ∷ drop (add-one i j) es) ∙ sym (drop-cons es i (pos 0) there))
        ∙ g.left

    pub going_fits : length answer ≤ s.rooms.unfinished → CanMerge v w (merge_all (kept_unfinished v w) (at_times (kept_raw v m) (t ∷ [])))
    unfolding step
    going_fits h =
        let k = merge_run_grows step (at_times (kept_raw s m) (drop (i + 1) es) ++ b ∷ []) in
        let e = ap length goes_on in
        let a : length step ≤ s.rooms.unfinished = omega (arith, k.least) in
        can_merge step a

    pub going_turn : (r : Stand) (x : MergedStore) → HasUnfinished v r x (merge_all (kept_unfinished v w) (at_times (kept_raw v m) (t ∷ []))) → length answer ≤ s.rooms.unfinished
        → Going s r x (kept_raw s m) (drop (i + 1) es) b answer
    unfolding step with_unfinished
    going_turn r x h room =
        let n = length step in
        let k = merge_run_grows step (at_times (kept_raw s m) (drop (i + 1) es) ++ b ∷ []) in
        let e = ap length goes_on in
        let a : length step ≤ s.rooms.unfinished = omega (arith, k.least) in
        let q : r ≡ with_unfinished s n = h.stand ∙ ap (λ (y : Stand). with_unfinished y n) g.stand in
        let c : r.unfinished ≡ n = ap (λ (y : Stand). y.unfinished) h.stand in
        record {
          stand = q ∙ ap (with_unfinished s) (sym c);
          sized = going_sized x h.sized;
          fits = rw c a;
          left = ap (λ (l : List Merged). merge_all l (at_times (kept_raw s m) (drop (i + 1) es) ++ b ∷ [])) h.bars ∙ goes_on;
        }

  module _ (over : length es ≤ i) where
    at_last : merge_in (kept_unfinished v w) b ≡ answer
    unfolding merge_all fold_left at_times
    at_last = ap (λ (ts : List ℤ). merge_all (kept_unfinished v w) (at_times (kept_raw s m) ts ++ b ∷ [])) (sym (drop_of_length-le es {i = i} over)) ∙ g.left

    pub last_fits : length answer ≤ s.rooms.unfinished → CanMerge v w (merge_in (kept_unfinished v w) b)
    last_fits h = can_merge (merge_in (kept_unfinished v w) b) (rw at_last h)

    -- s is itself the stand s₀ without its last unfinished bar
    pub going_done : (s₀ : Stand) (r n : ℕ) (x : MergedStore) (l : List Merged) → s ≡ with_unfinished s₀ n → answer ≡ l → HasUnfinished v (with_unfinished v r) x (merge_in (kept_unfinished v w) b)
        → HasUnfinished s₀ (with_unfinished s₀ r) x l
    unfolding with_unfinished
    going_done s₀ r n x l e q h =
        let k = at_last ∙ q in
        record {
          bars = h.bars ∙ k;
          stand = ap (with_unfinished s₀) (ap (λ (y : Stand). y.unfinished) h.stand ∙ ap length k);
          sized = subst (λ (y : Stand). SizedMerged x y.rooms.unfinished) e (going_sized x h.sized);
        }

-- what is asked for, by the last unfinished bar k as it is read
module _ (s : Stand) (u : MergedStore) (raw : List Bar) (b : Bar) (k : NewBar) (h : CanMerge s u (merged_again raw (kept_unfinished s u) b)) (has : LastHas s u)
    (reads : k ≡ new_bar_at u (s.unfinished - 1)) (row : length k.elements ≡ 101) where
  -- the number of its elements
  again-count : k.count ≡ get_or u.counts (s.unfinished - 1) 0
  unfolding new_bar_at
  again-count = ap (λ (x : NewBar). x.count) reads

  again-is : merge_all (take (s.unfinished - 1) (merged_bars u)) (at_times raw (take (k.count - 1) k.elements) ++ b ∷ []) ≡ merged_again raw (kept_unfinished s u) b
  unfolding merged_again again merged_of
  again-is =
      let n = s.unfinished in
      let K = s.rooms.unfinished in
      let l = merged_bars u in
      let z = merged_of k in
      let one = has.kept in
      let fits = h.fits in
      let few = has.most in
      let Some_of = has.some in
      let count = again-count in
      let f : n ≤ length l = rw (merged-length u K h.unfinished) fits in
      let p : last (take n l) ≡ some (merged_of k) =
      last-take n l z one f ∙ ap some (merged-at u (n - 1) z (room_of u K (n - 1 + 1) h.unfinished (omega arith)) ∙ ap merged_of (sym reads)) in
      let q = init-take k.count k.elements (omega arith) (omega arith) in
      ap (λ (ts : List ℤ). merge_all (take (n - 1) l) (at_times raw ts ++ b ∷ [])) (sym q) ∙ (λ j. merge_all (sym (init-take n l one f) j) (again raw (sym p j) b))

  again-room : length (merge_all (take (s.unfinished - 1) (merged_bars u)) (at_times raw (take (k.count - 1) k.elements) ++ b ∷ [])) ≤ s.rooms.unfinished
  again-room = rw again-is h.room

-- the last unfinished bar k as it is read: it has an element or more, and merging all of them but the last, and then b, gives what is asked for
pub record Newest (s : Stand) (u : MergedStore) (raw : List Bar) (b : Bar) (k : NewBar) : Type 0 where
  pub some : 1 ≤ k.count
  pub most : k.count ≤ 101
  pub is : merge_all (take (s.unfinished - 1) (merged_bars u)) (at_times raw (take (k.count - 1) k.elements) ++ b ∷ []) ≡ merged_again raw (kept_unfinished s u) b
  pub room : length (merge_all (take (s.unfinished - 1) (merged_bars u)) (at_times raw (take (k.count - 1) k.elements) ++ b ∷ [])) ≤ s.rooms.unfinished

pub newest_is : (s : Stand) (u w : MergedStore) (raw : List Bar) (b : Bar) (k : NewBar) → CanMerge s u (merged_again raw (kept_unfinished s u) b) → LastHas s u → w ≡ u → k ≡ new_bar_at w (s.unfinished - 1)
    → length k.elements ≡ 101
    → Newest s u raw b k
newest_is s u w raw b k h has e q row =
    let reads = q ∙ ap (λ (x : MergedStore). new_bar_at x (s.unfinished - 1)) e in
    let count = again-count s u raw b k h has reads row in
    record {
      some = rw count has.some;
      most = rw count has.most;
      is = again-is s u raw b k h has reads row;
      room = again-room s u raw b k h has reads row;
    }
