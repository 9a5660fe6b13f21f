-- The numbers of elements in a store of merged bars after a writing step: where none was above 101, none is. Assumes nothing.
use Prim.Native.Nat.{ℕ, zero, suc, ◌+◌, ◌-◌, ◌<◌, ◌≤◌}
use mathlib.Core.Bool.{Bool}
use mathlib.Core.List.{List, [], ◌∷◌, ◌++◌}
use mathlib.Core.Path.{◌≡◌, ap, sym, ◌∙◌, subst}
use native.Mathlib.Numerals.{add-one}
use native.Mathlib.Omega.{arith}
use lib.ListN.{length, take, drop, set}
use lib.Seq.{take-take, take-suc-set}
use lib.Dec.{T, leb, le→leb}
use lib.Ieee.Fits.{and_i, and_l, and_r}
use Rattle.bars.specs.Bars.{Merged}
use Rattle.bars.specs.Lists.{copied, every}
use Rattle.stores.specs.Stores.{MergedStore}
use Rattle.stores.specs.Code.StoreRows.{SizedMerged, BarWritten, set_new_bar}
use Rattle.bars.proofs.Moves.{take-copied, run_is}
use Rattle.strokes.specs.declared.Stand.{Stand}
use Rattle.strokes.specs.StateRead.{elements_sized}
use Rattle.strokes.specs.Code.BarSteps.{CanJoin}
use Rattle.strokes.specs.Code.ElementCounts.{StaySized}
use Rattle.strokes.proofs.StoredRaw.{moved_down_lem}
use Rattle.strokes.proofs.StoredUnfinished.{joined-rows}

-- ---- a test that every row of a column passes

module _ {A : Type 0} (p : A → Bool) where
  every_both : (l m : List A) → T (every p l) → T (every p m) → T (every p (l ++ m))
  unfolding every
  every_both [] m h k = k
  every_both (a ∷ l) m h k = and_i (p a) (every p (l ++ m)) (and_l (p a) (every p l) h) (every_both l m (and_r (p a) (every p l) h) k)

  every_take : (n : ℕ) (l : List A) → T (every p l) → T (every p (take n l))
  unfolding every
  every_take zero l h = tt
  every_take (suc n) [] h = tt
  every_take (suc n) (a ∷ l) h = and_i (p a) (every p (take n l)) (and_l (p a) (every p l) h) (every_take n l (and_r (p a) (every p l) h))

  every_drop : (n : ℕ) (l : List A) → T (every p l) → T (every p (drop n l))
  unfolding every
  every_drop zero l h = h
  every_drop (suc n) [] h = tt
  every_drop (suc n) (a ∷ l) h = every_drop n l (and_r (p a) (every p l) h)

  every-fewer : (k n : ℕ) (l : List A) → k ≤ n → T (every p (take n l)) → T (every p (take k l))
  every-fewer k n l h t = subst (λ (x : List A). T (every p x)) (take-take k n l h) (every_take k (take n l) t)

  -- a run among the first n
  every-run : (at m n : ℕ) (l : List A) → at + m ≤ n → T (every p (take n l)) → T (every p (take m (drop at l)))
  every-run at m n l h t = subst (λ (x : List A). T (every p x)) (sym (run_is l at m)) (every_drop at (take (at + m) l) (every-fewer (at + m) n l h t))

  -- a row written behind the first n
  every_put : (n : ℕ) (l : List A) (a : A) → n < length l → T (p a) → T (every p (take n l)) → T (every p (take (n + 1) (set l n a)))
  unfolding every
  every_put n l a h k t =
      subst (λ (x : List A). T (every p x)) (sym (take-suc-set l n a h) ∙ ap (λ (i : ℕ). take i (set l n a)) (sym (add-one n)))
      (every_both (take n l) (a ∷ []) t (and_i (p a) (every p []) k tt))

-- ---- the steps

pub stay_fewer : (m : MergedStore) (k n : ℕ) → k ≤ n → StaySized n m k m
unfolding elements_sized
stay_fewer m k n h t = every-fewer (λ k. leb k 101) k n m.counts h t

-- a bar written behind the first n
pub stay_put : (m w : MergedStore) (n room : ℕ) (k : Merged) → SizedMerged m room → n < room → BarWritten m n k w → StaySized n m (n + 1) w
unfolding elements_sized set_new_bar
stay_put m w n room k h c d t =
    let a = d.bar in
    subst (λ (x : MergedStore). T (elements_sized (n + 1) x)) (sym d.store) (every_put (λ k. leb k 101) n m.counts a.count (rw h.counts c) (le→leb a.count 101 d.few) t)

-- a bar written over the last
pub stay_last : (m w : MergedStore) (n room : ℕ) (k : Merged) → SizedMerged m room → 1 ≤ n → n ≤ room → BarWritten m (n - 1) k w → StaySized n m n w
stay_last m w n room k h one c d t =
    let g : n - 1 + 1 ≡ n = omega arith in
    subst (λ (i : ℕ). T (elements_sized i w)) g (stay_put m w (n - 1) room k h (omega arith) d (stay_fewer m (n - 1) n (omega arith) t))

-- the first j go
pub stay_moved : (m w : MergedStore) (j n room : ℕ) → SizedMerged m room → j ≤ n → n ≤ room → w.counts ≡ copied m.counts 0 m.counts j (n - j) → StaySized n m (n - j) w
unfolding elements_sized
stay_moved m w j n room h a c e t =
    subst (λ (x : List ℕ). T (every (λ k. leb k 101) x)) (sym (ap (take (n - j)) e ∙ moved_down_lem m.counts j n a (rw h.counts c))) (every_drop (λ k. leb k 101) j (take n m.counts) t)

-- all but the last two of so many bars of another store, from place `at` on, stand before those from place j on
pub stay_joined : (s : Stand) (u k w : MergedStore) (cs : List ℕ) (at rows j : ℕ) → CanJoin s u k at rows → j ≤ s.unfinished → rows - 2 + (s.unfinished - j) ≤ s.rooms.unfinished
    → cs ≡ copied u.counts (rows - 2) u.counts j (s.unfinished - j)
    → w.counts ≡ copied cs 0 k.counts at (rows - 2)
    → T (elements_sized (at + rows) k) → StaySized s.unfinished u (rows - 2 + (s.unfinished - j)) w
unfolding elements_sized
stay_joined s u k w cs at rows j h a b d e q t =
    let n = s.unfinished in
    let m = rows - 2 in
    let two = h.two in
    let within = h.within in
    let inside : at + m ≤ s.rooms.strokes = omega arith in
    let reads = ap (take (m + (n - j))) (e ∙ ap (λ (x : List ℕ). copied x 0 k.counts at m) d)
    ∙ joined-rows u.counts k.counts m j n at a (rw h.unfinished.counts h.fits) (rw h.unfinished.counts b) (rw h.strokes.counts inside) in
    subst (λ (x : List ℕ). T (every (λ k. leb k 101) x)) (sym reads)
    (every_both (λ k. leb k 101) (take m (drop at k.counts)) (drop j (take n u.counts)) (every-run (λ k. leb k 101) at m (at + rows) k.counts (omega arith) q) (every_drop (λ k. leb k 101) j (take n u.counts) t))

-- so many of the first n bars of another store, from place `from` on, stand behind the first k
pub stay_added : (d s w : MergedStore) (k from m n room other : ℕ) → SizedMerged d room → SizedMerged s other → from + m ≤ n → n ≤ other → k + m ≤ room
    → w.counts ≡ copied d.counts k s.counts from m → T (elements_sized n s) → StaySized k d (k + m) w
unfolding elements_sized
stay_added d s w k from m n room other h g a b c e q t =
    let inside : from + m ≤ other = omega arith in
    subst (λ (x : List ℕ). T (every (λ k. leb k 101) x))
    (sym (ap (take (k + m)) e ∙ take-copied d.counts s.counts k from m (rw h.counts c) (rw g.counts inside)))
    (every_both (λ k. leb k 101) (take k d.counts) (take m (drop from s.counts)) t (every-run (λ k. leb k 101) from m n s.counts a q))
