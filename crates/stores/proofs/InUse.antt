-- Rows of elements of which only what is in use is copied: the laws of the loops, and the bars that the store holds afterwards. Assumes nothing.
use Prim.Native.Nat.{ℕ, zero, suc, ◌+◌, ◌-◌, ◌<◌, ◌≤◌, min}
use mathlib.Core.Bool.{Bool, true, false}
use mathlib.Core.List.{List, [], ◌∷◌, ◌++◌}
use mathlib.Core.Logic.{◌⊎◌, inl, inr}
use mathlib.Core.Path.{◌≡◌, refl, ap, sym, ◌∙◌, subst}
use native.Mathlib.Nat.{zero-add}
use Rattle.arith.proofs.FloatOrder.{lt-or_ge}
use native.Mathlib.Omega.{arith}
use lib.Dec.{leb}
use borrow.Author.Tests.{le-leb, lt-leb}
use lib.ListN.{length, take, drop, get_or, set, take-append-drop, length-set}
use lib.Seq.{take_all, get_or-set_same, get_or-set_other, set-get_or}
use lib.IntN.{ℤ, pos}
use Rattle.bars.specs.declared.Bar.{Bar}
use Rattle.bars.specs.Bars.{Merged}
use Rattle.bars.specs.Lists.{copied}
use Rattle.stores.specs.Stores.{RawStore, MergedStore, raw_part, zip_with, with_first, raw_bars, merged_bars}
use Rattle.stores.specs.Code.StoreRows.{SizedRaw, SizedMerged, in_use, row_in_turn, RowsCopied, CopiedInUse}
use Rattle.bars.proofs.Moves.{length-copied, take-copied, copied_none, copy_turn, copied-turn, down_turn, up_turn, part_copied}
use Rattle.stores.proofs.Columns.{part_of, back_in, back-length, zip_part, zip-back, zip-set, zip-at, zip_longer, zip_length, zip-copied, raw-length, raw-copied, sized-copied}

-- ---- the first places of one row to another

module _ {A : Type 0} where
  set-again : (l : List A) (i : ℕ) (a b : A) → set (set l i a) i b ≡ set l i b
  set-again [] i a b = refl
  set-again (x ∷ l) zero a b = refl
  set-again (x ∷ l) (suc i) a b = ap (λ (r : List A). x ∷ r) (set-again l i a b)

  copied_itself : (l : List A) (k : ℕ) → copied l 0 l 0 k ≡ l
  unfolding copied
  copied_itself l k = ap (λ (j : ℕ). take k l ++ drop j l) (zero-add k) ∙ take-append-drop k l

-- the row at `from` is as it was, where k of its places were written to the row at `at`, which may be the same
pub source_kept : (es₀ es : List (List ℤ)) (from at k : ℕ) → es ≡ set es₀ at (copied (get_or es₀ at []) 0 (get_or es₀ from []) 0 k) → at < length es₀
    → get_or (get_or es from []) k (pos 0) ≡ get_or (get_or es₀ from []) k (pos 0)
source_kept es₀ es from at k e h = ap (λ (x : List (List ℤ)). get_or (get_or x from []) k (pos 0)) e ∙ by (lt-or_ge at from) (lt-or_ge from at)
  where
    l : List ℤ
    l = copied (get_or es₀ at []) 0 (get_or es₀ from []) 0 k

    by : (at < from) ⊎ (from ≤ at) → (from < at) ⊎ (at ≤ from) → get_or (get_or (set es₀ at l) from []) k (pos 0) ≡ get_or (get_or es₀ from []) k (pos 0)
    by (inl a) b = ap (λ (x : List ℤ). get_or x k (pos 0)) (get_or-set_other es₀ at from l [] (λ e. omega arith))
    by (inr a) (inl b) = ap (λ (x : List ℤ). get_or x k (pos 0)) (get_or-set_other es₀ at from l [] (λ e. omega arith))
    by (inr a) (inr b) =
        let e : from ≡ at = omega arith in
        ap (λ (x : List ℤ). get_or x k (pos 0))
        (ap (λ (j : ℕ). get_or (set es₀ at l) j []) e ∙ get_or-set_same es₀ at l [] h ∙ ap (λ (j : ℕ). copied (get_or es₀ j []) 0 (get_or es₀ from []) 0 k) (sym e) ∙ copied_itself (get_or es₀ from []) k)

pub row-none : (es : List (List ℤ)) (at : ℕ) (r : List ℤ) → es ≡ set es at (copied (get_or es at []) 0 r 0 0)
row-none es at r = sym (set-get_or es at []) ∙ ap (set es at) (copied_none (get_or es at []) r 0 0)

pub row-turn : (es₀ es : List (List ℤ)) (at : ℕ) (r : List ℤ) (k : ℕ) (v : ℤ)
    → es ≡ set es₀ at (copied (get_or es₀ at []) 0 r 0 k)
    → at < length es₀
    → k < length (get_or es₀ at [])
    → k < length r
    → v ≡ get_or r k (pos 0)
    → set es at (set (get_or es at []) k v) ≡ set es₀ at (copied (get_or es₀ at []) 0 r 0 (k + 1))
row-turn es₀ es at r k v e h hl hr q =
    let s = get_or es₀ at [] in
    let l = copied s 0 r 0 k in
    let row : get_or es at [] ≡ l = ap (λ (x : List (List ℤ)). get_or x at []) e ∙ get_or-set_same es₀ at l [] h in
    (λ i. set (e i) at (set (row i) k v)) ∙ set-again es₀ at l (set l k v) ∙ ap (set es₀ at) (copy_turn s r l k (pos 0) v refl hl hr q)

-- the places that are read are those of the other row, also where the count is above their number
read_down : (r s : List ℤ) (count n : ℕ) → n ≡ min count (length s) → length r ≡ length s → take count (copied r 0 s 0 n) ≡ take count s
read_down r s count n en e = by (lt-or_ge count (length s))
  where
    x : List ℤ
    x = copied r 0 s 0 n

    fits : 0 + n ≤ length r
    fits = omega arith

    first : take n x ≡ take n s
    first = ap (λ (k : ℕ). take k x) (sym (zero-add n)) ∙ take-copied r s 0 0 n fits (omega arith)

    long : length x ≡ length r
    long = length-copied r s 0 0 n fits (omega arith)

    by : (count < length s) ⊎ (length s ≤ count) → take count x ≡ take count s
    by (inl h) = let k : n ≡ count = omega arith in subst (λ (j : ℕ). take j x ≡ take j s) k first
    by (inr h) = take_all count x (omega (arith, long)) ∙ sym (take_all n x (omega (arith, long))) ∙ first ∙ take_all n s (omega arith) ∙ sym (take_all count s h)

pub row-end : (es₀ es : List (List ℤ)) (at : ℕ) (r : List ℤ) (count n k : ℕ)
    → es ≡ set es₀ at (copied (get_or es₀ at []) 0 r 0 k)
    → at < length es₀
    → n ≡ min count (length r)
    → length (get_or es₀ at []) ≡ length r
    → k ≤ n
    → n ≤ k
    → (take count (get_or es at []) ≡ take count r) × (es ≡ set es₀ at (get_or es at []))
row-end es₀ es at r count n k e h en el a b =
    let s = get_or es₀ at [] in
    let q : k ≡ n = omega arith in
    let row : get_or es at [] ≡ copied s 0 r 0 k = ap (λ (x : List (List ℤ)). get_or x at []) e ∙ get_or-set_same es₀ at (copied s 0 r 0 k) [] h in
    (ap (take count) (row ∙ ap (copied s 0 r 0) q) ∙ read_down s r count n en el, e ∙ ap (set es₀ at) (sym row))

-- ---- the rows

in_use-room : (n : ℕ) (cs : List ℕ) (es : List (List ℤ)) → n ≤ length cs → n ≤ length es → n ≤ length (in_use cs es)
unfolding in_use
in_use-room zero cs es h k = omega arith
in_use-room (suc n) cs es h k = let l = zip_longer take cs es n (omega arith) (omega arith) in omega arith

-- a row is written with its count
in_use-set : (cs : List ℕ) (es es' : List (List ℤ)) (at c : ℕ) → es' ≡ set es at (get_or es' at []) → in_use (set cs at c) es' ≡ set (in_use cs es) at (take c (get_or es' at []))
unfolding in_use
in_use-set cs es es' at c e = ap (zip_with take (set cs at c)) e ∙ zip-set take at cs es c (get_or es' at [])

-- what is in use of it is what is in use of the row that was read
in_use-at : (cs : List ℕ) (es : List (List ℤ)) (at c : ℕ) (row : List ℤ) → at < length cs → at < length es → c ≡ get_or cs at 0 → take c row ≡ take c (get_or es at [])
    → take c row ≡ get_or (in_use cs es) at []
unfolding in_use
in_use-at cs es at c row h k e q = q ∙ ap (λ (n : ℕ). take n (get_or es at [])) e ∙ sym (zip-at take at cs es 0 [] [] h k)

module _ (cs : List ℕ) (es : List (List ℤ)) where
  pub rows_none : (at : ℕ) (ds : List ℕ) (fs : List (List ℤ)) (from : ℕ) → RowsCopied cs es at ds fs from 0 cs es
  rows_none at ds fs from = record { counts = copied_none cs ds at from; elements = copied_none (in_use cs es) (in_use ds fs) at from; places = refl }

  pub rows_end : (at : ℕ) (ds : List ℕ) (fs : List (List ℤ)) (from i n : ℕ) (cs' : List ℕ) (es' : List (List ℤ)) → RowsCopied cs es at ds fs from i cs' es' → i ≤ n → n ≤ i
      → RowsCopied cs es at ds fs from n cs' es'
  rows_end at ds fs from i n cs' es' d h k = let e : i ≡ n = omega arith in subst (λ (j : ℕ). RowsCopied cs es at ds fs from j cs' es') e d

  module _ (cs' : List ℕ) (es' es'' : List (List ℤ)) where
    -- another store's rows, the first row first
    pub join-rows-turn : (ds : List ℕ) (fs : List (List ℤ)) (at from i c : ℕ)
        → RowsCopied cs es at ds fs from i cs' es'
        → at + i < length cs
        → at + i < length es
        → from + i < length ds
        → from + i < length fs
        → c ≡ get_or ds (from + i) 0
        → take c (get_or es'' (at + i) []) ≡ take c (get_or fs (from + i) [])
        → es'' ≡ set es' (at + i) (get_or es'' (at + i) [])
        → RowsCopied cs es at ds fs from (i + 1) (set cs' (at + i) c) es''
    join-rows-turn ds fs at from i c d hc he hd hf ec et eq =
        let row = get_or es'' (at + i) [] in
        let room = in_use-room (at + i + 1) cs es (omega arith) (omega arith) in
        let read = in_use-room (from + i + 1) ds fs (omega arith) (omega arith) in
        record {
          counts = copied-turn cs ds cs' at from i (at + i) 0 c d.counts hc hd refl ec;
          elements =
              in_use-set cs' es' es'' (at + i) c eq
              ∙ copied-turn (in_use cs es) (in_use ds fs) (in_use cs' es') at from i (at + i) [] (take c row) d.elements (omega arith) (omega arith) refl (in_use-at ds fs (from + i) c row hd hf ec et);
          places = ap length eq ∙ length-set es' (at + i) row ∙ d.places;
        }

    -- rows of the same store, down
    pub down-rows-turn : (at from i c : ℕ)
        → RowsCopied cs es at cs es from i cs' es'
        → length cs' ≡ length cs
        → at ≤ from
        → from + i < length cs
        → from + i < length es
        → c ≡ get_or cs' (from + i) 0
        → take c (get_or es'' (at + i) []) ≡ take c (get_or es' (from + i) [])
        → es'' ≡ set es' (at + i) (get_or es'' (at + i) [])
        → RowsCopied cs es at cs es from (i + 1) (set cs' (at + i) c) es''
    down-rows-turn at from i c d l h hc he ec et eq =
        let row = get_or es'' (at + i) [] in
        let p = d.places in
        let room = in_use-room (from + i + 1) cs es (omega arith) (omega arith) in
        record {
          counts = down_turn cs cs' at from i 0 c d.counts h hc ec;
          elements =
              in_use-set cs' es' es'' (at + i) c eq
              ∙ down_turn (in_use cs es) (in_use cs' es') at from i [] (take c row) d.elements h (omega arith) (in_use-at cs' es' (from + i) c row (omega arith) (omega arith) ec et);
          places = ap length eq ∙ length-set es' (at + i) row ∙ d.places;
        }

    -- rows of the same store, up, the last row first
    pub up-rows-turn : (at from n j c : ℕ)
        → RowsCopied cs es (at + (j + 1)) cs es (from + (j + 1)) (n - (j + 1)) cs' es'
        → length cs' ≡ length cs
        → from ≤ at
        → at + n ≤ length cs
        → at + n ≤ length es
        → j < n
        → c ≡ get_or cs' (from + j) 0
        → take c (get_or es'' (at + j) []) ≡ take c (get_or es' (from + j) [])
        → es'' ≡ set es' (at + j) (get_or es'' (at + j) [])
        → RowsCopied cs es (at + j) cs es (from + j) (n - j) (set cs' (at + j) c) es''
    up-rows-turn at from n j c d l h hc he hj ec et eq =
        let row = get_or es'' (at + j) [] in
        let p = d.places in
        record {
          counts = up_turn cs cs' at from n j 0 c d.counts h hc hj ec;
          elements =
              in_use-set cs' es' es'' (at + j) c eq
              ∙ up_turn (in_use cs es) (in_use cs' es') at from n j [] (take c row) d.elements h (in_use-room (at + n) cs es hc he) hj
              (in_use-at cs' es' (from + j) c row (omega arith) (omega arith) ec et);
          places = ap length eq ∙ length-set es' (at + j) row ∙ d.places;
        }

-- ---- the rows of a store in turn: of n rows, k are moved

-- place a of the first row of those, which are the first k where they go down, and the last k where they go up
abbrev pub first_moved : Bool → ℕ → ℕ → ℕ → ℕ
first_moved true a n k = a
first_moved false a n k = a + (n - k)

none_left : (b : Bool) (a n k : ℕ) → k ≡ n → first_moved b a n k ≡ a
none_left true a n k e = refl
none_left false a n k e = omega arith

-- b is whether they go down
abbrev pub MovedBy : Bool → List ℕ → List (List ℤ) → ℕ → ℕ → ℕ → ℕ → List ℕ → List (List ℤ) → Type 0
MovedBy b cs es at from n k cs' es' = RowsCopied cs es (first_moved b at n k) cs es (first_moved b from n k) k cs' es'

abbrev pub Moved : List ℕ → List (List ℤ) → ℕ → ℕ → ℕ → ℕ → List ℕ → List (List ℤ) → Type 0
Moved cs es at from n k cs' es' = MovedBy (leb at from) cs es at from n k cs' es'

module _ (cs : List ℕ) (es : List (List ℤ)) (at from n : ℕ) where
  pub moved_none : Moved cs es at from n 0 cs es
  moved_none = rows_none cs es (first_moved (leb at from) at n 0) cs es (first_moved (leb at from) from n 0)

  pub moved_end : (k : ℕ) (cs' : List ℕ) (es' : List (List ℤ)) → Moved cs es at from n k cs' es' → k ≡ n → RowsCopied cs es at cs es from n cs' es'
  moved_end k cs' es' m e =
      let down = leb at from in
      let here = subst (λ (p : ℕ). RowsCopied cs es p cs es (first_moved down from n k) k cs' es') (none_left down at n k e) m in
      let all = subst (λ (p : ℕ). RowsCopied cs es at cs es p k cs' es') (none_left down from n k e) here in
      subst (λ (j : ℕ). RowsCopied cs es at cs es from j cs' es') e all

  module _ (k : ℕ) (cs' : List ℕ) (es' es'' : List (List ℤ)) (i c : ℕ)
      (fits : (from + n ≤ length cs) × (from + n ≤ length es) × (at + n ≤ length cs) × (at + n ≤ length es)) (more : k < n)
      (long : length cs' ≡ length cs)
      (ec : c ≡ get_or cs' (from + i) 0)
      (et : take c (get_or es'' (at + i) []) ≡ take c (get_or es' (from + i) []))
      (eq : es'' ≡ set es' (at + i) (get_or es'' (at + i) [])) where
    -- the next of them is moved
    down-one : at ≤ from → i ≡ k → MovedBy true cs es at from n k cs' es' → MovedBy true cs es at from n (k + 1) (set cs' (at + i) c) es''
    down-one h e m =
        let f = fits.0 in
        let g = fits.1 in
        let begun = subst (λ (j : ℕ). RowsCopied cs es at cs es from j cs' es') (sym e) m in
        subst (λ (j : ℕ). RowsCopied cs es at cs es from (j + 1) (set cs' (at + i) c) es'') e
        (down-rows-turn cs es cs' es' es'' at from i c begun long h (omega arith) (omega arith) ec et eq)

    up-one : from ≤ at → i ≡ n - 1 - k → MovedBy false cs es at from n k cs' es' → MovedBy false cs es at from n (k + 1) (set cs' (at + i) c) es''
    up-one h e m =
        let s : n - k ≡ i + 1 = omega arith in
        let t : k ≡ n - (i + 1) = omega arith in
        let u : i ≡ n - (k + 1) = omega arith in
        let v : n - i ≡ k + 1 = omega arith in
        let begun = subst (λ (j : ℕ). RowsCopied cs es (at + j) cs es (from + j) (n - (i + 1)) cs' es') s (subst (λ (j : ℕ). RowsCopied cs es (at + (n - k)) cs es (from + (n - k)) j cs' es') t m) in
        subst (λ (j : ℕ). RowsCopied cs es (at + j) cs es (from + j) (k + 1) (set cs' (at + i) c) es'') u
        (subst (λ (j : ℕ). RowsCopied cs es (at + i) cs es (from + i) j (set cs' (at + i) c) es'') v
        (up-rows-turn cs es cs' es' es'' at from n i c begun long h fits.2 fits.3 (omega arith) ec et eq))

    pub moved-turn : i ≡ row_in_turn (leb at from) n k → Moved cs es at from n k cs' es' → Moved cs es at from n (k + 1) (set cs' (at + i) c) es''
    unfolding row_in_turn
    moved-turn = by (lt-or_ge from at)
      where
        by : (from < at) ⊎ (at ≤ from) → i ≡ row_in_turn (leb at from) n k → Moved cs es at from n k cs' es' → Moved cs es at from n (k + 1) (set cs' (at + i) c) es''
        by (inl h) = rw (lt-leb at from h) (up-one (omega arith))
        by (inr h) = rw (le-leb at from h) (down-one h)

-- ---- parts that were lent

module _ (cs : List ℕ) (es : List (List ℤ)) where
  -- the columns after their parts from `at` on were lent to a copy of the first n rows of other parts
  pub part_rows : (ds : List ℕ) (fs : List (List ℤ)) (cs' : List ℕ) (es' : List (List ℤ)) (at from n : ℕ)
      → at + n ≤ length cs
      → at + n ≤ length es
      → RowsCopied (part_of at cs) (part_of at es) 0 (part_of from ds) (part_of from fs) 0 n cs' es'
      → RowsCopied cs es at ds fs from n (back_in at cs cs') (back_in at es es')
  unfolding in_use
  part_rows ds fs cs' es' at from n hc he d =
      record {
        counts = part_copied cs ds (part_of from ds) cs' at from n hc refl d.counts;
        elements =
            zip-back take at cs es cs' es' (omega arith) (omega arith)
            ∙ part_copied (in_use cs es) (in_use ds fs) (part_of from (in_use ds fs)) (in_use cs' es') at from n (in_use-room (at + n) cs es hc he) refl
            (d.elements ∙ (λ i. copied (zip_part take at cs es i) 0 (zip_part take from ds fs i) 0 n));
        places = back-length at es es' (omega arith) d.places;
      }

-- ---- the store

-- a merged bar, of what is in use of its row
with_elements : Bar → List ℤ → Merged
with_elements b e = record { bar = b; elements = e }

zip_in_use : (l : List Bar) (cs : List ℕ) (es : List (List ℤ)) → zip_with (λ f e. f e) (zip_with with_first l cs) es ≡ zip_with with_elements l (zip_with take cs es)
unfolding zip_with with_first with_elements
zip_in_use [] cs es = refl
zip_in_use (b ∷ l) [] es = refl
zip_in_use (b ∷ l) (c ∷ cs) [] = refl
zip_in_use (b ∷ l) (c ∷ cs) (e ∷ es) = ap (λ (r : List Merged). with_elements b (take c e) ∷ r) (zip_in_use l cs es)

in_use_read : (s : MergedStore) → merged_bars s ≡ zip_with with_elements (raw_bars (raw_part s)) (in_use s.counts s.elements)
unfolding merged_bars in_use
in_use_read s = zip_in_use (raw_bars (raw_part s)) s.counts s.elements

module _ (d s w : MergedStore) (at from n k m : ℕ) (h : SizedMerged d k) (g : SizedMerged s m) (c : CopiedInUse d at s from n w) where
  pub copied_read : merged_bars w ≡ copied (merged_bars d) at (merged_bars s) from n
  unfolding in_use
  copied_read =
      let long : (x : MergedStore) (j : ℕ) → SizedMerged x j → length (raw_bars (raw_part x)) ≡ length (in_use x.counts x.elements) =
      λ x j y. raw-length (raw_part x) j y.raw ∙ sym (zip_length take x.counts x.elements (y.counts ∙ sym y.elements) ∙ y.counts) in
      in_use_read w
      ∙ (λ i. zip_with with_elements ((ap raw_bars c.raw ∙ raw-copied (raw_part d) (raw_part s) at from n k m h.raw g.raw) i) (c.rows.elements i))
      ∙ zip-copied with_elements (raw_bars (raw_part d)) (raw_bars (raw_part s)) (in_use d.counts d.elements) (in_use s.counts s.elements) at from n (long d k h) (long s m g)
      ∙ (λ i. copied (sym (in_use_read d) i) at (sym (in_use_read s) i) from n)

  pub copied-sized : at + n ≤ k → from + n ≤ m → SizedMerged w k
  copied-sized a b =
      record {
        raw = subst (λ (r : RawStore). SizedRaw r k) (sym c.raw) (sized-copied (raw_part d) (raw_part s) at from n k m h.raw g.raw a b);
        counts = ap length c.rows.counts ∙ length-copied d.counts s.counts at from n (rw h.counts a) (rw g.counts b) ∙ h.counts;
        elements = c.rows.places ∙ h.elements;
      }
