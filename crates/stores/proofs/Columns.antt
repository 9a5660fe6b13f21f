-- The bars of a store after every column was written alike: one law for each of set, take, drop and ++ on two lists joined place by place, and what follows
-- for the stores. Assumes nothing.
use Prim.Native.Nat.{ℕ, zero, suc, ◌+◌, ◌-◌, ◌<◌, ◌≤◌}
use mathlib.Core.List.{List, [], ◌∷◌, ◌++◌, map, append-nil}
use mathlib.Core.Path.{◌≡◌, refl, ap, sym, ◌∙◌}
use native.Mathlib.Nat.{le_refl}
use native.Mathlib.Numerals.{add-one}
use native.Mathlib.Omega.{arith}
use lib.ListN.{length, take, drop, get_or, set, length-take, length-drop, length-set, length-append, drop_of_length-le}
use lib.Seq.{take-suc-set, take_all, length-take-le}
use lib.IntN.{ℤ, pos}
use lib.Ieee.{Float}
use Rattle.bars.specs.declared.Bar.{Bar}
use Rattle.bars.specs.declared.NewBar.{NewBar}
use Rattle.bars.specs.Bars.{Merged, merged_of, row_of}
use Rattle.bars.specs.Lists.{copied}
use Rattle.stores.specs.Stores.{RawStore, MergedStore, merged_store, raw_part, zip_with, bar_of, with_first}
use Rattle.stores.specs.Code.StoreRows.{SizedRaw, SizedMerged, RoomRaw, RoomMerged}
use Rattle.stores.specs.Stores.{raw_bars, merged_bars}
use Rattle.stores.specs.Code.StoreRows.{bar_at, new_bar_at, set_bar, set_new_bar, copied_raw}
use Rattle.bars.proofs.Moves.{length-copied}

module _ {A B C : Type 0} (f : A → B → C) where
  pub zip-take : (n : ℕ) (l : List A) (m : List B) → zip_with f (take n l) (take n m) ≡ take n (zip_with f l m)
  unfolding zip_with
  zip-take zero l m = refl
  zip-take (suc n) [] m = refl
  zip-take (suc n) (a ∷ l) [] = refl
  zip-take (suc n) (a ∷ l) (b ∷ m) = ap (λ (x : List C). f a b ∷ x) (zip-take n l m)

  pub zip-none : (l : List A) → zip_with f l [] ≡ []
  unfolding zip_with
  zip-none [] = refl
  zip-none (a ∷ l) = refl

  pub zip-drop : (n : ℕ) (l : List A) (m : List B) → zip_with f (drop n l) (drop n m) ≡ drop n (zip_with f l m)
  unfolding zip_with
  zip-drop zero l m = refl
  zip-drop (suc n) [] m = refl
  zip-drop (suc n) (a ∷ l) [] = zip-none (drop n l)
  zip-drop (suc n) (a ∷ l) (b ∷ m) = zip-drop n l m

  pub zip-set : (i : ℕ) (l : List A) (m : List B) (a : A) (b : B) → zip_with f (set l i a) (set m i b) ≡ set (zip_with f l m) i (f a b)
  unfolding zip_with
  zip-set i [] m a b = refl
  zip-set zero (x ∷ l) [] a b = refl
  zip-set (suc i) (x ∷ l) [] a b = refl
  zip-set zero (x ∷ l) (y ∷ m) a b = refl
  zip-set (suc i) (x ∷ l) (y ∷ m) a b = ap (λ (r : List C). f x y ∷ r) (zip-set i l m a b)

  pub zip-append : (l l' : List A) (m m' : List B) → length l ≡ length m → zip_with f (l ++ l') (m ++ m') ≡ zip_with f l m ++ zip_with f l' m'
  unfolding zip_with
  zip-append [] l' [] m' e = refl
  zip-append [] l' (b ∷ m) m' e = let z : ⊥ = omega arith in absurd z
  zip-append (a ∷ l) l' [] m' e = let z : ⊥ = omega arith in absurd z
  zip-append (a ∷ l) l' (b ∷ m) m' e = ap (λ (r : List C). f a b ∷ r) (zip-append l l' m m' (omega arith))

  pub zip_length : (l : List A) (m : List B) → length l ≡ length m → length (zip_with f l m) ≡ length l
  unfolding zip_with
  zip_length [] m e = refl
  zip_length (a ∷ l) [] e = let z : ⊥ = omega arith in absurd z
  zip_length (a ∷ l) (b ∷ m) e = ap suc (zip_length l m (omega arith))

  pub zip-at : (i : ℕ) (l : List A) (m : List B) (a : A) (b : B) (z : C) → i < length l → i < length m → get_or (zip_with f l m) i z ≡ f (get_or l i a) (get_or m i b)
  unfolding zip_with
  zip-at i [] m a b z h k = let w : ⊥ = omega arith in absurd w
  zip-at i (x ∷ l) [] a b z h k = let w : ⊥ = omega arith in absurd w
  zip-at zero (x ∷ l) (y ∷ m) a b z h k = refl
  zip-at (suc i) (x ∷ l) (y ∷ m) a b z h k = zip-at i l m a b z (omega arith) (omega arith)

  pub zip_longer : (l : List A) (m : List B) (i : ℕ) → i < length l → i < length m → i < length (zip_with f l m)
  unfolding zip_with
  zip_longer [] m i h k = h
  zip_longer (a ∷ l) [] i h k = k
  zip_longer (a ∷ l) (b ∷ m) zero h k = omega arith
  zip_longer (a ∷ l) (b ∷ m) (suc i) h k = let e : i < length (zip_with f l m) = zip_longer l m i (omega arith) (omega arith) in omega arith

  -- the same n rows copied in both columns
  pub zip-copied : (d s : List A) (e t : List B) (at from n : ℕ) → length d ≡ length e → length s ≡ length t
      → zip_with f (copied d at s from n) (copied e at t from n) ≡ copied (zip_with f d e) at (zip_with f s t) from n
  unfolding copied
  zip-copied d s e t at from n h k =
      let p : length (take at d) ≡ length (take at e) = rw (length-take, length-take, h) in
      let q : length (take n (drop from s)) ≡ length (take n (drop from t)) = rw (length-take, length-take, length-drop, length-drop, k) in
      zip-append (take at d ++ take n (drop from s)) (drop (at + n) d) (take at e ++ take n (drop from t)) (drop (at + n) e)
      (rw (length-append, length-append, p, q))
      ∙ ap (λ (r : List C). r ++ zip_with f (drop (at + n) d) (drop (at + n) e)) (zip-append (take at d) (take n (drop from s)) (take at e) (take n (drop from t)) p)
      ∙ (λ i. zip-take at d e i ++ (zip-take n (drop from s) (drop from t) ∙ ap (take n) (zip-drop from s t)) i ++ zip-drop (at + n) d e i)

-- ---- a part that was lent, `&mut d[lo..]`, and the list that has it back

abbrev pub part_of : {A : Type 0} → ℕ → List A → List A
part_of lo d = take (length d - lo) (drop lo d)

abbrev pub back_in : {A : Type 0} → ℕ → List A → List A → List A
back_in lo d r = take lo d ++ (r ++ drop (length d - lo) (drop lo d))

module _ {A : Type 0} (lo : ℕ) (d : List A) where
  part_is : part_of lo d ≡ drop lo d
  part_is = take_all (length d - lo) (drop lo d) (rw length-drop (le_refl (length d - lo)))

  back_is : (r : List A) → back_in lo d r ≡ take lo d ++ r
  back_is r =
      let none : drop (length d - lo) (drop lo d) ≡ [] = drop_of_length-le (drop lo d) {i = length d - lo} (rw length-drop (le_refl (length d - lo))) in
      rw (none, append-nil r)

  pub back-length : (r : List A) → lo ≤ length d → length r ≡ length (part_of lo d) → length (back_in lo d r) ≡ length d
  back-length r h e =
      let t = length-take-le lo d h in
      let p = ap length part_is ∙ length-drop lo d in
      let b = ap length (back_is r) ∙ length-append (take lo d) r in
      omega arith

-- the parts of two columns
module _ {A B C : Type 0} (f : A → B → C) (lo : ℕ) (l : List A) (m : List B) where
  pub zip_part : zip_with f (part_of lo l) (part_of lo m) ≡ part_of lo (zip_with f l m)
  zip_part = (λ i. zip_with f (part_is lo l i) (part_is lo m i)) ∙ zip-drop f lo l m ∙ sym (part_is lo (zip_with f l m))

  pub zip-back : (r : List A) (s : List B) → lo ≤ length l → lo ≤ length m → zip_with f (back_in lo l r) (back_in lo m s) ≡ back_in lo (zip_with f l m) (zip_with f r s)
  zip-back r s h k =
      (λ i. zip_with f (back_is lo l r i) (back_is lo m s i))
      ∙ zip-append f (take lo l) r (take lo m) s (length-take-le lo l h ∙ sym (length-take-le lo m k))
      ∙ ap (λ (x : List C). x ++ zip_with f r s) (zip-take f lo l m)
      ∙ sym (back_is lo (zip_with f l m) (zip_with f r s))

-- what g reads of the rows of three columns, and r of their first column, or of their third
module _ {A B C D X : Type 0} (f : A → B → C → D) (g : D → X) where
  zip_first : (r : A → X) → ((a : A) (b : B) (c : C) → g (f a b c) ≡ r a) → (l : List A) (m : List B) (o : List C) → length l ≡ length m → length l ≡ length o
      → map g (zip_with (λ h c. h c) (zip_with f l m) o) ≡ map r l
  unfolding zip_with
  zip_first r q [] m o e d = refl
  zip_first r q (a ∷ l) [] o e d = let w : ⊥ = omega arith in absurd w
  zip_first r q (a ∷ l) (b ∷ m) [] e d = let w : ⊥ = omega arith in absurd w
  zip_first r q (a ∷ l) (b ∷ m) (c ∷ o) e d = λ i. q a b c i ∷ zip_first r q l m o (omega arith) (omega arith) i

  zip_third : (r : C → X) → ((a : A) (b : B) (c : C) → g (f a b c) ≡ r c) → (l : List A) (m : List B) (o : List C) → length l ≡ length m → length l ≡ length o
      → map g (zip_with (λ h c. h c) (zip_with f l m) o) ≡ map r o
  unfolding zip_with
  zip_third r q [] m [] e d = refl
  zip_third r q [] m (c ∷ o) e d = let w : ⊥ = omega arith in absurd w
  zip_third r q (a ∷ l) [] o e d = let w : ⊥ = omega arith in absurd w
  zip_third r q (a ∷ l) (b ∷ m) [] e d = let w : ⊥ = omega arith in absurd w
  zip_third r q (a ∷ l) (b ∷ m) (c ∷ o) e d = λ i. q a b c i ∷ zip_third r q l m o (omega arith) (omega arith) i

map_self : {A : Type 0} (l : List A) → map (λ (a : A). a) l ≡ l
map_self [] = refl
map_self (a ∷ l) = ap (λ r. a ∷ r) (map_self l)

-- ---- a store of raw bars

pub raw-length : (s : RawStore) (n : ℕ) → SizedRaw s n → length (raw_bars s) ≡ n
unfolding raw_bars
raw-length s n h =
    let e = zip_length bar_of s.times s.ids (h.times ∙ sym h.ids) in
    zip_length (λ f p. f p) (zip_with bar_of s.times s.ids) s.prices (e ∙ h.times ∙ sym h.prices) ∙ e ∙ h.times

pub raw_at : (s : RawStore) (at : ℕ) (z : Bar) → RoomRaw s (at + 1) → get_or (raw_bars s) at z ≡ bar_at s at
unfolding raw_bars bar_at
raw_at s at z h =
    let e : at < length (zip_with bar_of s.times s.ids) = zip_longer bar_of s.times s.ids at (omega (arith, h.times)) (omega (arith, h.ids)) in
    zip-at (λ f p. f p) at (zip_with bar_of s.times s.ids) s.prices (bar_of (pos 0) (pos 0)) [] z e (omega (arith, h.prices))
    ∙ ap (λ (f : List Float → Bar). f (get_or s.prices at []))
    (zip-at bar_of at s.times s.ids (pos 0) (pos 0) (bar_of (pos 0) (pos 0)) (omega (arith, h.times)) (omega (arith, h.ids)))

pub raw_longer : (s : RawStore) (at : ℕ) → RoomRaw s (at + 1) → at < length (raw_bars s)
unfolding raw_bars
raw_longer s at h =
    let e : at < length (zip_with bar_of s.times s.ids) = zip_longer bar_of s.times s.ids at (omega (arith, h.times)) (omega (arith, h.ids)) in
    zip_longer (λ f p. f p) (zip_with bar_of s.times s.ids) s.prices at e (omega (arith, h.prices))

pub raw-set : (s : RawStore) (at : ℕ) (b : Bar) → raw_bars (set_bar s at b) ≡ set (raw_bars s) at b
unfolding raw_bars set_bar bar_of row_of
raw-set s at b =
    ap (λ (l : List (List Float → Bar)). zip_with (λ f p. f p) l (set s.prices at (row_of b))) (zip-set bar_of at s.times s.ids b.time b.id)
    ∙ zip-set (λ f p. f p) at (zip_with bar_of s.times s.ids) s.prices (bar_of b.time b.id) (row_of b)

pub raw-copied : (d s : RawStore) (at from n k m : ℕ) → SizedRaw d k → SizedRaw s m → raw_bars (copied_raw d at s from n) ≡ copied (raw_bars d) at (raw_bars s) from n
unfolding raw_bars copied_raw
raw-copied d s at from n k m h g =
    let p = h.times ∙ sym h.ids in
    let q = g.times ∙ sym g.ids in
    ap (λ (l : List (List Float → Bar)). zip_with (λ f p. f p) l (copied d.prices at s.prices from n))
    (zip-copied bar_of d.times s.times d.ids s.ids at from n p q)
    ∙ zip-copied (λ f p. f p) (zip_with bar_of d.times d.ids) (zip_with bar_of s.times s.ids) d.prices s.prices at from n
    (zip_length bar_of d.times d.ids p ∙ h.times ∙ sym h.prices)
    (zip_length bar_of s.times s.ids q ∙ g.times ∙ sym g.prices)

pub sized_set : (s : RawStore) (at n : ℕ) (b : Bar) → SizedRaw s n → SizedRaw (set_bar s at b) n
unfolding set_bar
sized_set s at n b h =
    record {
      times = length-set s.times at b.time ∙ h.times;
      ids = length-set s.ids at b.id ∙ h.ids;
      prices = length-set s.prices at (row_of b) ∙ h.prices;
    }

pub sized-copied : (d s : RawStore) (at from n k m : ℕ) → SizedRaw d k → SizedRaw s m → at + n ≤ k → from + n ≤ m → SizedRaw (copied_raw d at s from n) k
unfolding copied_raw
sized-copied d s at from n k m h g a b =
    record {
      times = length-copied d.times s.times at from n (rw h.times a) (rw g.times b) ∙ h.times;
      ids = length-copied d.ids s.ids at from n (rw h.ids a) (rw g.ids b) ∙ h.ids;
      prices = length-copied d.prices s.prices at from n (rw h.prices a) (rw g.prices b) ∙ h.prices;
    }

-- ---- a store of merged bars

-- from what stands in the columns of the raw part, in the counts and in the elements
pub put_together : {r r' : RawStore} {c c' : List ℕ} {e e' : List (List ℤ)} → r ≡ r' → c ≡ c' → e ≡ e'
    → merged_store r.times r.ids r.prices c e ≡ merged_store r'.times r'.ids r'.prices c' e'
put_together p q w = λ i. merged_store (p i).times (p i).ids (p i).prices (q i) (w i)

pub merged-length : (s : MergedStore) (n : ℕ) → SizedMerged s n → length (merged_bars s) ≡ n
unfolding merged_bars
merged-length s n h =
    let r = raw-length (raw_part s) n h.raw in
    let e = zip_length with_first (raw_bars (raw_part s)) s.counts (r ∙ sym h.counts) in
    zip_length (λ f l. f l) (zip_with with_first (raw_bars (raw_part s)) s.counts) s.elements (e ∙ r ∙ sym h.elements) ∙ e ∙ r

pub merged-at : (s : MergedStore) (at : ℕ) (z : Merged) → RoomMerged s (at + 1) → get_or (merged_bars s) at z ≡ merged_of (new_bar_at s at)
unfolding merged_bars new_bar_at merged_of with_first
merged-at s at z h =
    let k : at < length s.counts = omega (arith, h.counts) in
    let e : at < length s.elements = omega (arith, h.elements) in
    let r : at < length (raw_bars (raw_part s)) = raw_longer (raw_part s) at h.raw in
    let b = bar_at (raw_part s) at in
    zip-at (λ f l. f l) at (zip_with with_first (raw_bars (raw_part s)) s.counts) s.elements (with_first b 0) [] z
    (zip_longer with_first (raw_bars (raw_part s)) s.counts at r k)
    e
    ∙ ap (λ (f : List ℤ → Merged). f (get_or s.elements at [])) (zip-at with_first at (raw_bars (raw_part s)) s.counts b 0 (with_first b 0) r k)
    ∙ ap (λ (x : Bar). with_first x (get_or s.counts at 0) (get_or s.elements at [])) (raw_at (raw_part s) at b h.raw)

pub merged-set : (s : MergedStore) (at : ℕ) (k : NewBar) → merged_bars (set_new_bar s at k) ≡ set (merged_bars s) at (merged_of k)
unfolding merged_bars set_new_bar merged_of with_first
merged-set s at k =
    ap (λ (l : List Bar). zip_with (λ f l. f l) (zip_with with_first l (set s.counts at k.count)) (set s.elements at k.elements))
    (raw-set (raw_part s) at k.bar)
    ∙ ap (λ (l : List (List ℤ → Merged)). zip_with (λ f l. f l) l (set s.elements at k.elements))
    (zip-set with_first at (raw_bars (raw_part s)) s.counts k.bar k.count)
    ∙ zip-set (λ f l. f l) at (zip_with with_first (raw_bars (raw_part s)) s.counts) s.elements (with_first k.bar k.count) k.elements

pub sized-merged-set : (s : MergedStore) (at n : ℕ) (k : NewBar) → SizedMerged s n → SizedMerged (set_new_bar s at k) n
unfolding set_new_bar
sized-merged-set s at n k h =
    record {
      raw = sized_set (raw_part s) at n k.bar h.raw;
      counts = length-set s.counts at k.count ∙ h.counts;
      elements = length-set s.elements at k.elements ∙ h.elements;
    }

-- ---- the bars that are kept, after a bar was appended

pub raw_appended : (s : RawStore) (n k : ℕ) (b : Bar) → SizedRaw s k → n < k → take (n + 1) (raw_bars (set_bar s n b)) ≡ take n (raw_bars s) ++ b ∷ []
raw_appended s n k b h g = rw (raw-set, add-one) (take-suc-set (raw_bars s) n b (rw (raw-length s k h) g))

pub merged_appended : (s : MergedStore) (n k : ℕ) (b : NewBar) → SizedMerged s k → n < k → take (n + 1) (merged_bars (set_new_bar s n b)) ≡ take n (merged_bars s) ++ merged_of b ∷ []
merged_appended s n k b h g = rw (merged-set, add-one) (take-suc-set (merged_bars s) n (merged_of b) (rw (merged-length s k h) g))

-- ---- the columns, read off the bars

pub raw-times : (s : RawStore) (n : ℕ) → SizedRaw s n → map (λ b. b.time) (raw_bars s) ≡ s.times
unfolding raw_bars bar_of
raw-times s n h = zip_first bar_of (λ b. b.time) (λ t. t) (λ t i p. refl) s.times s.ids s.prices (h.times ∙ sym h.ids) (h.times ∙ sym h.prices) ∙ map_self s.times

-- whatever is read of a bar's prices alone is read of their rows
pub raw-prices : {X : Type 0} (g : Bar → X) (r : List Float → X) → ((t i : ℤ) (p : List Float) → g (bar_of t i p) ≡ r p) → (s : RawStore) (n : ℕ) → SizedRaw s n
    → map g (raw_bars s) ≡ map r s.prices
unfolding raw_bars
raw-prices g r q s n h = zip_third bar_of g r q s.times s.ids s.prices (h.times ∙ sym h.ids) (h.times ∙ sym h.prices)

pub merged-bars : (s : MergedStore) (n : ℕ) → SizedMerged s n → map (λ k. k.bar) (merged_bars s) ≡ raw_bars (raw_part s)
unfolding merged_bars with_first
merged-bars s n h =
    let r = raw-length (raw_part s) n h.raw in
    zip_first with_first (λ k. k.bar) (λ b. b) (λ b n e. refl) (raw_bars (raw_part s)) s.counts s.elements (r ∙ sym h.counts) (r ∙ sym h.elements) ∙ map_self (raw_bars (raw_part s))
