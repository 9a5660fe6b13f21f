-- Reading, writing, copying and searching rows of the stores. Definitions only.
use Rattle.std.specs.Prelude.{ℕ, suc, ◌-◌, ◌≤◌, Bool, true, false, ◌&&◌, List, [], ◌∷◌, ◌≡◌, length, take, get_or, set, ℤ, pos}
use Rattle.std.specs.Int.Signed.{lt_z}
use Rattle.bars.specs.declared.Bar.{Bar}
use Rattle.bars.specs.declared.NewBar.{NewBar}
use Rattle.bars.specs.Bars.{Merged, merged_of, row_of}
use Rattle.bars.specs.Lists.{copied}
use Rattle.stores.specs.Stores.{RawStore, raw_store, MergedStore, merged_store, raw_part, zip_with, bar_of}

-- every column has n places
pub record SizedRaw (s : RawStore) (n : ℕ) : Type 0 where
  pub times : length s.times ≡ n
  pub ids : length s.ids ≡ n
  pub prices : length s.prices ≡ n

pub record SizedMerged (s : MergedStore) (n : ℕ) : Type 0 where
  pub raw : SizedRaw (raw_part s) n
  pub counts : length s.counts ≡ n
  pub elements : length s.elements ≡ n

-- every column has at least n places
pub record RoomRaw (s : RawStore) (n : ℕ) : Type 0 where
  pub times : n ≤ length s.times
  pub ids : n ≤ length s.ids
  pub prices : n ≤ length s.prices

pub record RoomMerged (s : MergedStore) (n : ℕ) : Type 0 where
  pub raw : RoomRaw (raw_part s) n
  pub counts : n ≤ length s.counts
  pub elements : n ≤ length s.elements

-- of each row of elements, its first `count`
unfoldable pub in_use : List ℕ → List (List ℤ) → List (List ℤ)
unfolding zip_with
in_use cs es = zip_with take cs es

-- the bar at a place
unfoldable pub bar_at : RawStore → ℕ → Bar
unfolding bar_of
bar_at s at = bar_of (get_or s.times at (pos 0)) (get_or s.ids at (pos 0)) (get_or s.prices at [])

unfoldable pub new_bar_at : MergedStore → ℕ → NewBar
unfolding bar_at
new_bar_at s at = record { bar = bar_at (raw_part s) at; count = get_or s.counts at 0; elements = get_or s.elements at [] }

-- the store with this bar at a place
unfoldable pub set_bar : RawStore → ℕ → Bar → RawStore
unfolding row_of
set_bar s at b = raw_store (set s.times at b.time) (set s.ids at b.id) (set s.prices at (row_of b))

unfoldable pub set_new_bar : MergedStore → ℕ → NewBar → MergedStore
unfolding set_bar
set_new_bar s at k =
    let r = set_bar (raw_part s) at k.bar in
    merged_store r.times r.ids r.prices (set s.counts at k.count) (set s.elements at k.elements)

-- `copied` in every column
unfoldable pub copied_raw : RawStore → ℕ → RawStore → ℕ → ℕ → RawStore
unfolding copied
copied_raw d at s from n =
    raw_store (copied d.times at s.times from n) (copied d.ids at s.ids from n) (copied d.prices at s.prices from n)

-- cs' and es' are the columns cs of counts and es of elements with their n rows from place `at` on replaced by the n rows of the columns ds and fs from place `from`
-- on, of the elements what is in use. The places of a row beyond its count are free (document 01): nothing is said of them.
pub record RowsCopied (cs : List ℕ) (es : List (List ℤ)) (at : ℕ) (ds : List ℕ) (fs : List (List ℤ)) (from n : ℕ) (cs' : List ℕ) (es' : List (List ℤ)) : Type 0 where
  pub counts : cs' ≡ copied cs at ds from n
  pub elements : in_use cs' es' ≡ copied (in_use cs es) at (in_use ds fs) from n
  pub places : length es' ≡ length es

-- of n rows that are moved within a column, which is the k-th: counted from the first row where they go down, from the last where they go up
unfoldable pub row_in_turn : Bool → ℕ → ℕ → ℕ
row_in_turn true n k = k
row_in_turn false n k = n - 1 - k

-- w is the store d with its n bars from place `at` on replaced by the n bars of the store s from place `from` on, of the elements what is in use
pub record CopiedInUse (d : MergedStore) (at : ℕ) (s : MergedStore) (from n : ℕ) (w : MergedStore) : Type 0 where
  pub raw : raw_part w ≡ copied_raw (raw_part d) at (raw_part s) from n
  pub rows : RowsCopied d.counts d.elements at s.counts s.elements from n w.counts w.elements

-- ds and fs are the columns cs of counts and es of elements with another row at a place, of which the times l are in use, at most 101. Of the row's other
-- places nothing is said.
pub record RowWritten (cs : List ℕ) (es : List (List ℤ)) (at : ℕ) (l : List ℤ) (ds : List ℕ) (fs : List (List ℤ)) : Type 0 where
  pub count : ℕ
  pub row : List ℤ
  pub counts : ds ≡ set cs at count
  pub elements : fs ≡ set es at row
  pub reads : take count row ≡ l
  pub few : count ≤ 101

-- w is the store m with a bar at a place that reads as k, and has at most 101 elements
pub record BarWritten (m : MergedStore) (at : ℕ) (k : Merged) (w : MergedStore) : Type 0 where
  pub bar : NewBar
  pub store : w ≡ set_new_bar m at bar
  pub reads : merged_of bar ≡ k
  pub few : bar.count ≤ 101

-- times rise strictly
unfoldable pub rising : List ℤ → Bool
rising [] = true
rising (a ∷ []) = true
rising (a ∷ b ∷ l) = lt_z a b && rising (b ∷ l)

unfoldable pub next_if : Bool → ℕ → ℕ
next_if true i = suc i
next_if false i = 0

-- the first place whose time is not before t, the length where there is none
unfoldable pub place_of : ℤ → List ℤ → ℕ
unfolding next_if
place_of t [] = 0
place_of t (a ∷ l) = next_if (lt_z a t) (place_of t l)
