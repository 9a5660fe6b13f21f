-- The lent stores of raw bars and of merged bars, column by column, and the bars that they hold. A place is a row: what stands at it in every column.
-- Definitions only.
use Rattle.std.specs.Prelude.{ℕ, List, [], ◌∷◌, take, ℤ, Float}
use Rattle.bars.specs.declared.Bar.{Bar}
use Rattle.bars.specs.Bars.{Merged, bar_with}

-- ---- the columns

-- a store of raw bars. A row of prices is open, close, high, low, vol, amount.
pub record RawStore : Type 0 where
  pub times : List ℤ
  pub ids : List ℤ
  pub prices : List (List Float)

abbrev pub raw_store : List ℤ → List ℤ → List (List Float) → RawStore
raw_store ts is ps = record { times = ts; ids = is; prices = ps }

-- a store of merged bars: those columns, the number of elements, and the elements' times, of which the first `count` of a row are in use
pub record MergedStore : Type 0 where
  pub times : List ℤ
  pub ids : List ℤ
  pub prices : List (List Float)
  pub counts : List ℕ
  pub elements : List (List ℤ)

abbrev pub merged_store : List ℤ → List ℤ → List (List Float) → List ℕ → List (List ℤ) → MergedStore
merged_store ts is ps cs es = record { times = ts; ids = is; prices = ps; counts = cs; elements = es }

-- the columns that it shares with a store of raw bars
abbrev pub raw_part : MergedStore → RawStore
raw_part s = raw_store s.times s.ids s.prices

-- ---- the bars

-- f of the two rows at each place of two columns
unfoldable pub zip_with : {A B C : Type 0} → (A → B → C) → List A → List B → List C
zip_with f [] m = []
zip_with f (a ∷ l) [] = []
zip_with f (a ∷ l) (b ∷ m) = f a b ∷ zip_with f l m

-- the bar of this time and id that has this row of prices
unfoldable pub bar_of : ℤ → ℤ → List Float → Bar
bar_of t i p = bar_with t i p

-- the merged bar with the first n elements of a row
unfoldable pub with_first : Bar → ℕ → List ℤ → Merged
with_first b n e = record { bar = b; elements = take n e }

-- the bars at all places, from place 0 on
unfoldable pub raw_bars : RawStore → List Bar
unfolding zip_with bar_of
raw_bars s = zip_with (λ f p. f p) (zip_with bar_of s.times s.ids) s.prices

unfoldable pub merged_bars : MergedStore → List Merged
unfolding zip_with with_first raw_bars
merged_bars s = zip_with (λ f e. f e) (zip_with with_first (raw_bars (raw_part s)) s.counts) s.elements
