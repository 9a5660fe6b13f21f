-- Instances of the stores' definitions, computed.
use Rattle.std.specs.Prelude.{ℕ, true, false, List, [], ◌∷◌, ◌≡◌, refl, pos, negsuc, Float}
use Rattle.std.specs.Float.{fin}
use Rattle.bars.specs.Bars.{own, row_of}
use Rattle.bars.specs.Lists.{copied}
use Rattle.stores.specs.Stores.{raw_store, merged_store, zip_with, bar_of, with_first, raw_bars, merged_bars}
use Rattle.stores.specs.Code.StoreRows.{in_use, bar_at, set_bar, rising, next_if, place_of}

numbers : List ℕ
numbers = 10 ∷ 11 ∷ 12 ∷ 13 ∷ 14 ∷ []

-- 21 and 22 from another list into places 2 and 3; three rows to the beginning; two rows up, where they overlap
into : copied numbers 2 (20 ∷ 21 ∷ 22 ∷ 23 ∷ []) 1 2 ≡ 10 ∷ 11 ∷ 21 ∷ 22 ∷ 14 ∷ []
unfolding copied numbers
into = refl

to_beginning : copied numbers 0 numbers 2 3 ≡ 12 ∷ 13 ∷ 14 ∷ 13 ∷ 14 ∷ []
unfolding copied numbers
to_beginning = refl

upwards : copied numbers 2 numbers 1 2 ≡ 10 ∷ 11 ∷ 11 ∷ 12 ∷ 14 ∷ []
unfolding copied numbers
upwards = refl

whole : ℕ → Float
whole n = fin false n (pos 0)

prices : List Float
prices = whole 1 ∷ whole 2 ∷ whole 4 ∷ whole 0 ∷ whole 7 ∷ whole 8 ∷ []

-- what stands in the row is what the bar has, each in its field
fields : bar_at (raw_store (negsuc 4 ∷ pos 3 ∷ []) (pos 0 ∷ pos 1 ∷ []) ([] ∷ prices ∷ [])) 1
    ≡ record { time = pos 3; id = pos 1; «open» = whole 1; close = whole 2; high = whole 4; low = whole 0; vol = whole 7; amount = whole 8 }
unfolding bar_at bar_of prices
fields = refl

-- a bar that is written reads as it was
written : raw_bars (set_bar (raw_store (pos 9 ∷ []) (pos 9 ∷ []) ([] ∷ [])) 0 (bar_of (pos 3) (pos 1) prices)) ≡ bar_of (pos 3) (pos 1) prices ∷ []
unfolding raw_bars zip_with set_bar row_of bar_of prices
written = refl

-- one element is in use; what lies beyond the count is not part of the merged bar
in_use_lem : merged_bars (merged_store (pos 3 ∷ []) (pos 1 ∷ []) (prices ∷ []) (1 ∷ []) ((pos 3 ∷ pos 5 ∷ []) ∷ [])) ≡ own (bar_of (pos 3) (pos 1) prices) ∷ []
unfolding merged_bars raw_bars zip_with with_first own bar_of
in_use_lem = refl

-- a count above the number of places reads them all
rows_in_use : in_use (1 ∷ 0 ∷ 9 ∷ []) ((pos 3 ∷ pos 5 ∷ []) ∷ (pos 6 ∷ []) ∷ (pos 7 ∷ pos 8 ∷ []) ∷ []) ≡ (pos 3 ∷ []) ∷ [] ∷ (pos 7 ∷ pos 8 ∷ []) ∷ []
unfolding in_use zip_with
rows_in_use = refl

rises : rising (negsuc 4 ∷ pos 3 ∷ pos 4 ∷ []) ≡ true
unfolding rising
rises = refl

stays : rising (negsuc 4 ∷ pos 3 ∷ pos 3 ∷ []) ≡ false
unfolding rising
stays = refl

-- a time that is there, one between, one behind all
there : place_of (pos 3) (negsuc 4 ∷ pos 3 ∷ pos 7 ∷ []) ≡ 1
unfolding place_of next_if
there = refl

between : place_of (pos 4) (negsuc 4 ∷ pos 3 ∷ pos 7 ∷ []) ≡ 2
unfolding place_of next_if
between = refl

behind : place_of (pos 8) (negsuc 4 ∷ pos 3 ∷ pos 7 ∷ []) ≡ 3
unfolding place_of next_if
behind = refl
