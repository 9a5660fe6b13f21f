-- Merging without elements: what the times, prices and volumes of merged bars are, for asking what a bar would do before anything is written. Definitions only.
use Rattle.std.specs.Prelude.{Bool, true, false, cond, List, [], ◌∷◌, ◌++◌, take, ℤ, Float}
use Rattle.std.specs.Prelude as Std
use Rattle.std.specs.Float.{binary64}
use Rattle.std.specs.Float.Ieee.{lt, add}
use Rattle.arith.specs.Order.{max_of, min_of}
use Rattle.bars.specs.declared.Bar.{Bar}
use Rattle.bars.specs.Bars.{Merged}
use Rattle.bars.specs.Lists.{fold_left}
use Rattle.bars.specs.Merging.{contains, settle}

-- k2 and k3 as one bar of this time, high and low
unfoldable pub united_bar : Bar → Bar → ℤ → Float → Float → Bar
unfolding lt add
united_bar k2 k3 t h l =
    record {
      time = t;
      id = k2.id;
      «open» = cond (lt k3.close k3.«open») h l;
      close = cond (lt k3.close k3.«open») l h;
      high = h;
      low = l;
      vol = add binary64 k2.vol k3.vol;
      amount = add binary64 k2.amount k3.amount;
    }

-- up: the larger high and low, and k2's time only if k2.high > k3.high
unfoldable pub merged_up_bar : Bar → Bar → Bar
unfolding united_bar max_of lt
merged_up_bar k2 k3 = united_bar k2 k3 (cond (lt k3.high k2.high) k2.time k3.time) (max_of k2.high k3.high) (max_of k2.low k3.low)

-- down: the smaller ones, and k2's time only if k2.low < k3.low
unfoldable pub merged_down_bar : Bar → Bar → Bar
unfolding united_bar min_of lt
merged_down_bar k2 k3 = united_bar k2 k3 (cond (lt k2.low k3.low) k2.time k3.time) (min_of k2.high k3.high) (min_of k2.low k3.low)

-- what stands in place of k2: by whether k1's high is below k2's, whether it is above, and whether k2 and k3 contain one another
unfoldable pub settle_bar : Bool → Bool → Bool → Bar → Bar → List Bar
unfolding merged_up_bar merged_down_bar
settle_bar true d true k2 k3 = merged_up_bar k2 k3 ∷ []
settle_bar false true true k2 k3 = merged_down_bar k2 k3 ∷ []
settle_bar false false true k2 k3 = k2 ∷ k3 ∷ []
settle_bar u d false k2 k3 = k2 ∷ k3 ∷ []

-- remove_include, of k1's high, k2 and k3: what stands in place of k2
unfoldable pub remove_include_bar : Float → Bar → Bar → List Bar
unfolding settle_bar lt contains
remove_include_bar h k2 k3 = settle_bar (lt h k2.high) (lt k2.high h) (contains k2 k3) k2 k3

-- a bar put behind the unfinished bars
unfoldable pub merge_bars : List Bar → Bar → List Bar
unfolding remove_include_bar
merge_bars [] b = b ∷ []
merge_bars (k1 ∷ []) b = k1 ∷ b ∷ []
merge_bars (k1 ∷ k2 ∷ []) b = k1 ∷ remove_include_bar k1.high k2 b
merge_bars (k1 ∷ k2 ∷ k3 ∷ l) b = k1 ∷ merge_bars (k2 ∷ k3 ∷ l) b

-- a run of bars, one after the other
unfoldable pub merge_bars_all : List Bar → List Bar → List Bar
unfolding fold_left merge_bars
merge_bars_all l bs = fold_left merge_bars l bs

-- the bar that stands before a run of bars, where there is one
unfoldable pub behind : Bool → Bar → List Bar
behind true k = k ∷ []
behind false k = []

-- ---- remove_include's answer

-- the bar b with k2's first 100 elements and then the one of time t
unfoldable pub with_element : Bar → Merged → ℤ → Merged
with_element b k2 t = record { bar = b; elements = take 100 k2.elements ++ t ∷ [] }

-- remove_include of k1's high alone, with elements: what stands in place of k2
unfoldable pub remove_include_after : Float → Merged → Bar → List Merged
unfolding settle lt contains
remove_include_after h k2 k3 = settle (lt h k2.bar.high) (lt k2.bar.high h) (contains k2.bar k3) k2 k3

-- the answer of remove_include, read as what stands in place of k2: the merged bar where there is one, and else k2 and k3
unfoldable pub in_place_of : {A : Type 0} → A → Std.Option A → A → List A
in_place_of k2 (Std.Some k) k3 = k ∷ []
in_place_of k2 Std.None k3 = k2 ∷ k3 ∷ []
