-- Document 01's merging: remove_include, a bar put behind the unfinished bars, and the bar that replaces the last one. Definitions only.
use Rattle.std.specs.Prelude.{Bool, true, false, ◌&&◌, ◌||◌, cond, List, [], ◌∷◌, ◌++◌, take, ℤ, Float}
use Rattle.std.proofs.Math.Option.{Option, none, some}
use Rattle.std.specs.Int.Signed.{le_z}
use Rattle.std.specs.Float.{binary64}
use Rattle.std.specs.Float.Ieee.{lt, le, add}
use Rattle.arith.specs.Order.{max_of, min_of}
use Rattle.bars.specs.declared.Bar.{Bar}
use Rattle.bars.specs.Bars.{Merged, own}
use Rattle.bars.specs.Lists.{keep_if, fold_left, init}

-- one's range contains the other's, equal edges counted
unfoldable pub contains : Bar → Bar → Bool
unfolding le
contains a b = (le a.high b.high && le b.low a.low) || (le b.high a.high && le a.low b.low)

-- k2 and k3 as one bar of this time, high and low: open and close by k3's, id k2's, vol and amount added, elements k2's first 100 and then k3
unfoldable pub united : Merged → Bar → ℤ → Float → Float → Merged
unfolding lt add
united k2 k3 t h l =
    record {
      bar =
          record {
            time = t;
            id = k2.bar.id;
            «open» = cond (lt k3.close k3.«open») h l;
            close = cond (lt k3.close k3.«open») l h;
            high = h;
            low = l;
            vol = add binary64 k2.bar.vol k3.vol;
            amount = add binary64 k2.bar.amount k3.amount;
          };
      elements = take 100 k2.elements ++ k3.time ∷ [];
    }

-- up: the larger high and low, and k2's time only if k2.high > k3.high
unfoldable pub merged_up : Merged → Bar → Merged
unfolding united max_of lt
merged_up k2 k3 =
    united k2 k3 (cond (lt k3.high k2.bar.high) k2.bar.time k3.time) (max_of k2.bar.high k3.high) (max_of k2.bar.low k3.low)

-- down: the smaller ones, and k2's time only if k2.low < k3.low
unfoldable pub merged_down : Merged → Bar → Merged
unfolding united min_of lt
merged_down k2 k3 =
    united k2 k3 (cond (lt k2.bar.low k3.low) k2.bar.time k3.time) (min_of k2.bar.high k3.high) (min_of k2.bar.low k3.low)

-- what stands in place of k2 once k3 has come: by whether k1's high is below k2's, whether it is above, and whether k2 and k3 contain one another
unfoldable pub settle : Bool → Bool → Bool → Merged → Bar → List Merged
unfolding own merged_up merged_down
settle true d true k2 k3 = merged_up k2 k3 ∷ []
settle false true true k2 k3 = merged_down k2 k3 ∷ []
settle false false true k2 k3 = k2 ∷ own k3 ∷ []
settle u d false k2 k3 = k2 ∷ own k3 ∷ []

-- remove_include: what stands after k1 in place of k2
unfoldable pub remove_include : Merged → Merged → Bar → List Merged
unfolding settle lt contains
remove_include k1 k2 k3 = settle (lt k1.bar.high k2.bar.high) (lt k2.bar.high k1.bar.high) (contains k2.bar k3) k2 k3

-- the unfinished bars once b has come: with fewer than two, b is put on as it is
unfoldable pub merge_in : List Merged → Bar → List Merged
unfolding own remove_include
merge_in [] b = own b ∷ []
merge_in (k1 ∷ []) b = k1 ∷ own b ∷ []
merge_in (k1 ∷ k2 ∷ []) b = k1 ∷ remove_include k1 k2 b
merge_in (k1 ∷ k2 ∷ k3 ∷ l) b = k1 ∷ merge_in (k2 ∷ k3 ∷ l) b

-- a run of bars, merged one after the other
unfoldable pub merge_all : List Merged → List Bar → List Merged
unfolding fold_left merge_in
merge_all l bs = fold_left merge_in l bs

-- ---- a bar with the last time

-- the raw bars that these times name
unfoldable pub at_times : List Bar → List ℤ → List Bar
unfolding keep_if
at_times raw [] = []
at_times raw (t ∷ ts) = keep_if (λ b. le_z b.time t && le_z t b.time) raw ++ at_times raw ts

-- the elements of the last unfinished bar, the last of them replaced by b: they go through merging again
unfoldable pub again : List Bar → Option Merged → Bar → List Bar
unfolding at_times init
again raw none b = b ∷ []
again raw (some k) b = at_times raw (init k.elements) ++ b ∷ []
