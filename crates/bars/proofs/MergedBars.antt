-- What a merged bar promises: which bar each of its time, high and low comes from, and on which side of k2 it lies. Assumes nothing.
use mathlib.Core.Path.{◌≡◌, refl}
use mathlib.Core.Logic.{◌⊎◌, inl, inr}
use mathlib.Core.Bool.{Bool, true, false, ◌&&◌, cond}
use mathlib.Core.List.{List, [], ◌∷◌}
use lib.IntN.{ℤ}
use lib.Dec.{T}
use lib.Signed.{le_z}
use lib.Ieee.{Float, lt, le}
use lib.Ieee.Fits.{and_i, and_l, and_r}
use Rattle.arith.specs.Order.{max_of, min_of}
use Rattle.arith.proofs.FloatOrder.{Number, lt_asym, le_refl}
use Rattle.arith.proofs.MaxMin.{max-is, min-is, le_max_left, min_le_left, max-most, min-most}
use Rattle.bars.specs.declared.Bar.{Bar}
use Rattle.bars.specs.Bars.{Merged, own}
use Rattle.bars.specs.Lists.{All}
use Rattle.bars.specs.Questions.{first_time, last_time, is_price, question5, question6, question8}
use Rattle.bars.specs.Merging.{contains, united, merged_up, merged_down, settle, remove_include}

-- what holds of the first of a list that is not empty
abbrev pub First : {A : Type 0} → (A → Type 0) → List A → Type 0
First P [] = ⊥
First P (a ∷ l) = P a

-- ---- where time, high and low come from

-- each is k2's or k3's own
pub record From (k2 k3 k : Bar) : Type 0 where
  pub time : (k.time ≡ k2.time) ⊎ (k.time ≡ k3.time)
  pub high : (k.high ≡ k2.high) ⊎ (k.high ≡ k3.high)
  pub low : (k.low ≡ k2.low) ⊎ (k.low ≡ k3.low)

picked : {A : Type 0} (t : Bool) (x y : A) → (cond t x y ≡ x) ⊎ (cond t x y ≡ y)
picked true x y = inl refl
picked false x y = inr refl

from_second : (k2 k3 : Bar) → From k2 k3 k2
from_second k2 k3 = record { time = inl refl; high = inl refl; low = inl refl }

from_third : (k2 k3 : Bar) → From k2 k3 k3
from_third k2 k3 = record { time = inr refl; high = inr refl; low = inr refl }

larger-from : (x y : Float) → (max_of x y ≡ x) ⊎ (max_of x y ≡ y)
larger-from x y = max-is (λ w. (w ≡ x) ⊎ (w ≡ y)) x y (inl refl) (inr refl)

smaller-from : (x y : Float) → (min_of x y ≡ x) ⊎ (min_of x y ≡ y)
smaller-from x y = min-is (λ w. (w ≡ x) ⊎ (w ≡ y)) x y (inl refl) (inr refl)

up_from : (k2 : Merged) (k3 : Bar) → From k2.bar k3 (merged_up k2 k3).bar
unfolding merged_up united
up_from k2 k3 =
    record {
      time = picked (lt k3.high k2.bar.high) k2.bar.time k3.time;
      high = larger-from k2.bar.high k3.high;
      low = larger-from k2.bar.low k3.low;
    }

down-from : (k2 : Merged) (k3 : Bar) → From k2.bar k3 (merged_down k2 k3).bar
unfolding merged_down united
down-from k2 k3 =
    record {
      time = picked (lt k2.bar.low k3.low) k2.bar.time k3.time;
      high = smaller-from k2.bar.high k3.high;
      low = smaller-from k2.bar.low k3.low;
    }

settle-from : (u d i : Bool) (k2 : Merged) (k3 : Bar) → All (λ k. From k2.bar k3 k.bar) (settle u d i k2 k3)
unfolding settle own
settle-from true d true k2 k3 = (up_from k2 k3, tt)
settle-from false true true k2 k3 = (down-from k2 k3, tt)
settle-from false false true k2 k3 = (from_second k2.bar k3, (from_third k2.bar k3, tt))
settle-from true d false k2 k3 = (from_second k2.bar k3, (from_third k2.bar k3, tt))
settle-from false true false k2 k3 = (from_second k2.bar k3, (from_third k2.bar k3, tt))
settle-from false false false k2 k3 = (from_second k2.bar k3, (from_third k2.bar k3, tt))

-- of each bar that stands in k2's place
pub include_from : (k1 k2 : Merged) (k3 : Bar) → All (λ k. From k2.bar k3 k.bar) (remove_include k1 k2 k3)
unfolding remove_include
include_from k1 k2 k3 = settle-from (lt k1.bar.high k2.bar.high) (lt k2.bar.high k1.bar.high) (contains k2.bar k3) k2 k3

-- ---- on which side of k2

-- high and low are not above k2's, or not below
pub record NotAbove (k2 k : Bar) : Type 0 where
  pub high : T (le k.high k2.high)
  pub low : T (le k.low k2.low)

pub record NotBelow (k2 k : Bar) : Type 0 where
  pub high : T (le k2.high k.high)
  pub low : T (le k2.low k.low)

module _ (k2 : Merged) (k3 : Bar) (hn : Number k2.bar.high) (ln : Number k2.bar.low) where
  lowered : (u d i : Bool) → (T u → ⊥) → First (λ k. NotAbove k2.bar k.bar) (settle u d i k2 k3)
  unfolding settle merged_down united
  lowered true d i h = absurd (h tt)
  lowered false true true h = record { high = min_le_left k2.bar.high k3.high hn; low = min_le_left k2.bar.low k3.low ln }
  lowered false false true h = record { high = le_refl k2.bar.high hn; low = le_refl k2.bar.low ln }
  lowered false true false h = record { high = le_refl k2.bar.high hn; low = le_refl k2.bar.low ln }
  lowered false false false h = record { high = le_refl k2.bar.high hn; low = le_refl k2.bar.low ln }

  raised : (u d i : Bool) → T u → First (λ k. NotBelow k2.bar k.bar) (settle u d i k2 k3)
  unfolding settle merged_up united
  raised true d true h = record { high = le_max_left k2.bar.high k3.high hn; low = le_max_left k2.bar.low k3.low ln }
  raised true d false h = record { high = le_refl k2.bar.high hn; low = le_refl k2.bar.low ln }
  raised false d i h = absurd h

  -- behind a higher bar, as a top is, merging lowers: the bar in k2's place has no higher high and low than k2
  pub lowers : (k1 : Merged) → T (lt k2.bar.high k1.bar.high) → First (λ k. NotAbove k2.bar k.bar) (remove_include k1 k2 k3)
  unfolding remove_include
  lowers k1 h =
      lowered (lt k1.bar.high k2.bar.high) (lt k2.bar.high k1.bar.high) (contains k2.bar k3)
      (λ t. lt_asym k1.bar.high k2.bar.high t h)

  -- behind a lower bar, as a bottom is, merging raises
  pub raises : (k1 : Merged) → T (lt k1.bar.high k2.bar.high) → First (λ k. NotBelow k2.bar k.bar) (remove_include k1 k2 k3)
  unfolding remove_include
  raises k1 h = raised (lt k1.bar.high k2.bar.high) (lt k2.bar.high k1.bar.high) (contains k2.bar k3) h

-- ---- what merged bars keep of the questions

-- time from -2^40 to 2^40, all four prices from 2^-20 to 2^30, low at most high: questions 5, 6 and 8
pub record Kept (k : Bar) : Type 0 where
  pub time : T (question5 k)
  pub prices : T (question6 k)
  pub range : T (question8 k)

picked_has : {A : Type 0} (P : A → Type 0) (t : Bool) (x y : A) → P x → P y → P (cond t x y)
picked_has P true x y p q = p
picked_has P false x y p q = q

-- the four prices of a united bar are its high and its low
united-kept : (k2 : Merged) (k3 : Bar) (t : ℤ) (h l : Float) → T (le_z first_time t && le_z t last_time) → T (is_price h) → T (is_price l) → T (le l h)
    → Kept (united k2 k3 t h l).bar
unfolding united question5 question6 question8
united-kept k2 k3 t h l p q r s =
    record {
      time = p;
      prices =
          let o = picked_has (λ x. T (is_price x)) (lt k3.close k3.«open») h l q r in
          let c = picked_has (λ x. T (is_price x)) (lt k3.close k3.«open») l h r q in
          search and_i;
      range = s;
    }

high-price : (b : Bar) → T (question6 b) → T (is_price b.high)
unfolding question6
high-price b h = search (and_l, and_r)

low-price : (b : Bar) → T (question6 b) → T (is_price b.low)
unfolding question6
low-price b h = search (and_l, and_r)

module _ (k2 : Merged) (k3 : Bar) (p : Kept k2.bar) (q : Kept k3) where
  up_kept : Kept (merged_up k2 k3).bar
  unfolding merged_up question5 question8
  up_kept =
      united-kept k2 k3 (cond (lt k3.high k2.bar.high) k2.bar.time k3.time) (max_of k2.bar.high k3.high) (max_of k2.bar.low k3.low)
      (picked_has (λ t. T (le_z first_time t && le_z t last_time)) (lt k3.high k2.bar.high) k2.bar.time k3.time p.time q.time)
      (max-is (λ x. T (is_price x)) k2.bar.high k3.high (high-price k2.bar p.prices) (high-price k3 q.prices))
      (max-is (λ x. T (is_price x)) k2.bar.low k3.low (low-price k2.bar p.prices) (low-price k3 q.prices))
      (max-most k2.bar.low k3.low k2.bar.high k3.high p.range q.range)

  down-kept : Kept (merged_down k2 k3).bar
  unfolding merged_down question5 question8
  down-kept =
      united-kept k2 k3 (cond (lt k2.bar.low k3.low) k2.bar.time k3.time) (min_of k2.bar.high k3.high) (min_of k2.bar.low k3.low)
      (picked_has (λ t. T (le_z first_time t && le_z t last_time)) (lt k2.bar.low k3.low) k2.bar.time k3.time p.time q.time)
      (min-is (λ x. T (is_price x)) k2.bar.high k3.high (high-price k2.bar p.prices) (high-price k3 q.prices))
      (min-is (λ x. T (is_price x)) k2.bar.low k3.low (low-price k2.bar p.prices) (low-price k3 q.prices))
      (min-most k2.bar.low k3.low k2.bar.high k3.high p.range q.range)

  settle-kept : (u d i : Bool) → All (λ k. Kept k.bar) (settle u d i k2 k3)
  unfolding settle own
  settle-kept true d true = (up_kept, tt)
  settle-kept false true true = (down-kept, tt)
  settle-kept false false true = (p, (q, tt))
  settle-kept true d false = (p, (q, tt))
  settle-kept false true false = (p, (q, tt))
  settle-kept false false false = (p, (q, tt))

  -- each bar that stands in k2's place passes them where k2 and k3 do
  pub include_kept : (k1 : Merged) → All (λ k. Kept k.bar) (remove_include k1 k2 k3)
  unfolding remove_include
  include_kept k1 = settle-kept (lt k1.bar.high k2.bar.high) (lt k2.bar.high k1.bar.high) (contains k2.bar k3)
