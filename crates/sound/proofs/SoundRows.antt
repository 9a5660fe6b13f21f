-- What the tests of a row of prices cite: fewer tests that say the same. Assumes nothing.
use Prim.Native.Nat.{ℕ, ◌+◌, ◌<◌}
use native.Mathlib.Omega.{arith}
use native.Mathlib.Nat.{add-zero}
use mathlib.Core.Path.{◌≡◌, refl, subst, ◌∙◌}
use mathlib.Core.Bool.{Bool, true, false, ◌&&◌}
use mathlib.Core.List.{List, [], ◌∷◌}
use mathlib.Core.Logic.{inl, inr}
use lib.ListN.{take, drop, get_or}
use lib.Seq.{get_or-take, get_or-drop}
use lib.Dec.{T}
use lib.Ieee.{Float, nan, lt, le, neg}
use lib.Ieee.Fits.{and_l, and_r}
use Rattle.arith.proofs.FloatOrder.{Number, decide, lt-left, lt-le, le_left, le_right, le_trans, not-lt-le}
use Rattle.bars.specs.Questions.{least_price, most_price, in_price_range, is_price, from_zero, is_volume, question6, question7, question8}
use Rattle.bars.proofs.Prices.{price_above, price-below}
use Rattle.stores.specs.Stores.{bar_of}
use Rattle.sound.specs.Code.SoundStand.{smaller_of, larger_of, size_of, above_zero, of_any_sign, prices_by, raw_row_by, merged_row_by, bars_by, raw_row, merged_row, bars_pass}
use Rattle.arith.proofs.Tests.{yes, no, pair}

-- ---- the four prices

-- z is at most both where it is at most the smaller, if the first is no NaN
smaller_above : (z x y : Float) → Number x → T (le z (smaller_of x y)) → T (le z x) × T (le z y)
smaller_above z x y n h = elim (decide (lt x y)) [
  | inl k ↦ let g = rw (yes (lt x y) k) at h in (g, le_trans z x y g (lt-le x y k))
  | inr k ↦ let g = rw (no (lt x y) k) at h in (le_trans z y x g (not-lt-le x y n (le_right z y g) k), g)
]

-- both are at most z where the larger is, if the second is no NaN
larger-below : (x y z : Float) → Number y → T (le (larger_of x y) z) → T (le x z) × T (le y z)
larger-below x y z n h = elim (decide (lt x y)) [
  | inl k ↦ let g = rw (yes (lt x y) k) at h in (le_trans x y z (lt-le x y k) g, g)
  | inr k ↦ let g = rw (no (lt x y) k) at h in (g, le_trans y x z (not-lt-le x y (le_left x z g) n k) g)
]

-- a NaN on the left is kept
larger-left : (x y : Float) → Number (larger_of x y) → Number x
larger-left x y h = elim (decide (lt x y)) [ inl k ↦ lt-left x y k | inr k ↦ rw (no (lt x y) k) at h ]

-- what lets four prices through
record InRange (o c h l : Float) : Type 0 where
  at_open : T (in_price_range o)
  at-close : T (in_price_range c)
  at_high : T (in_price_range h)
  at_low : T (in_price_range l)
  order : T (le l h)

-- the smallest and the largest price are asked for all four
above_ranges : (o c h l : Float) → T (above_zero o c h l) → InRange o c h l
unfolding above_zero in_price_range
above_ranges o c h l t =
    let least = smaller_of l (smaller_of o c) in
    let most = larger_of (larger_of o c) h in
    let k = and_r (le least_price least && le most most_price) (le l h) t in
    let u = and_l (le least_price least && le most most_price) (le l h) t in
    let a = smaller_above least_price l (smaller_of o c) (le_left l h k) (and_l (le least_price least) (le most most_price) u) in
    let b = larger-below (larger_of o c) h most_price (le_right l h k) (and_r (le least_price least) (le most most_price) u) in
    let d = smaller_above least_price o c (larger-left o c (le_left (larger_of o c) most_price b.0)) a.1 in
    let e = larger-below o c most_price (le_right least_price c d.1) b.0 in
    record {
      at_open = pair (le least_price o) (le o most_price) d.0 e.0;
      at-close = pair (le least_price c) (le c most_price) d.1 e.1;
      at_high = pair (le least_price h) (le h most_price) (le_trans least_price l h a.0 k) b.1;
      at_low = pair (le least_price l) (le l most_price) a.0 (le_trans l h most_price k b.1);
      order = k;
    }

all-prices : (o c h l : Float) → T (is_price o) → T (is_price c) → T (is_price h) → T (is_price l) → T (le l h) → T (of_any_sign o c h l)
unfolding of_any_sign
all-prices o c h l p q r s k =
    pair (is_price o && is_price c) ((is_price h && is_price l) && le l h) (pair (is_price o) (is_price c) p q) (pair (is_price h && is_price l) (le l h) (pair (is_price h) (is_price l) r s) k)

-- prices above zero pass
above_passes : (o c h l : Float) → T (above_zero o c h l) → T (of_any_sign o c h l)
above_passes o c h l t =
    let a = above_ranges o c h l t in
    all-prices o c h l (price_above o a.at_open) (price_above c a.at-close) (price_above h a.at_high) (price_above l a.at_low) a.order

-- ---- sizes

size_price : (x : Float) → T (in_price_range (size_of x)) → T (is_price x)
unfolding size_of
size_price x h = elim (decide (lt x (neg x))) [
  | inl k ↦ price-below x (rw (yes (lt x (neg x)) k) at h)
  | inr k ↦ price_above x (rw (no (lt x (neg x)) k) at h)
]

-- where the larger and the smaller of two are in the range, so are both
both_ranges : (x y : Float) → T (in_price_range (larger_of x y)) → T (in_price_range (smaller_of x y)) → T (in_price_range x) × T (in_price_range y)
both_ranges x y g s = elim (decide (lt x y)) [
  | inl k ↦ (rw (yes (lt x y) k) at s, rw (yes (lt x y) k) at g)
  | inr k ↦ (rw (no (lt x y) k) at g, rw (no (lt x y) k) at s)
]

-- prices whose sizes pass do
pub sizes_pass : (o c h l : Float) → T (above_zero (size_of o) (size_of c) (larger_of (size_of h) (size_of l)) (smaller_of (size_of h) (size_of l)) && le l h) → T (of_any_sign o c h l)
sizes_pass o c h l t =
    let most = larger_of (size_of h) (size_of l) in
    let least = smaller_of (size_of h) (size_of l) in
    let a = above_ranges (size_of o) (size_of c) most least (and_l (above_zero (size_of o) (size_of c) most least) (le l h) t) in
    let b = both_ranges (size_of h) (size_of l) a.at_high a.at_low in
    all-prices o c h l (size_price o a.at_open) (size_price c a.at-close) (size_price h b.0) (size_price l b.1) (and_r (above_zero (size_of o) (size_of c) most least) (le l h) t)

-- ---- rows

raw_order : (a b l v : Bool) → ((a && (b && l)) && v) ≡ ((a && b) && (v && l))
raw_order false b l v = refl
raw_order true false l v = refl
raw_order true true true true = refl
raw_order true true true false = refl
raw_order true true false true = refl
raw_order true true false false = refl

merged_order : (a b l z : Bool) → ((a && (b && l)) && z) ≡ ((a && b) && (l && z))
merged_order false b l z = refl
merged_order true false l z = refl
merged_order true true l z = refl

-- a row asked with prices of any sign is the row's own question
pub raw-any : (p : List Float) → raw_row_by true p ≡ raw_row p
unfolding raw_row_by prices_by of_any_sign raw_row bar_of question6 question7 question8
raw-any p = raw_order (is_price (get_or p 0 nan) && is_price (get_or p 1 nan)) (is_price (get_or p 2 nan) && is_price (get_or p 3 nan)) (le (get_or p 3 nan) (get_or p 2 nan)) (is_volume (get_or p 4 nan) && is_volume (get_or p 5 nan))

pub merged-any : (p : List Float) → merged_row_by true p ≡ merged_row p
unfolding merged_row_by prices_by of_any_sign merged_row bar_of question6 question8
merged-any p = merged_order (is_price (get_or p 0 nan) && is_price (get_or p 1 nan)) (is_price (get_or p 2 nan) && is_price (get_or p 3 nan)) (le (get_or p 3 nan) (get_or p 2 nan)) (from_zero (get_or p 4 nan) && from_zero (get_or p 5 nan))

pub bars-any : (p : List Float) → bars_by true p ≡ bars_pass p
unfolding bars_by bars_pass
bars-any p = λ i. merged-any (take 6 p) i && (merged-any (take 6 (drop 6 p)) i && merged-any (take 6 (drop 12 p)) i)

-- a row that passes above zero passes, whatever else is asked of it
row_above : (v : Bool) (p : List Float) → T (prices_by false (get_or p 0 nan) (get_or p 1 nan) (get_or p 2 nan) (get_or p 3 nan) && v)
    → T (prices_by true (get_or p 0 nan) (get_or p 1 nan) (get_or p 2 nan) (get_or p 3 nan) && v)
unfolding prices_by
row_above v p t =
    let o = get_or p 0 nan in
    let c = get_or p 1 nan in
    let h = get_or p 2 nan in
    let l = get_or p 3 nan in
    pair (of_any_sign o c h l) v (above_passes o c h l (and_l (above_zero o c h l) v t)) (and_r (above_zero o c h l) v t)

pub raw_above : (p : List Float) → T (raw_row_by false p) → T (raw_row p)
unfolding raw_row_by
raw_above p t = subst T (raw-any p) (row_above (is_volume (get_or p 4 nan) && is_volume (get_or p 5 nan)) p t)

pub merged_above : (p : List Float) → T (merged_row_by false p) → T (merged_row p)
unfolding merged_row_by
merged_above p t = subst T (merged-any p) (row_above (from_zero (get_or p 4 nan) && from_zero (get_or p 5 nan)) p t)

pub bars_above : (p : List Float) → T (bars_by false p) → T (bars_pass p)
unfolding bars_by bars_pass
bars_above p t =
    let by : ℕ → Bool = λ k. merged_row_by false (take 6 (drop k p)) in
    let is : ℕ → Bool = λ k. merged_row (take 6 (drop k p)) in
    let u = and_r (by 0) (by 6 && by 12) t in
    pair (is 0) (is 6 && is 12) (merged_above (take 6 p) (and_l (by 0) (by 6 && by 12) t))
    (pair (is 6) (is 12) (merged_above (take 6 (drop 6 p)) (and_l (by 6) (by 12) u)) (merged_above (take 6 (drop 12 p)) (and_r (by 6) (by 12) u)))

-- the row of a bar that stands from place k on in a longer one
pub row_from : (any : Bool) (p : List Float) (k : ℕ)
    → merged_row_by any (get_or p k nan ∷ get_or p (k + 1) nan ∷ get_or p (k + 2) nan ∷ get_or p (k + 3) nan ∷ get_or p (k + 4) nan ∷ get_or p (k + 5) nan ∷ []) ≡ merged_row_by any (take 6 (drop k p))
unfolding merged_row_by
row_from any p k = rw (at 0 (omega arith), add-zero k, at 1 (omega arith), at 2 (omega arith), at 3 (omega arith), at 4 (omega arith), at 5 (omega arith)) refl
  where
    at : (i : ℕ) → i < 6 → get_or (take 6 (drop k p)) i nan ≡ get_or p (k + i) nan
    at i h = get_or-take 6 (drop k p) i nan h ∙ get_or-drop k p i nan
