-- Merged bars pass questions 5, 6 and 8 and have vol and amount from zero up.
-- Assumes nothing.
use mathlib.Core.Bool.{not}
use mathlib.Core.List.{List, [], ◌∷◌}
use lib.Dec.{T}
use lib.Ieee.{Float, nan, inf, fin, le, binary64, add}
use lib.Ieee.Fits.{and_i, and_l, and_r}
use Rattle.bars.specs.Lists.{All, fold_left}
use Rattle.bars.specs.declared.Bar.{Bar}
use Rattle.bars.specs.Bars.{Merged, own}
use Rattle.bars.specs.Merging.{united, merge_in}
use Rattle.bars.specs.Questions.{has_minus, from_zero, is_volume, question7, question8, is_bar}
use Rattle.arith.specs.Sums.{zero_f}
use Rattle.bars.proofs.MinusZero.{from_zero_lem}
use Rattle.bars.proofs.MergedBars.{Kept, include_kept}
use Rattle.machine.specs.Soundness.{is_merged}
use Rattle.arith.proofs.FromZero.{NonNeg, zero-le, add_nonneg}
use Rattle.machine.proofs.Lists.{All-map, All-zip}
use Rattle.machine.proofs.MergingKeepsOrder.{Unites, merge_all_lem}

-- ---- sums from zero up

no_minus : (x : Float) → NonNeg x → T (not (has_minus x))
unfolding has_minus
no_minus nan n = absurd n
no_minus (inf s) n = tt
no_minus (fin s m e) n = n

to_zero : (x : Float) → NonNeg x → T (from_zero x)
unfolding from_zero
to_zero x n = and_i (le zero_f x) (not (has_minus x)) (zero-le x n) (no_minus x n)

add-from : (x y : Float) → T (from_zero x) → T (from_zero y) → T (from_zero (add binary64 x y))
add-from x y h k = to_zero (add binary64 x y) (add_nonneg binary64 x y (from_zero_lem x h) (from_zero_lem y k))

-- ---- questions 5, 6 and 8, which merging keeps, and the sums

-- vol and amount from zero up
abbrev Sums : Merged → Type 0
Sums k = T (from_zero k.bar.vol) × T (from_zero k.bar.amount)

abbrev pub IsMerged : Merged → Type 0
IsMerged k = T (is_merged k)

kept_of_lem : (k : Merged) → IsMerged k → Kept k.bar
unfolding is_merged
kept_of_lem k h = record { time = search (and_l, and_r); prices = search (and_l, and_r); range = search (and_l, and_r) }

-- low is at most high
pub low-high : (k : Merged) → IsMerged k → T (le k.bar.low k.bar.high)
unfolding question8
low-high k h = (kept_of_lem k h).range

sums_of_lem : (k : Merged) → IsMerged k → Sums k
unfolding is_merged
sums_of_lem k h = search (and_l, and_r)

merged_of_lem : (k : Merged) → Kept k.bar → Sums k → IsMerged k
unfolding is_merged
merged_of_lem k p q = search and_i

bar-kept : (b : Bar) → T (is_bar b) → Kept b
unfolding is_bar
bar-kept b h = record { time = search (and_l, and_r); prices = search (and_l, and_r); range = search (and_l, and_r) }

bar-sums : (b : Bar) → T (is_bar b) → T (from_zero b.vol) × T (from_zero b.amount)
unfolding is_bar question7 is_volume
bar-sums b h = search (and_l, and_r)

-- ---- merging

merge_kept : (l : List Merged) (b : Bar) → All (λ k. Kept k.bar) l → Kept b → All (λ k. Kept k.bar) (merge_in l b)
unfolding merge_in own
merge_kept [] b a q = (q, tt)
merge_kept (k1 ∷ []) b a q = (a.0, (q, tt))
merge_kept (k1 ∷ k2 ∷ []) b a q = (a.0, include_kept k2 b a.1.0 q k1)
merge_kept (k1 ∷ k2 ∷ k3 ∷ l) b a q = (a.0, merge_kept (k2 ∷ k3 ∷ l) b a.1 q)

united-sums : (k : Merged) (b : Bar) → T (from_zero b.vol) × T (from_zero b.amount) → Sums k → Unites Sums k b
unfolding united
united-sums k b q p c h l = (add-from k.bar.vol b.vol p.0 q.0, add-from k.bar.amount b.amount p.1 q.1)

merge_sums : (l : List Merged) (b : Bar) → All Sums l → T (from_zero b.vol) × T (from_zero b.amount) → All Sums (merge_in l b)
unfolding own
merge_sums l b a q = merge_all_lem Sums l b a q (λ k p. united-sums k b q p)

pub merge_passes : (l : List Merged) (b : Bar) → All IsMerged l → T (is_bar b) → All IsMerged (merge_in l b)
merge_passes l b a h = All-zip (merge_in l b) merged_of_lem (merge_kept l b (All-map l kept_of_lem a) (bar-kept b h)) (merge_sums l b (All-map l sums_of_lem a) (bar-sums b h))

pub fold_passes : (l : List Merged) (ys : List Bar) → All IsMerged l → All (λ y. T (is_bar y)) ys → All IsMerged (fold_left merge_in l ys)
unfolding fold_left
fold_passes l [] a h = a
fold_passes l (y ∷ ys) a h = fold_passes (merge_in l y) ys (merge_passes l y a h.0) h.1
