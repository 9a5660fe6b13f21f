-- A run of bars merged one after the other: how long the list gets, what of it stays, and that its bars can be found without the elements. Assumes nothing.
use Prim.Native.Nat.{ℕ, ◌+◌, ◌≤◌}
use mathlib.Core.Path.{◌≡◌, refl, ap, sym, ◌∙◌}
use mathlib.Core.Bool.{Bool, true, false}
use mathlib.Core.List.{List, [], ◌∷◌, ◌++◌, map}
use native.Mathlib.Omega.{arith}
use lib.ListN.{length, length-map}
use lib.Ieee.{lt}
use Rattle.bars.specs.declared.Bar.{Bar}
use Rattle.bars.specs.Bars.{Merged, own}
use Rattle.bars.specs.Lists.{fold_left}
use Rattle.bars.specs.Merging.{contains, merge_in, merge_all}
use Rattle.bars.specs.Code.MergedBars.{settle_bar, remove_include_bar, merge_bars, merge_bars_all}
use Rattle.bars.proofs.Including.{include_bars}

-- a merged bar without its elements
abbrev pub without_elements : Merged → Bar
without_elements k = k.bar

-- ---- the bars, with the elements and without them

pub merge_bars_lem : (l : List Merged) (b : Bar) → map without_elements (merge_in l b) ≡ merge_bars (map without_elements l) b
unfolding merge_in merge_bars own
merge_bars_lem [] b = refl
merge_bars_lem (k1 ∷ []) b = refl
merge_bars_lem (k1 ∷ k2 ∷ []) b = ap (λ (r : List Bar). k1.bar ∷ r) (include_bars k1 k2 b)
merge_bars_lem (k1 ∷ k2 ∷ k3 ∷ l) b = ap (λ (r : List Bar). k1.bar ∷ r) (merge_bars_lem (k2 ∷ k3 ∷ l) b)

pub merge_bars-all : (l : List Merged) (bs : List Bar) → map without_elements (merge_all l bs) ≡ merge_bars_all (map without_elements l) bs
unfolding merge_all merge_bars_all fold_left
merge_bars-all l [] = refl
merge_bars-all l (b ∷ bs) = merge_bars-all (merge_in l b) bs ∙ ap (λ (r : List Bar). merge_bars_all r bs) (merge_bars_lem l b)

-- ---- how long the list gets

-- from n bars, at most m more
pub record Grows (n m k : ℕ) : Type 0 where
  pub least : n ≤ k
  pub most : k ≤ n + m

settle-length : (u d i : Bool) (k2 k3 : Bar) → Grows 1 1 (length (settle_bar u d i k2 k3))
unfolding settle_bar
settle-length true d true k2 k3 = record { least = omega arith; most = omega arith }
settle-length false true true k2 k3 = record { least = omega arith; most = omega arith }
settle-length false false true k2 k3 = record { least = omega arith; most = omega arith }
settle-length true d false k2 k3 = record { least = omega arith; most = omega arith }
settle-length false true false k2 k3 = record { least = omega arith; most = omega arith }
settle-length false false false k2 k3 = record { least = omega arith; most = omega arith }

-- one bar more adds at most one, and takes none away
pub merge_grows : (l : List Bar) (b : Bar) → Grows (length l) 1 (length (merge_bars l b))
unfolding merge_bars remove_include_bar
merge_grows [] b = record { least = omega arith; most = omega arith }
merge_grows (k1 ∷ []) b = record { least = omega arith; most = omega arith }
merge_grows (k1 ∷ k2 ∷ []) b =
    let g = settle-length (lt k1.high k2.high) (lt k2.high k1.high) (contains k2 b) k2 b in
    record { least = omega arith; most = omega arith }
merge_grows (k1 ∷ k2 ∷ k3 ∷ l) b = let g = merge_grows (k2 ∷ k3 ∷ l) b in record { least = omega arith; most = omega arith }

-- and a run of m bars at most m
pub merge_all_grows : (l bs : List Bar) → Grows (length l) (length bs) (length (merge_bars_all l bs))
unfolding merge_bars_all fold_left
merge_all_grows l [] = record { least = omega arith; most = omega arith }
merge_all_grows l (b ∷ bs) =
    let g = merge_grows l b in
    let h = merge_all_grows (merge_bars l b) bs in
    record { least = omega arith; most = omega arith }

-- the same with elements
pub merge_in_grows : (l : List Merged) (b : Bar) → Grows (length l) 1 (length (merge_in l b))
merge_in_grows l b =
    let g = merge_grows (map without_elements l) b in
    let p : length (merge_in l b) ≡ length (merge_bars (map without_elements l) b) = sym (length-map (merge_in l b) without_elements) ∙ ap length (merge_bars_lem l b) in
    let q = length-map l without_elements in
    record { least = omega arith; most = omega arith }

pub merge_run_grows : (l : List Merged) (bs : List Bar) → Grows (length l) (length bs) (length (merge_all l bs))
merge_run_grows l bs =
    let g = merge_all_grows (map without_elements l) bs in
    let p : length (merge_all l bs) ≡ length (merge_bars_all (map without_elements l) bs) = sym (length-map (merge_all l bs) without_elements) ∙ ap length (merge_bars-all l bs) in
    let q = length-map l without_elements in
    record { least = omega arith; most = omega arith }

-- ---- what stays

-- only the last bar can change, and the one before it decides how
pub merge_local : (l : List Bar) (k1 k2 b : Bar) → merge_bars (l ++ k1 ∷ k2 ∷ []) b ≡ l ++ k1 ∷ remove_include_bar k1.high k2 b
unfolding merge_bars
merge_local [] k1 k2 b = refl
merge_local (a ∷ []) k1 k2 b = refl
merge_local (a ∷ c ∷ []) k1 k2 b = refl
merge_local (a ∷ c ∷ e ∷ l) k1 k2 b = ap (λ (r : List Bar). a ∷ r) (merge_local (c ∷ e ∷ l) k1 k2 b)
