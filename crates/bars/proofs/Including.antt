-- Laws of remove_include: what each way through it answers, and that the bars are the same with the elements and without them. Assumes nothing.
use Prim.Native.Nat.{ℕ, zero, suc, ◌+◌, ◌<◌}
use mathlib.Core.Path.{◌≡◌, refl, ap, ◌∙◌}
use mathlib.Core.Bool.{Bool, true, false, cond}
use Rattle.std.proofs.Common.{min}
use mathlib.Core.List.{List, [], ◌∷◌, ◌++◌, map, head-eq_of_cons-eq}
use native.Mathlib.Omega.{arith}
use native.Mathlib.Numerals.{add-one}
use lib.ListN.{length, take, set}
use lib.Seq.{take-suc-set}
use lib.IntN.{ℤ}
use lib.Ieee.{Float, binary64, lt, add}
use Rattle.std.specs.Prelude as Std
use Rattle.arith.specs.Order.{max_of, min_of}
use Rattle.bars.specs.declared.Bar.{Bar}
use Rattle.bars.specs.declared.NewBar.{NewBar}
use Rattle.bars.specs.Bars.{Merged, merged_of, own}
use Rattle.bars.specs.Merging.{contains, united, merged_up, merged_down, settle, remove_include}
use Rattle.bars.specs.Code.MergedBars.{united_bar, merged_up_bar, merged_down_bar, settle_bar, remove_include_bar, remove_include_after, in_place_of, with_element}

-- ---- k2 and k3 as one bar

-- open and close, by whether k3 fell
pub united_is : (k2 k3 : Bar) (t t' i' : ℤ) (h l o c : Float) → t' ≡ t → i' ≡ k2.id → o ≡ cond (lt k3.close k3.«open») h l → c ≡ cond (lt k3.close k3.«open») l h
    → ◌≡◌ {A = Bar} (record { time = t'; id = i'; «open» = o; close = c; high = h; low = l; vol = add binary64 k2.vol k3.vol; amount = add binary64 k2.amount k3.amount }) (united_bar k2 k3 t h l)
unfolding united_bar
united_is k2 k3 t t' i' h l o c time id p q = rw (time, id, p, q)

-- the time, by the test that each direction asks
module _ (k2 k3 b : Bar) (h l : Float) (t : ℤ) (is : b ≡ united_bar k2 k3 t h l) where
  pub up_is : t ≡ cond (lt k3.high k2.high) k2.time k3.time → h ≡ max_of k2.high k3.high → l ≡ max_of k2.low k3.low → b ≡ merged_up_bar k2 k3
  unfolding merged_up_bar
  up_is q r s = is ∙ rw (q, r, s)

  pub down_is : t ≡ cond (lt k2.low k3.low) k2.time k3.time → h ≡ min_of k2.high k3.high → l ≡ min_of k2.low k3.low → b ≡ merged_down_bar k2 k3
  unfolding merged_down_bar
  down_is q r s = is ∙ rw (q, r, s)

module _ (h : Float) (k2 k3 : Bar) where
  pub included_up : (k : Bar) → k ≡ merged_up_bar k2 k3 → contains k2 k3 ≡ true → lt h k2.high ≡ true → in_place_of k2 (Std.Some k) k3 ≡ remove_include_bar h k2 k3
  unfolding in_place_of remove_include_bar settle_bar
  included_up k e p q = rw (p, q, e)

  pub included_down : (k : Bar) → k ≡ merged_down_bar k2 k3 → contains k2 k3 ≡ true → lt h k2.high ≡ false → lt k2.high h ≡ true
      → in_place_of k2 (Std.Some k) k3 ≡ remove_include_bar h k2 k3
  unfolding in_place_of remove_include_bar settle_bar
  included_down k e p q r = rw (p, q, r, e)

  pub included_level : contains k2 k3 ≡ true → lt h k2.high ≡ false → lt k2.high h ≡ false → in_place_of k2 Std.None k3 ≡ remove_include_bar h k2 k3
  unfolding in_place_of remove_include_bar settle_bar
  included_level p q r = rw (p, q, r)

  apart : (u d : Bool) → k2 ∷ k3 ∷ [] ≡ settle_bar u d false k2 k3
  unfolding settle_bar
  apart true d = refl
  apart false true = refl
  apart false false = refl

  pub included_apart : contains k2 k3 ≡ false → in_place_of k2 Std.None k3 ≡ remove_include_bar h k2 k3
  unfolding in_place_of remove_include_bar
  included_apart p = rw p (apart (lt h k2.high) (lt k2.high h))

-- ---- elements

-- a list cut to n and then to m
take_both : {A : Type 0} (m n : ℕ) (l : List A) → take m (take n l) ≡ take (min n m) l
take_both zero n l = let e : min n 0 ≡ 0 = omega arith in rw e refl
take_both (suc m) zero l = let e : min 0 (suc m) ≡ 0 = omega arith in rw e refl
take_both (suc m) (suc n) [] = let e : min (suc n) (suc m) ≡ suc (min n m) = omega arith in rw e refl
take_both (suc m) (suc n) (a ∷ l) = let e : min (suc n) (suc m) ≡ suc (min n m) = omega arith in rw e (ap (a ∷◌) (take_both m n l))

-- k2's first 100 elements and one more, in the places of a NewBar
pub one_more : (b : Bar) (k : NewBar) (t u : ℤ) (n : ℕ) → u ≡ t → n ≡ min k.count 100 → n < length k.elements
    → merged_of (record { bar = b; count = n + 1; elements = set k.elements n u }) ≡ with_element b (merged_of k) t
unfolding merged_of with_element
one_more b k t u n same e room = rw (add-one, take-suc-set k.elements n u room, same, e, take_both 100 k.count k.elements)

module _ (k2 : Merged) (k3 : Bar) where
  -- merged without elements is merged with them
  settle-merged : (u d i : Bool) (b : Bar) → b ∷ [] ≡ settle_bar u d i k2.bar k3 → with_element b k2 k3.time ∷ [] ≡ settle u d i k2 k3
  unfolding settle_bar settle merged_up united merged_up_bar united_bar merged_down merged_down_bar with_element
  settle-merged true d true b e = let p = head-eq_of_cons-eq e in λ i. record { bar = p i; elements = take 100 k2.elements ++ k3.time ∷ [] } ∷ []
  settle-merged false true true b e = let p = head-eq_of_cons-eq e in λ i. record { bar = p i; elements = take 100 k2.elements ++ k3.time ∷ [] } ∷ []
  settle-merged false false true b e = let z : ◌≡◌ {A = ℕ} 1 2 = ap length e in absurd (omega arith)
  settle-merged true d false b e = let z : ◌≡◌ {A = ℕ} 1 2 = ap length e in absurd (omega arith)
  settle-merged false d false b e = let z : ◌≡◌ {A = ℕ} 1 2 = ap length e in absurd (omega arith)

  -- and not merged is not merged
  settle-own : (u d i : Bool) (a b : Bar) → a ∷ b ∷ [] ≡ settle_bar u d i k2.bar k3 → k2 ∷ own k3 ∷ [] ≡ settle u d i k2 k3
  unfolding settle_bar settle
  settle-own true d true a b e = let z : ◌≡◌ {A = ℕ} 2 1 = ap length e in absurd (omega arith)
  settle-own false true true a b e = let z : ◌≡◌ {A = ℕ} 2 1 = ap length e in absurd (omega arith)
  settle-own false false true a b e = refl
  settle-own true d false a b e = refl
  settle-own false true false a b e = refl
  settle-own false false false a b e = refl

  pub included_elements : (h : Float) (b : Bar) → in_place_of k2.bar (Std.Some b) k3 ≡ remove_include_bar h k2.bar k3
      → (k : Merged) → k ≡ with_element b k2 k3.time → in_place_of k2 (Std.Some k) (own k3) ≡ remove_include_after h k2 k3
  unfolding in_place_of remove_include_bar remove_include_after
  included_elements h b e k f = rw f (settle-merged (lt h k2.bar.high) (lt k2.bar.high h) (contains k2.bar k3) b e)

  pub included_own : (h : Float) → in_place_of k2.bar Std.None k3 ≡ remove_include_bar h k2.bar k3 → in_place_of k2 Std.None (own k3) ≡ remove_include_after h k2 k3
  unfolding in_place_of remove_include_bar remove_include_after
  included_own h e = settle-own (lt h k2.bar.high) (lt k2.bar.high h) (contains k2.bar k3) k2.bar k3 e

-- ---- removeInclude's bars

pub settle-bars : (u d i : Bool) (k2 : Merged) (k3 : Bar) → map (λ (k : Merged). k.bar) (settle u d i k2 k3) ≡ settle_bar u d i k2.bar k3
unfolding settle settle_bar own merged_up united merged_up_bar united_bar merged_down merged_down_bar
settle-bars true d true k2 k3 = refl
settle-bars false true true k2 k3 = refl
settle-bars false false true k2 k3 = refl
settle-bars true d false k2 k3 = refl
settle-bars false true false k2 k3 = refl
settle-bars false false false k2 k3 = refl

-- without its elements removeInclude's answer is removeIncludeBar's
pub include_bars : (k1 k2 : Merged) (k3 : Bar) → map (λ (k : Merged). k.bar) (remove_include k1 k2 k3) ≡ remove_include_bar k1.bar.high k2.bar k3
unfolding remove_include remove_include_bar
include_bars k1 k2 k3 = settle-bars (lt k1.bar.high k2.bar.high) (lt k2.bar.high k1.bar.high) (contains k2.bar k3) k2 k3

-- of k1 only the high is asked
pub include_after : (k1 k2 : Merged) (k3 : Bar) → remove_include k1 k2 k3 ≡ remove_include_after k1.bar.high k2 k3
unfolding remove_include remove_include_after
include_after k1 k2 k3 = refl
