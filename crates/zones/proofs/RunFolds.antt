-- What is kept up of a run of strokes answers is_bis_up and is_bis_down as they are over the whole list.
-- Assumes nothing.
use Prim.Native.Nat.{ℕ, zero, suc, ◌+◌, ◌%◌}
use native.Mathlib.Omega.{arith}
use mathlib.Core.Path.{◌≡◌, refl, ap, sym, ◌∙◌}
use mathlib.Core.Bool.{Bool, true, false, ◌&&◌}
use mathlib.Core.List.{List, [], ◌∷◌, foldl}
use lib.ListN.{length}
use lib.Dec.{leb, eqb, leb-zero, leb-suc-suc}
use lib.Signed.{lt_z}
use lib.Ieee.{Float}
use Rattle.arith.specs.Order.{max_of, min_of}
use Rattle.std.specs.List.{fold}
use Rattle.bars.specs.Lists as Lists
use Rattle.named.specs.Folds.{greatest, least}
use Rattle.zones.specs.declared.Summary.{Summary}
use Rattle.machine.specs.declared.Direction.{Direction}
use Rattle.machine.specs.declared.Direction.TheVariants.{Up, Down}
use Rattle.zones.specs.declared.runs_of_strokes.StrokeCount.{StrokeCount}
use Rattle.zones.specs.declared.runs_of_strokes.StrokeCount.TheVariants.{One, Even}
use Rattle.zones.specs.declared.runs_of_strokes.GrowingRun.{GrowingRun}
use Rattle.zones.specs.Zones.{highs, lows, gg, dd, last_from}
use Rattle.zones.specs.BisUpDown.{chronological, is_run, up_from, down_from, is_bis_up, is_bis_down, goes}
use Rattle.zones.specs.Code.GrowingRun.{begun, in_order_with, longer, is_odd_from_three, more_of, run_of, is_run_of, up_of, down_of, goes_of}
use Rattle.arith.proofs.Tests.{and_true, and_assoc}

-- ---- how many strokes

-- of k strokes; of none it is not asked
class : ℕ → StrokeCount
unfolding longer
class zero = Even
class (suc zero) = One
class (suc (suc k)) = longer (class (suc k))

stable : (k : ℕ) → longer (longer (class (suc (suc k)))) ≡ class (suc (suc k))
unfolding longer class
stable zero = refl
stable (suc k) = ap longer (stable k)

odd_is : (k : ℕ) → is_odd_from_three (class (suc (suc k))) ≡ eqb (suc (suc k) % 2) 1
unfolding longer is_odd_from_three class
odd_is zero = refl
odd_is (suc zero) = refl
odd_is (suc (suc k)) = ap is_odd_from_three (stable k) ∙ odd_is k ∙ ap (λ (m : ℕ). eqb m 1) (sym (two (suc (suc k))))
  where
    two : (n : ℕ) → suc (suc n) % 2 ≡ n % 2
    two n = omega arith

class_is : (k : ℕ) → is_odd_from_three (class (suc k)) ≡ leb 3 (suc k) && eqb (suc k % 2) 1
unfolding longer is_odd_from_three class
class_is zero = refl
class_is (suc zero) = refl
class_is (suc (suc k)) = odd_is (suc k) ∙ sym (ap (λ (b : Bool). b && eqb (suc (suc (suc k)) % 2) 1) (many k))
  where
    many : (n : ℕ) → leb 3 (suc (suc (suc n))) ≡ true
    many n = leb-suc-suc 2 (suc (suc n)) ∙ leb-suc-suc 1 (suc n) ∙ leb-suc-suc 0 n ∙ leb-zero n

-- ---- the run after k strokes, and after those of a list

abbrev after : Summary → ℕ → Summary → Bool → Float → Float → GrowingRun
after a k x t u v = record { first = a; last = x; count = class k; in_order = t; gg = u; dd = v }

abbrev counted : ℕ → List Summary → ℕ
counted k [] = k
counted k (s ∷ l) = counted (suc k) l

counted_is : (k : ℕ) (l : List Summary) → counted k l ≡ k + length l
counted_is k [] = none k
  where
    none : (k : ℕ) → k ≡ k + 0
    none k = omega arith
counted_is k (s ∷ l) = counted_is (suc k) l ∙ move k (length l)
  where
    move : (k n : ℕ) → suc k + n ≡ k + suc n
    move k n = omega arith

more-is : (a : Summary) (k : ℕ) (x : Summary) (t : Bool) (u v : Float) (s : Summary)
    → more_of (after a (suc k) x t u v) s ≡ after a (suc (suc k)) s (t && lt_z x.ended s.ended) (max_of u s.high) (min_of v s.low)
unfolding more_of in_order_with class
more-is a k x t u v s = refl

run_fold : (a : Summary) (k : ℕ) (x : Summary) (t : Bool) (u v : Float) (l : List Summary)
    → foldl more_of (after a (suc k) x t u v) l ≡ after a (counted (suc k) l) (last_from x l) (t && chronological (x ∷ l)) (Lists.fold_left max_of u (highs l)) (Lists.fold_left min_of v (lows l))
unfolding last_from chronological highs lows Lists.fold_left
run_fold a k x t u v [] = ap (λ (b : Bool). after a (suc k) x b u v) (sym (and_true t))
run_fold a k x t u v (s ∷ l) =
    ap (λ (r : GrowingRun). foldl more_of r l) (more-is a k x t u v s)
    ∙ run_fold a (suc k) s (t && lt_z x.ended s.ended) (max_of u s.high) (min_of v s.low) l
    ∙ ap (λ (b : Bool). after a (counted (suc (suc k)) l) (last_from s l) b (Lists.fold_left max_of (max_of u s.high) (highs l)) (Lists.fold_left min_of (min_of v s.low) (lows l))) (sym (and_assoc t (lt_z x.ended s.ended) (chronological (s ∷ l))))

-- a run of one stroke is the run after one
run_is : (a : Summary) (l : List Summary) → run_of a l ≡ after a (length (a ∷ l)) (last_from a l) (chronological (a ∷ l)) (gg (a ∷ l)) (dd (a ∷ l))
unfolding run_of begun class gg dd greatest least highs lows Lists.fold_left
run_is a l =
    run_fold a 0 a true (gg (a ∷ [])) (dd (a ∷ [])) l
    ∙ ap (λ (n : ℕ). after a n (last_from a l) (chronological (a ∷ l)) (gg (a ∷ l)) (dd (a ∷ l))) (counted_is 1 l ∙ one (length l))
  where
    one : (n : ℕ) → 1 + n ≡ suc n
    one n = omega arith

pub up-grown : (a : Summary) (l : List Summary) → up_of (run_of a l) ≡ is_bis_up (a ∷ l)
unfolding up_of is_run_of is_bis_up is_run up_from
up-grown a l = ap up_of (run_is a l) ∙ ap (λ (b : Bool). (b && chronological (a ∷ l)) && up_from a (last_from a l) (a ∷ l)) (class_is (length l))

pub down-grown : (a : Summary) (l : List Summary) → down_of (run_of a l) ≡ is_bis_down (a ∷ l)
unfolding down_of is_run_of is_bis_down is_run down_from
down-grown a l = ap down_of (run_is a l) ∙ ap (λ (b : Bool). (b && chronological (a ∷ l)) && down_from a (last_from a l) (a ∷ l)) (class_is (length l))

-- either, by the way that is asked
pub way-grown : (d : Direction) (a : Summary) (l : List Summary) → goes_of d (run_of a l) ≡ goes d (a ∷ l)
unfolding goes_of goes
way-grown Up a l = up-grown a l
way-grown Down a l = down-grown a l

-- ---- a list of strokes, by whether there is a first one

pub none-goes : (d : Direction) (l : List Summary) → length l ≡ 0 → false ≡ goes d l
unfolding goes is_bis_up is_bis_down
none-goes Up [] e = refl
none-goes Down [] e = refl
none-goes d (a ∷ l) e = let w : ⊥ = omega arith in absurd w

folded : (r : GrowingRun) (l : List Summary) → fold more_of r l ≡ foldl more_of r l
folded r [] = refl
folded r (s ∷ l) = folded (more_of r s) l

pub list-goes : (d : Direction) (l rest : List Summary) (a : Summary) (b w : GrowingRun) (r : Bool) → l ≡ a ∷ rest → b ≡ begun a → w ≡ fold more_of b rest → r ≡ goes_of d w → r ≡ goes d l
unfolding run_of
list-goes d l rest a b w r e p q h =
    h ∙ ap (goes_of d) (q ∙ ap (λ (x : GrowingRun). fold more_of x rest) p ∙ folded (begun a) rest) ∙ way-grown d a rest ∙ ap (goes d) (sym e)
