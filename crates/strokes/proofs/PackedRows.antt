-- What is read back of rows that were written. Assumes nothing.
use Prim.Native.Nat.{ℕ, ◌≤◌, ◌<◌}
use native.Mathlib.Omega.{arith}
use mathlib.Core.Path.{◌≡◌, refl, ap, sym, subst}
use mathlib.Core.Bool.{Bool, true, false, ◌&&◌}
use mathlib.Core.List.{List, [], ◌∷◌}
use lib.ListN.{length, get_or, set}
use lib.Dec.{T, leb, leb→le, eqb, eqb→eq}
use lib.Ieee.Fits.{and_l, and_r}
use borrow.Author.Tests.{le-leb, lt-leb}
use Rattle.arith.proofs.Tests.{holds}
use Rattle.strokes.specs.declared.Stand.{Stand}
use Rattle.strokes.specs.Packed.{stand_of, packed, numbers_of, numbers_with, counts_with, rows_there}

pub first-set : (l : List (List ℕ)) (x : List ℕ) → 1 ≤ length l → get_or (set l 0 x) 0 [] ≡ x
first-set [] x h = let w : ⊥ = omega arith in absurd w
first-set (a ∷ l) x h = refl

pub two-set : (l : List (List ℕ)) (x y : List ℕ) → 2 ≤ length l → (get_or (set (set l 0 x) 1 y) 0 [] ≡ x) × (get_or (set (set l 0 x) 1 y) 1 [] ≡ y)
two-set [] x y h = let w : ⊥ = omega arith in absurd w
two-set (a ∷ []) x y h = let w : ⊥ = omega arith in absurd w
two-set (a ∷ b ∷ l) x y h = (refl, refl)

-- a stand that was packed is read back
pub packed-is : (s : Stand) (ns cs : List (List ℕ)) → get_or ns 0 [] ≡ numbers_of s → (get_or cs 0 [] ≡ s.bars) × (get_or cs 1 [] ≡ s.fractals) → packed ns cs ≡ s
unfolding packed stand_of numbers_of
packed-is s ns cs n k = λ i. stand_of (n i) (k.0 i) (k.1 i)

pub packed-back : (s : Stand) (ns cs : List (List ℕ)) → 1 ≤ length ns → 2 ≤ length cs → packed (numbers_with s ns) (counts_with s cs) ≡ s
unfolding numbers_with counts_with
packed-back s ns cs h k = packed-is s (set ns 0 (numbers_of s)) (set (set cs 0 s.bars) 1 s.fractals) (first-set ns (numbers_of s) h) (two-set cs s.bars s.fractals k)

-- the rows are there, or not
pub there : (ns cs : List (List ℕ)) → rows_there ns cs ≡ true → (1 ≤ length ns) × (2 ≤ length cs)
unfolding rows_there
there ns cs e =
    let t : T (rows_there ns cs) = holds e in
    (leb→le 1 (length ns) (and_l (leb 1 (length ns)) (leb 2 (length cs)) t), leb→le 2 (length cs) (and_r (leb 1 (length ns)) (leb 2 (length cs)) t))

pub filled : (ns : List (List ℕ)) → eqb (length ns) 0 ≡ false → 1 ≤ length ns
filled [] e = absurd (subst T e tt)
filled (a ∷ l) e = omega arith

pub emptied : (ns : List (List ℕ)) → eqb (length ns) 0 ≡ true → length ns < 1
emptied ns e = let q : length ns ≡ 0 = eqb→eq (length ns) 0 (holds e) in omega arith

pub none-there : (ns cs : List (List ℕ)) → length ns < 1 → false ≡ rows_there ns cs
unfolding rows_there
none-there ns cs h = sym (ap (λ (t : Bool). t && leb 2 (length cs)) (lt-leb 1 (length ns) h))

pub some-there : (ns cs : List (List ℕ)) → 1 ≤ length ns → leb 2 (length cs) ≡ rows_there ns cs
unfolding rows_there
some-there ns cs h = sym (ap (λ (t : Bool). t && leb 2 (length cs)) (le-leb 1 (length ns) h))
