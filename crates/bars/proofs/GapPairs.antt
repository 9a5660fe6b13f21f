-- Laws that the gaps' functions cite: a scan for a covering bar, and the pair at a place among all pairs. Assumes nothing.
use Prim.Native.Nat.{min, ℕ, zero, suc, ◌+◌, ◌-◌, ◌<◌, ◌≤◌}
use mathlib.Core.Path.{◌≡◌, refl, ap, sym, ◌∙◌}
use mathlib.Core.Bool.{Bool, true, false, ◌||◌}
use mathlib.Core.List.{List, [], ◌∷◌, map}
use native.Mathlib.Numerals.{add-one}
use native.Mathlib.Omega.{arith}
use native.Mathlib.Nat.{le_of_suc-le-suc}
use lib.Dec.{leb}
use borrow.Author.Tests.{leb-true, lt-ltb, le-ltb, le-leb, lt-leb}
use lib.ListN.{length, take, drop, get_or, set, length-map, get_or-map}
use lib.Seq.{get_or-take, length-take-le}
use lib.Ieee.{Float, lt}
use Rattle.bars.specs.declared.gaps.Gap.{Gap}
use Rattle.bars.specs.declared.refusals.Question.TheVariants.{Exists}
use Rattle.std.specs.Prelude as Std
use Rattle.std.specs.List.{list_any}
use Rattle.bars.specs.Lists.{some_of, copied}
use Rattle.bars.specs.Gaps.{NoGap, row_high, row_low, covers_up, covers_down, up_gap, down_gap, gap_if, gap_of, gaps_of, pair_if, gap_at, unless_short, gap_among, GapColumns, gaps_listed, written, list_if, list_gaps}
use Rattle.bars.proofs.Moves.{copy_turn, run_is}

-- ---- whether a bar covers

pub any_some : {A : Type 0} (p : A → Bool) (l : List A) → list_any p l ≡ some_of p l
unfolding some_of
any_some p [] = refl
any_some p (a ∷ l) = ap (p a ||◌) (any_some p l)

-- ---- one pair

-- the rows from a place on, lent of the first n
pub lent_from : {A : Type 0} (l : List A) (from n : ℕ) → from ≤ n → take (n - from) (drop from l) ≡ drop from (take n l)
lent_from l from n h = let e : from + (n - from) ≡ n = omega arith in run_is l from (n - from) ∙ ap (λ (k : ℕ). drop from (take k l)) e

module _ (d : ℕ) (a b : List Float) (right : List (List Float)) (g : Std.Option Gap) (c : Bool) where
  pub gap_up : lt (row_high a) (row_low b) ≡ true → c ≡ some_of (covers_up a) right → g ≡ up_gap d (row_high a) (row_low b) c → g ≡ gap_of d a b right
  unfolding gap_of gap_if
  gap_up p q s = s ∙ rw (p, q)

  pub gap_down : lt (row_high a) (row_low b) ≡ false → lt (row_high b) (row_low a) ≡ true → c ≡ some_of (covers_down a) right → g ≡ down_gap d (row_high b) (row_low a) c
      → g ≡ gap_of d a b right
  unfolding gap_of gap_if
  gap_down p q s t = t ∙ rw (p, q, s)

pub gap_none : (d : ℕ) (a b : List Float) (right : List (List Float)) → lt (row_high a) (row_low b) ≡ false → lt (row_high b) (row_low a) ≡ false → NoGap ≡ gap_of d a b right
unfolding gap_of gap_if
gap_none d a b right p q = rw (p, q)

-- ---- the pair at a place among all pairs

at_pair : (d : ℕ) (l : List (List Float)) (j : ℕ) → suc j < length l → get_or (gaps_of d l) j NoGap ≡ gap_of d (get_or l j []) (get_or l (suc j) []) (drop (suc j) l)
unfolding gaps_of
at_pair d [] j h = absurd (omega arith)
at_pair d (a ∷ []) j h = absurd (omega arith)
at_pair d (a ∷ b ∷ l) zero h = refl
at_pair d (a ∷ b ∷ l) (suc j) h = at_pair d (b ∷ l) j (le_of_suc-le-suc h)

pub gaps-length : (d : ℕ) (l : List (List Float)) → length (gaps_of d l) ≡ length l - 1
unfolding gaps_of
gaps-length d [] = refl
gaps-length d (a ∷ []) = refl
gaps-length d (a ∷ b ∷ l) = let h = gaps-length d (b ∷ l) in omega arith

module _ (d : ℕ) (ps : List (List Float)) (n i : ℕ) where
  -- the pair of bars i and i + 1 of the first n
  pub pair_among : n ≤ length ps → i + 1 < n → get_or (gaps_of d (take n ps)) i NoGap ≡ gap_of d (get_or ps i []) (get_or ps (i + 1) []) (drop (i + 1) (take n ps))
  pair_among room h =
      let w : suc i < length (take n ps) = rw (length-take-le n ps room) (omega arith) in
      let k : i < n = omega arith in
      rw (add-one, ← get_or-take n ps i [] k, ← get_or-take n ps (suc i) [] (omega arith)) (at_pair d (take n ps) i w)

  pub among_short : length ps < n → Std.Err Exists ≡ gap_among d ps n i
  unfolding gap_among unless_short
  among_short h = rw (lt-leb n (length ps) h)

  pub among_none : n ≤ length ps → n ≤ i + 1 → Std.Err Exists ≡ gap_among d ps n i
  unfolding gap_among unless_short gap_at pair_if
  among_none room h = rw (le-leb n (length ps) room, length-take-le n ps room, le-ltb (i + 1) n h)

  pub among_pair : (g : Std.Option Gap) → n ≤ length ps → i + 1 < n → g ≡ gap_of d (get_or ps i []) (get_or ps (i + 1) []) (drop (i + 1) (take n ps)) → Std.Ok g ≡ gap_among d ps n i
  unfolding gap_among unless_short gap_at pair_if
  among_pair g room h e = rw (le-leb n (length ps) room, length-take-le n ps room, lt-ltb (i + 1) n h) (ap Std.Ok (e ∙ sym (pair_among room h)))

-- ---- all pairs in a column

-- one more of the gaps' numbers, values or covers, at its place
pub column_turn : {B : Type 0} (f : Std.Option Gap → B) (places : ℕ) (ps : List (List Float)) (n i : ℕ) (d l : List B) (v : B) (g : Std.Option Gap) → n ≤ length ps → i + 1 < n → i < length d
    → g ≡ gap_of places (get_or ps i []) (get_or ps (i + 1) []) (drop (i + 1) (take n ps)) → v ≡ f g → l ≡ copied d 0 (map f (gaps_of places (take n ps))) 0 i
    → set l i v ≡ copied d 0 (map f (gaps_of places (take n ps))) 0 (i + 1)
column_turn f places ps n i d l v g room h k e q s =
    let gs = gaps_of places (take n ps) in
    let w : i < length (map f gs) =
    omega (arith, length-map gs f, gaps-length places (take n ps), length-take-le n ps room)
    in
    copy_turn d (map f gs) l i (f NoGap) v s k w (q ∙ ap f (e ∙ sym (pair_among places ps n i room h)) ∙ sym (get_or-map f gs i NoGap))

-- ---- the answers of the listing

module _ (d : ℕ) (ps : List (List Float)) (n : ℕ) (s : GapColumns) where
  pub listed_4 : length ps < n → gaps_listed 4 s ≡ list_gaps d ps n s
  unfolding list_gaps list_if
  listed_4 h = rw (lt-leb n (length ps) h)

  module _ (room : n ≤ length ps) where
    full : (k v c : Bool) → (k ≡ true → v ≡ true → c ≡ true → ⊥) → gaps_listed 14 s ≡ list_if true k v c d ps n s
    unfolding list_if
    full false v c h = refl
    full true false c h = refl
    full true true false h = refl
    full true true true h = absurd (h refl refl refl)

    pub listed_14 : min (min (length s.kinds) (length s.values)) (length s.covered) < n - 1 → gaps_listed 14 s ≡ list_gaps d ps n s
    unfolding list_gaps
    listed_14 h =
        rw (le-leb n (length ps) room)
        (full (leb (n - 1) (length s.kinds)) (leb (n - 1) (length s.values)) (leb (n - 1) (length s.covered))
        (λ x y z. omega (arith, leb-true (n - 1) (length s.kinds) x, leb-true (n - 1) (length s.values) y, leb-true (n - 1) (length s.covered) z)))

    pub listed_0 : (t : GapColumns) → n - 1 ≤ length s.kinds → n - 1 ≤ length s.values → n - 1 ≤ length s.covered
        → t ≡ written (gaps_of d (take n ps)) (n - 1) s → gaps_listed 0 t ≡ list_gaps d ps n s
    unfolding list_gaps list_if
    listed_0 t a b c e =
        rw (le-leb n (length ps) room, le-leb (n - 1) (length s.kinds) a, le-leb (n - 1) (length s.values) b, le-leb (n - 1) (length s.covered) c, e)
