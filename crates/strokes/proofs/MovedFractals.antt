-- The fractals of strokes after their rows were moved down, stroke by stroke: they are read as they were.
-- Assumes nothing.
use Prim.Native.Nat.{ℕ, ◌+◌, ◌-◌, ◌≤◌, ◌<◌}
use native.Mathlib.Numerals.{add-one}
use native.Mathlib.Omega.{arith}
use mathlib.Core.Path.{◌≡◌, refl, ap, sym, ◌∙◌, subst}
use mathlib.Core.List.{List, [], ◌∷◌}
use lib.ListN.{length, take, drop, get_or, length-take, drop_of_length-le}
use lib.Seq.{take-take, drop-drop, drop-cons, get_or-take, length-take-le, take_at, drop_at}
use Rattle.bars.specs.Bars.{Merged}
use Rattle.bars.specs.Lists.{copied}
use Rattle.bars.proofs.Moves.{length-copied, take-copied, drop-copied, run_is}
use Rattle.stores.specs.Stores.{zip_with}
use Rattle.stores.proofs.Columns.{zip-copied}
use Rattle.machine.specs.Fractals.{Fractal}
use Rattle.strokes.specs.StateRead.{row_fractal, stored_fractals, stroke_with, strokes_with, total}
use Rattle.strokes.specs.Lent.{FractalStore}
use Rattle.strokes.specs.Code.StrokeSteps.{SizedFractals, Fewer, moved_down, moved_fractals}

-- ---- a column after its rows were moved

module _ {A : Type 0} where
  pub front : (m k : ℕ) (l l' : List A) → m ≤ k → take k l ≡ take k l' → take m l ≡ take m l'
  front m k l l' h e = sym (take-take m k l h) ∙ ap (take m) e ∙ take-take m k l' h

  length_moved : (ns ms : List ℕ) (to b : ℕ) (l : List A) → Fewer ns ms → to + b + total ns ≤ length l → length (moved_down ns ms to b l) ≡ length l
  unfolding moved_down total
  length_moved [] ms to b l h g = refl
  length_moved (n ∷ ns) [] to b l h g = refl
  length_moved (n ∷ ns) (m ∷ ms) to b l h g =
      let f = h.0 in
      let e = length-copied l l to (to + b) m (omega arith) (omega arith) in
      length_moved ns ms (to + n) b (copied l to l (to + b) m) h.1 (omega arith) ∙ e

  -- the rows before the first stroke's stay
  take_moved : (ns ms : List ℕ) (to b : ℕ) (l : List A) → Fewer ns ms → to + b + total ns ≤ length l → take to (moved_down ns ms to b l) ≡ take to l
  unfolding moved_down total
  take_moved [] ms to b l h g = refl
  take_moved (n ∷ ns) [] to b l h g = refl
  take_moved (n ∷ ns) (m ∷ ms) to b l h g =
      let f = h.0 in
      let c = copied l to l (to + b) m in
      let e = length-copied l l to (to + b) m (omega arith) (omega arith) in
      front to (to + n) (moved_down ns ms (to + n) b c) c (omega arith) (take_moved ns ms (to + n) b c h.1 (omega arith))
      ∙ sym (take-take to (to + m) c (omega arith))
      ∙ ap (take to) (take-copied l l to (to + b) m (omega arith) (omega arith))
      ∙ take_at (take to l) (take m (drop (to + b) l)) to (length-take-le to l (omega arith))

  -- the first stroke's are those that stood b places further on, since the later strokes go behind its bars
  first_moved : (ns ms : List ℕ) (n m to b : ℕ) (l : List A) → m ≤ n → Fewer ns ms → to + b + (n + total ns) ≤ length l
      → take m (drop to (moved_down ns ms (to + n) b (copied l to l (to + b) m))) ≡ take m (drop (to + b) l)
  first_moved ns ms n m to b l f h g =
      let c = copied l to l (to + b) m in
      let d = moved_down ns ms (to + n) b c in
      let e = length-copied l l to (to + b) m (omega arith) (omega arith) in
      run_is d to m
      ∙ ap (drop to)
      (front (to + m) (to + n) d c (omega arith) (take_moved ns ms (to + n) b c h (omega arith)) ∙ take-copied l l to (to + b) m (omega arith) (omega arith))
      ∙ drop_at (take to l) (take m (drop (to + b) l)) to (length-take-le to l (omega arith))

  -- the later strokes' rows are still to be moved, and stand as they did
  rest-stays : (n m to b : ℕ) (l : List A) → m ≤ n → to + b + n ≤ length l → drop (to + n + b) (copied l to l (to + b) m) ≡ drop n (drop (to + b) l)
  rest-stays n m to b l f g =
      let c = copied l to l (to + b) m in
      let i : to + n + b ≡ to + m + (n + b - m) = omega arith in
      let j : to + m + (n + b - m) ≡ to + b + n = omega arith in
      ap (λ (x : ℕ). drop x c) i
      ∙ sym (drop-drop (n + b - m) (to + m) c)
      ∙ ap (drop (n + b - m)) (drop-copied l l to (to + b) m (omega arith) (omega arith))
      ∙ drop-drop (n + b - m) (to + m) l
      ∙ ap (λ (x : ℕ). drop x l) j
      ∙ sym (drop-drop n (to + b) l)

-- ---- the strokes that are read of them

pub strokes_moved : (ns ms : List ℕ) (to b : ℕ) (ks : List Merged) (fs : List Fractal) → Fewer ns ms → to + b + total ns ≤ length fs
    → strokes_with ns ms ks (drop to (moved_down ns ms to b fs)) ≡ strokes_with ns ms ks (drop (to + b) fs)
unfolding strokes_with moved_down total
strokes_moved [] ms to b ks fs h g = refl
strokes_moved (n ∷ ns) [] to b ks fs h g = refl
strokes_moved (n ∷ ns) (m ∷ ms) to b ks fs h g =
    let f = h.0 in
    let c = copied fs to fs (to + b) m in
    let d = moved_down ns ms (to + n) b c in
    let e = length-copied fs fs to (to + b) m (omega arith) (omega arith) in
    let a = first_moved ns ms n m to b fs f h.1 g in
    let r =
    ap (strokes_with ns ms (drop n ks)) (drop-drop n to d)
    ∙ strokes_moved ns ms (to + n) b (drop n ks) c h.1 (omega arith)
    ∙ ap (strokes_with ns ms (drop n ks)) (rest-stays n m to b fs f (omega arith)) in
    λ i. stroke_with (a i) (take n ks) ∷ r i

-- two columns moved alike
zip_moved : {A B C : Type 0} (z : A → B → C) (ns ms : List ℕ) (to b : ℕ) (l : List A) (r : List B) → length l ≡ length r → Fewer ns ms → to + b + total ns ≤ length l
    → zip_with z (moved_down ns ms to b l) (moved_down ns ms to b r) ≡ moved_down ns ms to b (zip_with z l r)
unfolding moved_down total
zip_moved z [] ms to b l r e h g = refl
zip_moved z (n ∷ ns) [] to b l r e h g = refl
zip_moved z (n ∷ ns) (m ∷ ms) to b l r e h g =
    let f = h.0 in
    let p = length-copied l l to (to + b) m (omega arith) (omega arith) in
    let q = length-copied r r to (to + b) m (omega arith) (omega arith) in
    zip_moved z ns ms (to + n) b (copied l to l (to + b) m) (copied r to r (to + b) m) (omega arith) h.1 (omega arith)
    ∙ ap (moved_down ns ms (to + n) b) (zip-copied z l l r r to (to + b) m e e)

module _ (ns ms : List ℕ) (b : ℕ) (f : FractalStore) (k : ℕ) (s : SizedFractals f k) (h : Fewer ns ms) (g : b + total ns ≤ k) where
  pub stored_moved : stored_fractals (moved_fractals ns ms b f) ≡ moved_down ns ms 0 b (stored_fractals f)
  unfolding stored_fractals moved_fractals
  stored_moved = zip_moved row_fractal ns ms 0 b f.stamps f.prices (s.stamps ∙ sym s.prices) h (omega (arith, s.stamps))

  pub sized_moved : SizedFractals (moved_fractals ns ms b f) k
  unfolding moved_fractals
  sized_moved =
      record {
        stamps = length_moved ns ms 0 b f.stamps h (omega (arith, s.stamps)) ∙ s.stamps;
        prices = length_moved ns ms 0 b f.prices h (omega (arith, s.prices)) ∙ s.prices;
      }

-- ---- the loop that moves them

-- of a column l: what is left to move gives `end`
pub record LeftToMove {A : Type 0} (ns ms : List ℕ) (to b : ℕ) (l end : List A) : Type 0 where
  pub fewer : Fewer ns ms
  pub room : to + b + total ns ≤ length l
  pub gives : moved_down ns ms to b l ≡ end

-- the next stroke, to go from place to + b to place `to` of a column of n rows
pub record NextFits (ns ms : List ℕ) (k to b n : ℕ) : Type 0 where
  pub fewer : get_or ms k 0 ≤ get_or ns k 0
  pub room : to + b + get_or ns k 0 ≤ n

-- the next of the first n counts
pub counts-next : (l : List ℕ) (n k : ℕ) → n ≤ length l → k < n → drop k (take n l) ≡ get_or l k 0 ∷ drop (k + 1) (take n l)
counts-next l n k h i =
    drop-cons (take n l) k 0 (omega (arith, length-take-le n l h))
    ∙ (λ t. get_or-take n l k 0 i t ∷ drop (sym (add-one k) t) (take n l))

module _ {A : Type 0} (bars fractals : List ℕ) (n k to b : ℕ) (l end : List A) (lb : n ≤ length bars) (lf : n ≤ length fractals) (i : k < n)
    (s : LeftToMove (drop k (take n bars)) (drop k (take n fractals)) to b l end) where
  next : LeftToMove (get_or bars k 0 ∷ drop (k + 1) (take n bars)) (get_or fractals k 0 ∷ drop (k + 1) (take n fractals)) to b l end
  next =
      subst (λ (x : List ℕ). LeftToMove (get_or bars k 0 ∷ drop (k + 1) (take n bars)) x to b l end) (counts-next fractals n k lf i)
      (subst (λ (x : List ℕ). LeftToMove x (drop k (take n fractals)) to b l end) (counts-next bars n k lb i) s)

  pub next_fits : NextFits bars fractals k to b (length l)
  unfolding total
  next_fits = let s = next in let r = s.room in record { fewer = s.fewer.0; room = omega arith }

  pub move-turn : (l' : List A) (m x : ℕ) → l' ≡ copied l to l (to + b) m → m ≡ get_or fractals k 0 → x ≡ get_or bars k 0
      → LeftToMove (drop (k + 1) (take n bars)) (drop (k + 1) (take n fractals)) (to + x) b l' end
  unfolding total moved_down
  move-turn l' m x e p q =
      let s = next in
      let f = s.fewer.0 in
      let r = s.room in
      let c = length-copied l l to (to + b) (get_or fractals k 0) (omega arith) (omega arith) in
      rw (e, p, q) (record { fewer = s.fewer.1; room = omega arith; gives = s.gives })

pub move-end : {A : Type 0} (bars fractals : List ℕ) (n k to b : ℕ) (l end : List A) → n ≤ k → LeftToMove (drop k (take n bars)) (drop k (take n fractals)) to b l end → l ≡ end
unfolding moved_down
move-end bars fractals n k to b l end h s =
    let e : drop k (take n bars) ≡ [] = drop_of_length-le (take n bars) {i = k} (omega (arith, length-take n bars)) in
    ap (λ (x : List ℕ). moved_down x (drop k (take n fractals)) to b l) (sym e) ∙ s.gives
