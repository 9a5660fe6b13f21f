-- What the search for elements among the raw times cites, and the count-down of a sum. Assumes nothing.
use Prim.Native.Nat.{ℕ, zero, suc, ◌+◌, ◌-◌, ◌≤◌, ◌<◌, min}
use native.Mathlib.Omega.{arith}
use mathlib.Core.Path.{◌≡◌, refl, ap, sym, ◌∙◌, subst}
use mathlib.Core.Bool.{Bool, true, false, ◌&&◌, ◌||◌}
use mathlib.Core.List.{List, [], ◌∷◌}
use mathlib.Core.Option.{some}
use mathlib.Core.Logic.{◌⊎◌, inl, inr}
use lib.ListN.{length, take, drop, get_or, length-take, length-drop, drop_of_length-le}
use Rattle.std.specs.List.{starts_with}
use Rattle.std.specs.Ordering.{int_eq}
use Rattle.std.specs.Cmp.Rules.{signed_items}
use lib.Seq.{drop-cons, get_or-drop, get_or-take, length-take-le, take_all}
use lib.IntN.{ℤ, pos}
use lib.Signed.{lt_z, le_z}
use lib.Dec.{T, eqb, eqb→eq, leb, ltb, leb→le, le→leb, leb-suc-suc, T_not, ltb→lt}
use lib.Ieee.Fits.{and_l, and_r}
use borrow.Author.Tests.{eq-eqb, le-leb, lt-leb}
use Rattle.arith.proofs.FloatOrder.{lt-or_ge, or_l, or_r}
use Rattle.bars.specs.Lists.{every, some_of, last}
use Rattle.stores.specs.Stores.{zip_with}
use Rattle.stores.specs.Code.StoreRows.{rising, place_of, next_if}
use Rattle.stores.proofs.Searching.{place_at, rising-tail}
use Rattle.stores.proofs.Columns.{zip-at, zip_length}
use Rattle.bars.proofs.Times.{le_refl, lt_trans, lt_not_le, le_antisym, not-lt-le}
use mir.Syntax.{w64}
use mir.Val.{SFits, to_z, of_z}
use mir.ValLaws.{to_z-of_z}
use Rattle.arith.proofs.Tests.{and_false, yes, no, holds, fails, pair, same}
use Rattle.machine.specs.Soundness.{same_time, ends_on}
use Rattle.strokes.specs.StateRead.{total}
use Rattle.sound.specs.Code.SoundStand.{at_place, is_time, named_rows, ends_in, newest_row}

-- ---- a time at its place

same-time : (t u : ℤ) → T (same_time t u) → t ≡ u
unfolding same_time
same-time t u h = le_antisym t u (and_l (le_z t u) (le_z u t) h) (and_r (le_z t u) (le_z u t) h)

-- two times in 64 bits are the same where their bits are
pub same_bits : (t u : ℤ) → SFits w64 t → SFits w64 u → eqb (of_z w64 t) (of_z w64 u) ≡ same_time t u
unfolding same_time
same_bits t u f g =
    same (eqb (of_z w64 t) (of_z w64 u)) (same_time t u)
    (λ h.
    let e : t ≡ u = sym (to_z-of_z w64 t f) ∙ ap (to_z w64) (eqb→eq (of_z w64 t) (of_z w64 u) h) ∙ to_z-of_z w64 u g in
    subst (λ (z : ℤ). T (same_time t z)) e (pair (le_z t t) (le_z t t) (le_refl t) (le_refl t)))
    (λ h. subst (λ (z : ℤ). T (eqb (of_z w64 t) (of_z w64 z))) (same-time t u h) (holds (eq-eqb (of_z w64 t) (of_z w64 t) refl)))

later_differs : (t u : ℤ) → lt_z t u ≡ true → same_time t u ≡ false
unfolding same_time
later_differs t u e = rw (no (le_z u t) (lt_not_le u t (holds e))) (and_false (le_z t u))

earlier_differs : (t u : ℤ) → lt_z u t ≡ true → same_time t u ≡ false
unfolding same_time
earlier_differs t u e = rw (no (le_z t u) (lt_not_le t u (holds e)))

-- what is found at a place is the place that is sought
pub at-place : (ts : List ℤ) (p : ℕ) (t : ℤ) → T (rising ts) → at_place ts p t ≡ true → p ≡ place_of t ts
unfolding at_place
at-place ts p t r e =
    let h = subst T (sym e) tt in
    let k = and_l (ltb p (length ts)) (same_time (get_or ts p (pos 0)) t) h in
    let q = same-time (get_or ts p (pos 0)) t (and_r (ltb p (length ts)) (same_time (get_or ts p (pos 0)) t) h) in
    sym (place_at ts p r (ltb→lt p (length ts) k)) ∙ ap (λ (u : ℤ). place_of u ts) q

-- no later time is t
none-later : (t a : ℤ) (l : List ℤ) → T (rising (a ∷ l)) → lt_z t a ≡ true → is_time l t ≡ false
unfolding is_time some_of rising
none-later t a [] r e = refl
none-later t a (b ∷ l) r e =
    let f : lt_z t b ≡ true = yes (lt_z t b) (lt_trans t a b (holds e) (and_l (lt_z a b) (rising (b ∷ l)) r)) in
    rw (earlier_differs b t f) (none-later t b l (and_r (lt_z a b) (rising (b ∷ l)) r) f)

-- t is not after a and not a: it is before
before_it : (a t : ℤ) → lt_z a t ≡ false → same_time a t ≡ false → lt_z t a ≡ true
unfolding same_time
before_it a t e f = by (lt_z t a) refl
  where
    by : (b : Bool) → lt_z t a ≡ b → lt_z t a ≡ true
    by true g = g
    by false g =
        let x = yes (le_z a t) (not-lt-le t a (fails g)) in
        let y = yes (le_z t a) (not-lt-le a t (fails e)) in
        absurd (T_not (le_z a t && le_z t a) (fails f) (rw (x, y) tt))

none_after : (a : ℤ) (l : List ℤ) (t : ℤ) → T (rising (a ∷ l)) → lt_z a t ≡ false → same_time a t ≡ false → some_of (λ u. same_time u t) l ≡ false
unfolding is_time
none_after a l t r e f = none-later t a l r (before_it a t e f)

none_here : (t : ℤ) → at_place [] 0 t ≡ is_time [] t
unfolding at_place is_time some_of
none_here t = refl

goes_on : (a : ℤ) (l : List ℤ) (t : ℤ) (p : ℕ) → lt_z a t ≡ true → at_place l p t ≡ is_time l t → at_place (a ∷ l) (next_if true p) t ≡ is_time (a ∷ l) t
unfolding at_place is_time some_of next_if
goes_on a l t p e f = rw (later_differs a t e, leb-suc-suc (suc p) (length l)) f

stands : (a : ℤ) (l : List ℤ) (t : ℤ) (p : ℕ) → T (rising (a ∷ l)) → lt_z a t ≡ false → at_place (a ∷ l) (next_if false p) t ≡ is_time (a ∷ l) t
unfolding at_place is_time some_of next_if
stands a l t p r e = rw (le-leb 1 (suc (length l)) (omega arith)) (by (same_time a t) refl)
  where
    by : (b : Bool) → same_time a t ≡ b → same_time a t ≡ (same_time a t || some_of (λ u. same_time u t) l)
    by true f = rw f
    by false f = rw (f, none_after a l t r e f)

-- a time is one of those that rise where it stands at its place
pub place-named : (ts : List ℤ) (t : ℤ) → T (rising ts) → at_place ts (place_of t ts) t ≡ is_time ts t
unfolding place_of
place-named [] t r = none_here t
place-named (a ∷ l) t r = by (place-named l t (rising-tail a l r)) (lt_z a t) refl
  where
    by : at_place l (place_of t l) t ≡ is_time l t → (b : Bool) → lt_z a t ≡ b → at_place (a ∷ l) (next_if (lt_z a t) (place_of t l)) t ≡ is_time (a ∷ l) t
    by f true e = rw e (goes_on a l t (place_of t l) e f)
    by f false e = rw e (stands a l t (place_of t l) r e)

-- ---- the elements of a row

-- what stands at the place of t is t where t is one of the times
pub named_at : (ts : List ℤ) (t : ℤ) (p : ℕ) (x : Bool) → T (rising ts) → p ≡ place_of t ts → x ≡ at_place ts p t → x ≡ is_time ts t
named_at ts t p x r e f = f ∙ ap (λ (q : ℕ). at_place ts q t) e ∙ place-named ts t r

drop_all : {A : Type 0} (l : List A) (j : ℕ) → length l ≤ j → drop j l ≡ []
drop_all l j h = drop_of_length-le l h

-- no more than all elements are read
take-least : {A : Type 0} (l : List A) (count n : ℕ) → n ≡ min count (length l) → take n l ≡ take count l
take-least {A} l count n e = by (lt-or_ge count (length l))
  where
    by : (count < length l) ⊎ (length l ≤ count) → take n l ≡ take count l
    by (inl h) = let k : n ≡ count = omega arith in ap (λ (m : ℕ). take m l) k
    by (inr h) = let k : length l ≤ n = omega arith in take_all n l k ∙ sym (take_all count l h)

pub row-each : (ts row : List ℤ) (count n : ℕ) (x : Bool) → n ≡ min count (length row) → x ≡ every (is_time ts) (take n row) → x ≡ every (is_time ts) (take count row)
row-each ts row count n x e f = f ∙ ap (every (is_time ts)) (take-least row count n e)

-- ---- elements that follow one another

-- what stands among the times is one of them
time-at : (ts : List ℤ) (p : ℕ) (t : ℤ) → p < length ts → T (same_time (get_or ts p (pos 0)) t) → T (is_time ts t)
unfolding is_time some_of
time-at [] p t h k = absurd (omega arith)
time-at (a ∷ ts) zero t h k = or_l (same_time a t) (some_of (λ u. same_time u t) ts) k
time-at (a ∷ ts) (suc p) t h k = or_r (same_time a t) (some_of (λ u. same_time u t) ts) (time-at ts p t (omega arith) k)

every_by : {A : Type 0} (p : A → Bool) (v : List A) (z : A) → ((i : ℕ) → i < length v → T (p (get_or v i z))) → T (every p v)
unfolding every
every_by p [] z h = tt
every_by p (a ∷ v) z h = pair (p a) (every p v) (h 0 (omega arith)) (every_by p v z (λ i k. h (suc i) (omega arith)))

-- so are the times from a place on
part_named : (ts : List ℤ) (from m n : ℕ) → T (every (is_time ts) (take n (take m (drop from ts))))
unfolding same_time
part_named ts from m n =
    let v = take n (take m (drop from ts)) in
    every_by (is_time ts) v (pos 0)
    (λ i h.
    let k : i < min n (min m (length ts - from)) = omega (arith, length-take n (take m (drop from ts)), length-take m (drop from ts), length-drop from ts) in
    let e : get_or v i (pos 0) ≡ get_or ts (from + i) (pos 0) = get_or-take n (take m (drop from ts)) i (pos 0) (omega arith) ∙ get_or-take m (drop from ts) i (pos 0) (omega arith) ∙ get_or-drop from ts i (pos 0) in
    let t = get_or v i (pos 0) in
    time-at ts (from + i) t (omega arith)
    (subst (λ (u : ℤ). T (same_time u t)) e (pair (le_z t t) (le_z t t) (le_refl t) (le_refl t))))

-- elements that are the raw times from a place on
pub followed : (ts row : List ℤ) (count n from : ℕ) → n ≡ min count (length row) → true ≡ starts_with int_eq (take (length ts - from) (drop from ts)) (take n row)
    → true ≡ every (is_time ts) (take count row)
followed ts row count n from e h =
    let v = take n row in
    let part = take (length v) (take (length ts - from) (drop from ts)) in
    let is : v ≡ part = (signed_items v part).0 (sym h) in
    row-each ts row count n true e (sym (yes (every (is_time ts) v) (subst (λ (l : List ℤ). T (every (is_time ts) l)) (sym is) (part_named ts from (length ts - from) (length v)))))

-- ---- the elements of all rows

module _ (ts : List ℤ) (cs : List ℕ) (es : List (List ℤ)) (i : ℕ) (x v : Bool) (h : i < length cs) (q : length cs ≡ length es) (e : x ≡ every (is_time ts) (take (get_or cs i 0) (get_or es i [])))
    (g : named_rows ts (drop i cs) (drop i es) ≡ v) where
  row_first : (x && named_rows ts (drop (i + 1) cs) (drop (i + 1) es)) ≡ v
  unfolding named_rows zip_with every
  row_first =
      let c : i + 1 ≡ suc i = omega arith in
      let k : i < length es = omega arith in
      let d : named_rows ts (drop i cs) (drop i es) ≡ (every (is_time ts) (take (get_or cs i 0) (get_or es i [])) && named_rows ts (drop (i + 1) cs) (drop (i + 1) es)) =
      rw (c, drop-cons cs i 0 h, drop-cons es i [] k) in
      ap (λ (y : Bool). y && named_rows ts (drop (i + 1) cs) (drop (i + 1) es)) e ∙ sym d ∙ g

  pub rows_on : x ≡ true → named_rows ts (drop (i + 1) cs) (drop (i + 1) es) ≡ v
  rows_on t = sym (ap (λ (y : Bool). y && named_rows ts (drop (i + 1) cs) (drop (i + 1) es)) t) ∙ row_first

  pub rows_stop : x ≡ false → false ≡ v
  rows_stop t = sym (ap (λ (y : Bool). y && named_rows ts (drop (i + 1) cs) (drop (i + 1) es)) t) ∙ row_first

pub rows_end : (ts : List ℤ) (cs : List ℕ) (es : List (List ℤ)) (i : ℕ) (v : Bool) → length cs ≤ i → named_rows ts (drop i cs) (drop i es) ≡ v → true ≡ v
unfolding named_rows zip_with every
rows_end ts cs es i v h g = sym (ap (λ (c : List ℕ). every (every (is_time ts)) (zip_with take c (drop i es))) (drop_all cs i h)) ∙ g

-- ---- the newest raw time

pub last-at : {A : Type 0} (l : List A) (z : A) → 0 < length l → last l ≡ some (get_or l (length l - 1) z)
unfolding last
last-at [] z h = absurd (omega arith)
last-at (a ∷ []) z h = refl
last-at (a ∷ b ∷ l) z h =
    let c : length (a ∷ b ∷ l) - 1 ≡ suc (length (b ∷ l) - 1) = omega arith in
    rw c (last-at (b ∷ l) z (omega arith))

pub last_none : (t : ℤ) (row : List ℤ) (count n : ℕ) → n ≡ min count (length row) → n ≡ 0 → false ≡ ends_on t (last (take count row))
unfolding ends_on last
last_none t row count n e z = rw (none_left (take count row) (omega (arith, length-take count row)))
  where
    none_left : (l : List ℤ) → length l ≡ 0 → l ≡ []
    none_left [] h = refl
    none_left (a ∷ l) h = absurd (omega arith)

pub last_some : (t : ℤ) (row : List ℤ) (count n : ℕ) (x : Bool) → n ≡ min count (length row) → (n ≡ 0 → ⊥) → x ≡ same_time t (get_or row (n - 1) (pos 0))
    → x ≡ ends_on t (last (take count row))
unfolding ends_on
last_some t row count n x e z f =
    let k : length (take count row) ≡ n = omega (arith, length-take count row) in
    let g : get_or (take count row) (n - 1) (pos 0) ≡ get_or row (n - 1) (pos 0) = get_or-take count row (n - 1) (pos 0) (omega (arith, z)) in
    rw (last-at (take count row) (pos 0) (omega (arith, z)), k, g) f

pub newest-none : (ts : List ℤ) (cs : List ℕ) (es : List (List ℤ)) → length ts ≡ 0 → true ≡ newest_row ts cs es
unfolding newest_row ends_in last
newest-none [] cs es h = refl
newest-none (t ∷ ts) cs es h = absurd (omega arith)

pub newest-empty : (ts : List ℤ) (cs : List ℕ) (es : List (List ℤ)) → (length ts ≡ 0 → ⊥) → length cs ≡ 0 → false ≡ newest_row ts cs es
unfolding newest_row ends_in zip_with last
newest-empty ts [] es h k = rw (last-at ts (pos 0) (omega (arith, h)))
newest-empty ts (c ∷ cs) es h k = absurd (omega arith)

pub newest-at : (ts : List ℤ) (cs : List ℕ) (es : List (List ℤ)) (x : Bool) → (length ts ≡ 0 → ⊥) → (length cs ≡ 0 → ⊥) → length cs ≡ length es
    → x ≡ ends_on (get_or ts (length ts - 1) (pos 0)) (last (take (get_or cs (length cs - 1) 0) (get_or es (length cs - 1) []))) → x ≡ newest_row ts cs es
unfolding newest_row ends_in
newest-at ts cs es x h k q e =
    let n : length (zip_with take cs es) ≡ length cs = zip_length take cs es q in
    rw (last-at ts (pos 0) (omega (arith, h)), last-at (zip_with take cs es) [] (omega (arith, k)), n, zip-at take (length cs - 1) cs es 0 [] [] (omega (arith, k)) (omega (arith, k))) e

-- ---- a sum, counted down

leb_left : (a b n : ℕ) → a ≤ n → leb (a + b) n ≡ leb b (n - a)
leb_left a b n h =
    same (leb (a + b) n) (leb b (n - a)) (λ k. le→leb b (n - a) (omega (arith, leb→le (a + b) n k))) (λ k. le→leb (a + b) n (omega (arith, leb→le b (n - a) k)))

module _ (bars : List ℕ) (n i : ℕ) (len : n ≤ length bars) (h : i < n) where
  pub next-total : total (drop i (take n bars)) ≡ get_or bars i 0 + total (drop (i + 1) (take n bars))
  unfolding total
  next-total =
      let c : i + 1 ≡ suc i = omega arith in
      let k : i < length (take n bars) = omega (arith, length-take-le n bars len) in
      rw (c, drop-cons (take n bars) i 0 k, get_or-take n bars i 0 h)

-- the same of a whole list
module _ (l : List ℕ) (i : ℕ) (h : i < length l) where
  total_next : total (drop i l) ≡ get_or l i 0 + total (drop (i + 1) l)
  unfolding total
  total_next = let c : i + 1 ≡ suc i = omega arith in rw (c, drop-cons l i 0 h)

  pub total-turn : (left : ℕ) (v : Bool) → get_or l i 0 ≤ left → leb (total (drop i l)) left ≡ v → leb (total (drop (i + 1) l)) (left - get_or l i 0) ≡ v
  total-turn left v k e = sym (leb_left (get_or l i 0) (total (drop (i + 1) l)) left k) ∙ ap (λ (t : ℕ). leb t left) (sym total_next) ∙ e

  pub total_stop : (left : ℕ) (v : Bool) → left < get_or l i 0 → leb (total (drop i l)) left ≡ v → false ≡ v
  total_stop left v k e = sym (lt-leb (total (drop i l)) left (omega (arith, total_next))) ∙ e

pub total-end : (l : List ℕ) (i left : ℕ) (v : Bool) → length l ≤ i → leb (total (drop i l)) left ≡ v → true ≡ v
unfolding total
total-end l i left v k e = sym (le-leb 0 left (omega arith)) ∙ ap (λ (x : List ℕ). leb (total x) left) (sym (drop_all l i k)) ∙ e
