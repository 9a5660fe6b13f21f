-- What the scans of question 4 cite: flags put together, each element tested, times that rise, and what they say of question 5. Assumes nothing.
use Prim.Native.Nat.{ℕ, zero, suc, ◌+◌, ◌-◌, ◌*◌, ◌/◌, ◌≤◌, ◌<◌}
use borrow.Author.Tests.{le-leb}
use native.Mathlib.Omega.{arith}
use mathlib.Core.Path.{◌≡◌, refl, ap, sym, ◌∙◌}
use mathlib.Core.Bool.{Bool, true, false, not, beq, ◌&&◌}
use mathlib.Core.List.{List, [], ◌∷◌, map}
use lib.ListN.{length, drop, get_or, length-drop}
use lib.Seq.{drop-cons}
use lib.IntN.{ℤ, pos}
use lib.Signed.{lt_z, le_z}
use lib.Dec.{T, T_not}
use lib.Ieee.{Float, nan, inf, fin, eq, is_nan}
use lib.Ieee.Fits.{and_l, and_r}
use Rattle.arith.proofs.Tests.{and_false, and_assoc, and_true, yes, holds, fails, pair, same}
use Rattle.std.specs.List.{list_all, AllAdjacentBelow, IsAllAdjacentAnswer}
use Rattle.arith.proofs.FloatOrder.{eq_refl}
use Rattle.bars.specs.Lists.{every}
use Rattle.stores.specs.Code.StoreRows.{rising}
use Rattle.bars.specs.Questions.{first_time, last_time}
use Rattle.bars.proofs.Times.{lt_trans, lt-le, le_trans}
use Rattle.machine.specs.Soundness.{rises}
use Rattle.sound.specs.Code.SoundStand.{in_time, times_pass, top_row, differ, alternating, middle_times, is_real, ends_held}
use Rattle.strokes.proofs.StoredStates.{rises-rising}

-- ---- each element is tested

module _ {A : Type 0} (p : A → Bool) where
  -- a turn: x is the test of the element at i, ok' the flag with it
  pub every-turn : (v : List A) (i : ℕ) (z : A) (ok ok' x r : Bool) → i < length v → x ≡ p (get_or v i z) → ok' ≡ (ok && x)
      → (ok && every p (drop i v)) ≡ r → (ok' && every p (drop (i + 1) v)) ≡ r
  unfolding every
  every-turn v i z ok ok' x r h e f g =
      let c : i + 1 ≡ suc i = omega arith in
      let d : every p (drop i v) ≡ (p (get_or v i z) && every p (drop (i + 1) v)) = rw (c, drop-cons v i z h) in
      ap (λ (y : Bool). y && every p (drop (i + 1) v)) (f ∙ ap (λ (y : Bool). ok && y) e)
      ∙ sym (and_assoc ok (p (get_or v i z)) (every p (drop (i + 1) v))) ∙ sym (ap (λ (y : Bool). ok && y) d) ∙ g

  -- a turn that goes on only where the element at i passes
  pub every_on : (v : List A) (i : ℕ) (z : A) (x r : Bool) → i < length v → x ≡ p (get_or v i z) → every p (drop i v) ≡ r → x ≡ true → every p (drop (i + 1) v) ≡ r
  every_on v i z x r h e g t = sym (ap (λ (y : Bool). y && every p (drop (i + 1) v)) t) ∙ every-turn v i z true x x r h e refl g

  pub every_stop : (v : List A) (i : ℕ) (z : A) (x r : Bool) → i < length v → x ≡ p (get_or v i z) → every p (drop i v) ≡ r → x ≡ false → false ≡ r
  every_stop v i z x r h e g t = sym (ap (λ (y : Bool). y && every p (drop (i + 1) v)) t) ∙ every-turn v i z true x x r h e refl g

  every-short : (l : List A) → length l ≤ 0 → every p l ≡ true
  unfolding every
  every-short [] h = refl
  every-short (a ∷ l) h = absurd (omega arith)

  pub every-end : (v : List A) (i : ℕ) (ok r : Bool) → length v ≤ i → (ok && every p (drop i v)) ≡ r → ok ≡ r
  every-end v i ok r h g =
      sym (and_true ok) ∙ sym (ap (λ (y : Bool). ok && y) (every-short (drop i v) (omega (arith, length-drop i v)))) ∙ g

  pub every-at : (v : List A) (i : ℕ) (z : A) → T (every p v) → i < length v → T (p (get_or v i z))
  unfolding every
  every-at [] i z h k = absurd (omega arith)
  every-at (a ∷ v) zero z h k = and_l (p a) (every p v) h
  every-at (a ∷ v) (suc i) z h k = every-at v i z (and_r (p a) (every p v) h) (omega arith)

-- the library's word for it
pub all_every : {A : Type 0} (p : A → Bool) (l : List A) → list_all p l ≡ every p l
unfolding every
all_every p [] = refl
all_every p (a ∷ l) = ap (p a &&◌) (all_every p l)

-- a scan that is asked in two ways: by a test that only lets through what passes, and where that fails by the whole test
module _ {A : Type 0} (f : Bool → A → Bool) (p : A → Bool) (above : (x : A) → T (f false x) → T (p x)) (any : (x : A) → f true x ≡ p x) where
  every_above : (l : List A) → T (every (f false) l) → T (every p l)
  unfolding every
  every_above [] h = tt
  every_above (x ∷ l) h = pair (p x) (every p l) (above x (and_l (f false x) (every (f false) l) h)) (every_above l (and_r (f false x) (every (f false) l) h))

  every_any : (l : List A) → every (f true) l ≡ every p l
  unfolding every
  every_any [] = refl
  every_any (x ∷ l) = λ i. any x i && every_any l i

  pub above_all : (l : List A) (r : Bool) → r ≡ every (f false) l → r ≡ true → true ≡ every p l
  above_all l r e t = sym (yes (every p l) (every_above l (holds (sym e ∙ t))))

  pub any-all : (l : List A) (r : Bool) → r ≡ every (f true) l → r ≡ every p l
  any-all l r e = e ∙ every_any l

-- ---- neighbours

-- what the library says of all neighbours, as a recursion on the list
module _ {A : Type 0} (t : A → A → Bool) (f : List A → Bool) (none : f [] ≡ true) (one : (a : A) → f (a ∷ []) ≡ true) (more : (a b : A) (l : List A) → f (a ∷ b ∷ l) ≡ (t a b && f (b ∷ l))) where
  on : (a b : A) (l : List A) (k : ℕ) (d : A) → t (get_or (a ∷ b ∷ l) (suc k) d) (get_or (a ∷ b ∷ l) (suc k + 1) d) ≡ t (get_or (b ∷ l) k d) (get_or (b ∷ l) (k + 1) d)
  on a b l k d = let e : suc k + 1 ≡ suc (k + 1) = omega arith in ap (λ (m : ℕ). t (get_or (b ∷ l) k d) (get_or (a ∷ b ∷ l) m d)) e

  each_neighbour : (l : List A) → AllAdjacentBelow (λ x y. true ≡ t x y) l (length l) → true ≡ f l
  each_neighbour [] h = sym none
  each_neighbour (a ∷ []) h = sym (one a)
  each_neighbour (a ∷ b ∷ l) h = (λ i. h 0 a (omega arith) i && each_neighbour (b ∷ l) (λ k d g. h (suc k) d (omega (arith, g)) ∙ on a b l k d) i) ∙ sym (more a b l)

  some_neighbour : (l : List A) (k : ℕ) → k + 1 < length l → ((d : A) → false ≡ t (get_or l k d) (get_or l (k + 1) d)) → false ≡ f l
  some_neighbour [] k h e = absurd (omega arith)
  some_neighbour (a ∷ []) k h e = absurd (omega arith)
  some_neighbour (a ∷ b ∷ l) zero h e = (λ i. e a i && f (b ∷ l)) ∙ sym (more a b l)
  some_neighbour (a ∷ b ∷ l) (suc k) h e = sym (and_false (t a b)) ∙ ap (t a b &&◌) (some_neighbour (b ∷ l) k (omega arith) (λ d. e d ∙ on a b l k d)) ∙ sym (more a b l)

  pub neighbours : (l : List A) (r : Bool) → IsAllAdjacentAnswer (λ x y b. b ≡ t x y) l r → r ≡ f l
  neighbours l true h = each_neighbour l h
  neighbours l false h = some_neighbour l h.0 h.1 h.2

-- ---- times that rise

pub rising-neighbours : (l : List ℤ) (r : Bool) → IsAllAdjacentAnswer (λ x y b. b ≡ lt_z x y) l r → r ≡ rising l
unfolding rising
rising-neighbours = neighbours lt_z rising refl (λ a. refl) (λ a b l. refl)

every-later : (a b : ℤ) (l : List ℤ) → T (lt_z a b) → T (every (λ u. lt_z b u) l) → T (every (λ u. lt_z a u) l)
unfolding every
every-later a b [] h k = tt
every-later a b (u ∷ l) h k =
    pair (lt_z a u) (every (λ u. lt_z a u) l) (lt_trans a b u h (and_l (lt_z b u) (every (λ u. lt_z b u) l) k))
    (every-later a b l h (and_r (lt_z b u) (every (λ u. lt_z b u) l) k))

-- to compare each time with the next one is to compare it with all that follow
pub rising-rises : (l : List ℤ) → T (rising l) → T (rises l)
unfolding rising rises every
rising-rises [] h = tt
rising-rises (a ∷ []) h = tt
rising-rises (a ∷ b ∷ l) h =
    let x = and_l (lt_z a b) (rising (b ∷ l)) h in
    let k = rising-rises (b ∷ l) (and_r (lt_z a b) (rising (b ∷ l)) h) in
    pair (every (λ u. lt_z a u) (b ∷ l)) (rises (b ∷ l)) (pair (lt_z a b) (every (λ u. lt_z a u) l) x (every-later a b l x (and_l (every (λ u. lt_z b u) l) (rises l) k))) k

pub rises-is : (l : List ℤ) → rising l ≡ rises l
rises-is l = same (rising l) (rises l) (rising-rises l) (rises-rising l)

-- the middle times, read off the rows
middles-rising : List (List ℤ) → Bool
middles-rising v = rising (middle_times v)

pub middle-neighbours : (v : List (List ℤ)) (r : Bool) → IsAllAdjacentAnswer (λ (x y : List ℤ) b. b ≡ lt_z (get_or x 1 (pos 0)) (get_or y 1 (pos 0))) v r → r ≡ rises (middle_times v)
unfolding middles-rising middle_times rising
middle-neighbours v r h = neighbours (λ x y. lt_z (get_or x 1 (pos 0)) (get_or y 1 (pos 0))) middles-rising refl (λ a. refl) (λ a b l. refl) v r h ∙ rises-is (middle_times v)

-- ---- marks

-- marks that alternate: top is the mark before place i
pub alternating-start : (v l : List (List Float)) (p : List Float) (top : Bool) → top ≡ top_row p → v ≡ p ∷ l → alternating (top ∷ map top_row l) ≡ alternating (map top_row v)
alternating-start v l p top e h = ap (λ (t : Bool). alternating (t ∷ map top_row l)) e ∙ sym (ap (λ (w : List (List Float)). alternating (map top_row w)) h)

pub unlike : (a b : Bool) → not (beq a b) ≡ differ a b
unfolding differ
unlike true true = refl
unlike true false = refl
unlike false true = refl
unlike false false = refl

pub alternating-turn : (v : List (List Float)) (i : ℕ) (top next ok ok' x r : Bool) → i < length v → next ≡ top_row (get_or v i []) → x ≡ differ top next → ok' ≡ (ok && x)
    → (ok && alternating (top ∷ map top_row (drop i v))) ≡ r → (ok' && alternating (next ∷ map top_row (drop (i + 1) v))) ≡ r
unfolding alternating
alternating-turn v i top next ok ok' x r h e d f g =
    let c : i + 1 ≡ suc i = omega arith in
    let k : alternating (top ∷ map top_row (drop i v)) ≡ (differ top next && alternating (next ∷ map top_row (drop (i + 1) v))) = rw (c, drop-cons v i [] h, e) in
    ap (λ (y : Bool). y && alternating (next ∷ map top_row (drop (i + 1) v))) (f ∙ ap (λ (y : Bool). ok && y) d)
    ∙ sym (and_assoc ok (differ top next) (alternating (next ∷ map top_row (drop (i + 1) v)))) ∙ sym (ap (λ (y : Bool). ok && y) k) ∙ g

alternating-one : (top : Bool) (l : List (List Float)) → length l ≤ 0 → alternating (top ∷ map top_row l) ≡ true
unfolding alternating
alternating-one top [] h = refl
alternating-one top (a ∷ l) h = absurd (omega arith)

pub alternating-few : (v : List (List Float)) → length v < 2 → true ≡ alternating (map top_row v)
unfolding alternating
alternating-few [] h = refl
alternating-few (a ∷ l) h = sym (alternating-one (top_row a) l (omega arith))

pub alternating-end : (v : List (List Float)) (i : ℕ) (top ok r : Bool) → length v ≤ i → (ok && alternating (top ∷ map top_row (drop i v))) ≡ r → ok ≡ r
alternating-end v i top ok r h g =
    sym (and_true ok) ∙ sym (ap (λ (y : Bool). ok && y) (alternating-one top (drop i v) (omega (arith, length-drop i v)))) ∙ g

-- a number is the same as itself
pub no_nan : (x : Float) → not (is_nan x) ≡ eq x x
unfolding eq is_nan
no_nan nan = refl
no_nan (inf true) = refl
no_nan (inf false) = refl
no_nan (fin s m e) = sym (yes (eq (fin s m e) (fin s m e)) (eq_refl (fin s m e) tt))

-- both ends
pub held_none : (v : List (List Float)) → length v ≡ 0 → false ≡ ends_held v
unfolding ends_held
held_none v h = rw h

pub held_one : (v : List (List Float)) (x : Bool) → length v ≡ 1 → x ≡ is_real (get_or v 0 []) → x ≡ ends_held v
unfolding ends_held
held_one v x h e = rw h (e ∙ twice (is_real (get_or v 0 [])))
  where
    twice : (b : Bool) → b ≡ (b && b)
    twice true = refl
    twice false = refl

pub held_more : (v : List (List Float)) (x y z : Bool) → 1 ≤ length v → x ≡ is_real (get_or v 0 []) → y ≡ is_real (get_or v (2 * (length v / 2) - 1) []) → z ≡ (x && y) → z ≡ ends_held v
unfolding ends_held
held_more v x y z h e f g = rw (le-leb 1 (length v) h) (g ∙ (λ j. e j && f j))

-- ---- question 5 of times that rise

in_time_lem : (t : ℤ) → T (le_z first_time t) → T (le_z t last_time) → T (in_time t)
unfolding in_time
in_time_lem t f k = pair (le_z first_time t) (le_z t last_time) f k

not-early : (t : ℤ) → T (in_time t) → T (le_z first_time t)
unfolding in_time
not-early t h = and_l (le_z first_time t) (le_z t last_time) h

not_late : (t : ℤ) → T (in_time t) → T (le_z t last_time)
unfolding in_time
not_late t h = and_r (le_z first_time t) (le_z t last_time) h

up_to : (a : ℤ) (l : List ℤ) → T (le_z first_time a) → T (every (λ u. lt_z a u) l) → T (rises l) → T (le_z (get_or (a ∷ l) (length l) (pos 0)) last_time)
    → T (every in_time (a ∷ l))
unfolding every rises
up_to a [] f h r k = pair (in_time a) true (in_time_lem a f k) tt
up_to a (b ∷ l) f h r k =
    let x = and_l (lt_z a b) (every (λ u. lt_z a u) l) h in
    let fb = le_trans first_time a b f (lt-le a b x) in
    let g = up_to b l fb (and_l (every (λ u. lt_z b u) l) (rises l) r) (and_r (every (λ u. lt_z b u) l) (rises l) r) k in
    let hb = not_late b (and_l (in_time b) (every in_time l) g) in
    pair (in_time a) (every in_time (b ∷ l)) (in_time_lem a f (le_trans a b last_time (lt-le a b x) hb)) g

pub times_pass-none : (l : List ℤ) → length l ≡ 0 → true ≡ times_pass l
unfolding times_pass rises every
times_pass-none [] h = refl
times_pass-none (a ∷ l) h = absurd (omega arith)

-- the first or the last is outside
pub times-outside : (l : List ℤ) → 0 < length l → (in_time (get_or l 0 (pos 0)) && in_time (get_or l (length l - 1) (pos 0))) ≡ false → false ≡ times_pass l
unfolding times_pass
times-outside l h e =
    let a = in_time (get_or l 0 (pos 0)) in
    let b = in_time (get_or l (length l - 1) (pos 0)) in
    same false (times_pass l) (λ w. absurd w)
    (λ k.
    let each = and_r (rises l) (every in_time l) k in
    T_not (a && b) (fails e) (pair a b (every-at in_time l 0 (pos 0) each h) (every-at in_time l (length l - 1) (pos 0) each (omega (arith, h)))))

pub times-inside : (l : List ℤ) → 0 < length l → (in_time (get_or l 0 (pos 0)) && in_time (get_or l (length l - 1) (pos 0))) ≡ true → rises l ≡ times_pass l
unfolding times_pass rises
times-inside [] h e = absurd (omega arith)
times-inside (a ∷ l) h e =
    let q : length (a ∷ l) - 1 ≡ length l = omega arith in
    let g = rw q at e in
    let first = in_time a in
    let last = in_time (get_or (a ∷ l) (length l) (pos 0)) in
    same (rises (a ∷ l)) (rises (a ∷ l) && every in_time (a ∷ l))
    (λ r. pair (rises (a ∷ l)) (every in_time (a ∷ l)) r
    (up_to a l (not-early a (and_l first last (holds g))) (and_l (every (λ u. lt_z a u) l) (rises l) r) (and_r (every (λ u. lt_z a u) l) (rises l) r)
    (not_late (get_or (a ∷ l) (length l) (pos 0)) (and_r first last (holds g)))))
    (λ r. and_l (rises (a ∷ l)) (every in_time (a ∷ l)) r)
