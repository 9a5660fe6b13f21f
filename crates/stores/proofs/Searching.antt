-- The place of a time among times that rise: what a binary search leans on, and what stands at the place that it finds. Assumes nothing.
use Prim.Native.Nat.{ℕ, zero, suc, ◌+◌, ◌<◌, ◌≤◌}
use native.Mathlib.Numerals.{one-add}
use mathlib.Core.Bool.{Bool, true, false, not, ◌&&◌, cond}
use mathlib.Core.List.{List, [], ◌∷◌, map}
use mathlib.Core.Logic.{◌⊎◌, inl, inr}
use mathlib.Core.Path.{◌≡◌, refl, ap, sym, ◌∙◌, subst}
use native.Mathlib.Omega.{arith}
use Rattle.std.proofs.lemmas.List.{get_or_default}
use Rattle.std.specs.List.{take_while, prefix_len}
use lib.ListN.{take, length, drop, get_or, length-map}
use lib.IntN.{ℤ, pos}
use lib.Dec.{T}
use lib.Signed.{lt_z, le_z, lt_z_no, ≤ℤ_refl}
use lib.Ieee.Fits.{and_i, and_l, and_r}
use Rattle.arith.proofs.Tests.{yes, holds, no}
use Rattle.arith.proofs.FloatOrder.{lt-or_ge}
use Rattle.bars.specs.Lists.{keep_if, skip_while}
use Rattle.bars.proofs.Times.{lt-le, le_refl, lt_trans, le_not_lt, lt_not_le, le_antisym}
use Rattle.stores.specs.Code.StoreRows.{rising, next_if, place_of}

-- ---- tests of times

-- of two times one of which is before the other, neither is the other, and the other is not before it
not_back : (a b : ℤ) → T (lt_z a b) → le_z b a ≡ false
not_back a b h = no (le_z b a) (lt_not_le b a h)

not-before : (a : ℤ) → lt_z a a ≡ false
not-before a = no (lt_z a a) (le_not_lt a a (le_refl a))

-- ---- times that rise

pub rising-tail : (a : ℤ) (l : List ℤ) → T (rising (a ∷ l)) → T (rising l)
unfolding rising
rising-tail a [] h = tt
rising-tail a (b ∷ l) h = and_r (lt_z a b) (rising (b ∷ l)) h

pub rising_head : (a : ℤ) (l : List ℤ) (i : ℕ) → T (rising (a ∷ l)) → i < length l → T (lt_z a (get_or l i (pos 0)))
unfolding rising
rising_head a [] i h k = let w : ⊥ = omega arith in absurd w
rising_head a (b ∷ l) zero h k = and_l (lt_z a b) (rising (b ∷ l)) h
rising_head a (b ∷ l) (suc i) h k =
    lt_trans a b (get_or l i (pos 0)) (and_l (lt_z a b) (rising (b ∷ l)) h) (rising_head b l i (and_r (lt_z a b) (rising (b ∷ l)) h) (omega arith))

-- ---- the place of a time

next_le : (b : Bool) (p i : ℕ) → p ≤ i → next_if b p ≤ suc i
unfolding next_if
next_le true p i h = omega arith
next_le false p i h = omega arith

pub place-le : (t : ℤ) (l : List ℤ) → place_of t l ≤ length l
unfolding place_of
place-le t [] = omega arith
place-le t (a ∷ l) = next_le (lt_z a t) (place_of t l) (length l) (place-le t l)

-- past every place whose time is before t
pub place_past : (t : ℤ) (l : List ℤ) (i : ℕ) → T (rising l) → i < length l → lt_z (get_or l i (pos 0)) t ≡ true → i < place_of t l
unfolding place_of next_if
place_past t [] i r k e = let w : ⊥ = omega arith in absurd w
place_past t (a ∷ l) zero r k e = rw e (omega arith)
place_past t (a ∷ l) (suc i) r k e =
    let h : lt_z a t ≡ true = yes (lt_z a t) (lt_trans a (get_or l i (pos 0)) t (rising_head a l i r (omega arith)) (holds e)) in
    let g : i < place_of t l = place_past t l i (rising-tail a l r) (omega arith) e in
    rw h (omega arith)

-- not past a place whose time is not before t
pub place_upto : (t : ℤ) (l : List ℤ) (i : ℕ) → i < length l → lt_z (get_or l i (pos 0)) t ≡ false → place_of t l ≤ i
unfolding place_of next_if
place_upto t [] i k e = omega arith
place_upto t (a ∷ l) zero k e = rw e (omega arith)
place_upto t (a ∷ l) (suc i) k e = next_le (lt_z a t) (place_of t l) i (place_upto t l i (omega arith) e)

-- a time of the list stands at its place
pub place_at : (l : List ℤ) (i : ℕ) → T (rising l) → i < length l → place_of (get_or l i (pos 0)) l ≡ i
unfolding place_of next_if
place_at [] i r k = let w : ⊥ = omega arith in absurd w
place_at (a ∷ l) zero r k = rw (not-before a)
place_at (a ∷ l) (suc i) r k = rw (yes (lt_z a (get_or l i (pos 0))) (rising_head a l i r (omega arith))) (ap suc (place_at l i (rising-tail a l r) (omega arith)))

-- the times before t come first, so that a search by halves finds the place
pub early_first : (t : ℤ) (l : List ℤ) (i j : ℕ) (d : ℤ) → T (rising l) → i ≤ j → j < length l → lt_z (get_or l j d) t ≡ true → lt_z (get_or l i d) t ≡ true
early_first t l i j d r h k e = by (lt_z (get_or l i d) t) refl
  where
    same : (m : ℕ) → m < length l → get_or l m d ≡ get_or l m (pos 0)
    same m g = get_or_default l m d (pos 0) g

    by : (b : Bool) → lt_z (get_or l i d) t ≡ b → b ≡ true
    by true q = refl
    by false q =
        let past = place_past t l j r k (rw (← same j k) e) in
        let upto = place_upto t l i (omega arith) (rw (← same i (omega arith)) q) in
        let w : ⊥ = omega arith in
        absurd w

-- the place before which all times are before t, and behind which none is
pub place_by : (t : ℤ) (l : List ℤ) (p : ℕ) → T (rising l) → p ≤ length l
    → ((k : ℕ) → k < p → lt_z (get_or l k (pos 0)) t ≡ true)
    → ((k : ℕ) → p ≤ k → k < length l → lt_z (get_or l k (pos 0)) t ≡ false)
    → p ≡ place_of t l
place_by t l p r fits below above =
    let low : p ≤ place_of t l = from p fits below in
    let high : place_of t l ≤ p = to (lt-or_ge p (length l)) in
    omega arith
  where
    from : (q : ℕ) → q ≤ length l → ((k : ℕ) → k < q → lt_z (get_or l k (pos 0)) t ≡ true) → q ≤ place_of t l
    from zero h g = omega arith
    from (suc q) h g = let past : q < place_of t l = place_past t l q r (omega arith) (g q (omega arith)) in omega arith

    to : (p < length l) ⊎ (length l ≤ p) → place_of t l ≤ p
    to (inl h) = place_upto t l p h (above p (omega arith) h)
    to (inr h) = let k = place-le t l in omega arith

-- how many times before t stand at the front
pub early_count : (t : ℤ) (l : List ℤ) → length (take_while (λ x. lt_z x t) l) ≡ place_of t l
unfolding place_of next_if
early_count t [] = refl
early_count t (a ∷ l) = by (lt_z a t) (early_count t l)
  where
    by : (b : Bool) → length (take_while (λ x. lt_z x t) l) ≡ place_of t l → length (take (cond b (1 + prefix_len (λ x. lt_z x t) l) 0) (a ∷ l)) ≡ next_if b (place_of t l)
    by true e = rw one-add (ap suc e)
    by false e = refl

-- ---- rows that have times

-- a time that is not before t and is not t is after it
after : (a t : ℤ) → lt_z a t ≡ false → (a ≡ t → ⊥) → T (lt_z t a)
after a t e d = by (lt_z t a) refl
  where
    by : (b : Bool) → lt_z t a ≡ b → T b
    by true q = tt
    by false q = d (le_antisym a t (lt_z_no {a = t} {b = a} (subst (λ (b : Bool). T (not b)) (sym q) tt)).le (lt_z_no {a = a} {b = t} (subst (λ (b : Bool). T (not b)) (sym e) tt)).le)

rising_past : (a b : ℤ) (l : List ℤ) → T (rising (a ∷ b ∷ l)) → T (rising (a ∷ l))
unfolding rising
rising_past a b [] h = tt
rising_past a b (c ∷ l) h =
    let k = and_r (lt_z a b) (rising (b ∷ c ∷ l)) h in
    and_i (lt_z a c) (rising (c ∷ l)) (lt_trans a b c (and_l (lt_z a b) (rising (b ∷ c ∷ l)) h) (and_l (lt_z b c) (rising (c ∷ l)) k)) (and_r (lt_z b c) (rising (c ∷ l)) k)

module _ {A : Type 0} (f : A → ℤ) where
  skip_by : (t : ℤ) (a : A) (l : List A) (b : Bool) → skip_while (λ x. lt_z (f x) t) l ≡ drop (place_of t (map f l)) l
      → cond b (skip_while (λ x. lt_z (f x) t) l) (a ∷ l) ≡ drop (next_if b (place_of t (map f l))) (a ∷ l)
  unfolding next_if
  skip_by t a l true e = e
  skip_by t a l false e = refl

  -- the rows that are not before t are those from its place on
  pub place_skip : (t : ℤ) (l : List A) → skip_while (λ x. lt_z (f x) t) l ≡ drop (place_of t (map f l)) l
  unfolding skip_while place_of
  place_skip t [] = refl
  place_skip t (a ∷ l) = skip_by t a l (lt_z (f a) t) (place_skip t l)

  -- whether a row's time is t
  abbrev pub timed : ℤ → A → Bool
  timed t x = le_z (f x) t && le_z t (f x)

  later : (t : ℤ) (l : List A) → T (rising (t ∷ map f l)) → keep_if (timed t) l ≡ []
  unfolding keep_if
  later t [] r = refl
  later t (b ∷ l) r = rw (not_back t (f b) (rising_head t (map f (b ∷ l)) 0 r (omega arith))) (later t l (rising_past t (f b) (map f l) r))

  earlier : (t : ℤ) (a : A) (l : List A) → T (lt_z (f a) t) → keep_if (timed t) (a ∷ l) ≡ keep_if (timed t) l
  unfolding keep_if
  earlier t a l h = rw (yes (le_z (f a) t) (lt-le (f a) t h), not_back (f a) t h)

  map_at : (l : List A) (i : ℕ) (z : A) → i < length l → get_or (map f l) i (pos 0) ≡ f (get_or l i z)
  map_at [] i z k = let w : ⊥ = omega arith in absurd w
  map_at (a ∷ l) zero z k = refl
  map_at (a ∷ l) (suc i) z k = map_at l i z (omega arith)

  -- the row at place i is the only one of its time
  pub named : (l : List A) (i : ℕ) (z : A) → T (rising (map f l)) → i < length l → keep_if (timed (f (get_or l i z))) l ≡ get_or l i z ∷ []
  unfolding keep_if
  named [] i z r k = let w : ⊥ = omega arith in absurd w
  named (a ∷ l) zero z r k = rw (yes (le_z (f a) (f a)) (≤ℤ_refl (f a)).le) (ap (λ (x : List A). a ∷ x) (later (f a) l r))
  named (a ∷ l) (suc i) z r k =
      let h : T (lt_z (f a) (f (get_or l i z))) = rw (← map_at l i z (omega arith)) (rising_head (f a) (map f l) i r (rw length-map (omega arith))) in
      earlier (f (get_or l i z)) a l h ∙ named l i z (rising-tail (f a) (map f l) r) (omega arith)

  nameless_by : (t : ℤ) (a : A) (l : List A) (z : A) (b : Bool) → lt_z (f a) t ≡ b → T (rising (map f (a ∷ l)))
      → (next_if b (place_of t (map f l)) < length (a ∷ l) → f (get_or (a ∷ l) (next_if b (place_of t (map f l))) z) ≡ t → ⊥)
      → ((place_of t (map f l) < length l → f (get_or l (place_of t (map f l)) z) ≡ t → ⊥) → keep_if (timed t) l ≡ [])
      → keep_if (timed t) (a ∷ l) ≡ []
  unfolding next_if rising
  nameless_by t a l z true e r d n = earlier t a l (holds e) ∙ n (λ k q. d (omega (arith, k)) q)
  nameless_by t a l z false e r d n = later t (a ∷ l) (and_i (lt_z t (f a)) (rising (map f (a ∷ l))) (after (f a) t e (d (omega arith))) r)

  -- where the row at its place has another time, or there is no such place, no row has the time t
  pub nameless : (t : ℤ) (l : List A) (z : A) → T (rising (map f l))
      → (place_of t (map f l) < length l → f (get_or l (place_of t (map f l)) z) ≡ t → ⊥)
      → keep_if (timed t) l ≡ []
  unfolding keep_if place_of
  nameless t [] z r d = refl
  nameless t (a ∷ l) z r d = nameless_by t a l z (lt_z (f a) t) refl r d (nameless t l z (rising-tail (f a) (map f l) r))

  kept_by : (b : Bool) (a : A) (l : List A) → (b ≡ true → l ≡ []) → length l ≤ 1 → length (cond b (a ∷ l) l) ≤ 1
  kept_by true a l h k = let e = ap length (h refl) in omega arith
  kept_by false a l h k = k

  -- of rows whose times rise, one at most has the time t
  pub at_most_one : (t : ℤ) (l : List A) → T (rising (map f l)) → length (keep_if (timed t) l) ≤ 1
  unfolding keep_if
  at_most_one t [] r = omega arith
  at_most_one t (a ∷ l) r =
      kept_by (timed t a) a (keep_if (timed t) l)
      (λ e. let h = holds e in
      let q : f a ≡ t = le_antisym (f a) t (and_l (le_z (f a) t) (le_z t (f a)) h) (and_r (le_z (f a) t) (le_z t (f a)) h) in
      subst (λ (u : ℤ). keep_if (timed u) l ≡ []) q (later (f a) l r))
      (at_most_one t l (rising-tail (f a) (map f l) r))
