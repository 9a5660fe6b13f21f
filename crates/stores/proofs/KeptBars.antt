-- The first n bars of a store of raw bars, looked up by their times: what the place that find_time answers says of them. Assumes nothing.
use Prim.Native.Nat.{ℕ, zero, suc, ◌<◌, ◌≤◌}
use mathlib.Core.Bool.{Bool, true, false, ◌&&◌}
use mathlib.Core.List.{List, [], ◌∷◌, map, append-nil}
use mathlib.Core.Path.{◌≡◌, refl, ap, sym, ◌∙◌, subst}
use native.Mathlib.Omega.{arith}
use lib.ListN.{length, take, drop, get_or}
use lib.Seq.{get_or-take, length-take-le}
use lib.IntN.{ℤ, pos}
use lib.Dec.{T}
use lib.Signed.{lt_z, le_z, lt_z_yes, <ℤ_irrefl}
use Rattle.std.specs.Prelude.{Some, None}
use Rattle.std.specs.Option.{option_to_list}
use Rattle.arith.proofs.FloatOrder.{no}
use Rattle.bars.proofs.Times.{not-lt-le, le_antisym}
use Rattle.bars.specs.Merging.{at_times}
use Rattle.bars.specs.declared.Bar.{Bar}
use Rattle.bars.specs.Lists.{keep_if, skip_while}
use Rattle.stores.specs.Stores.{RawStore, raw_bars, bar_of}
use Rattle.stores.specs.Code.StoreRows.{SizedRaw, bar_at, rising, next_if, place_of}
use Rattle.stores.proofs.Columns.{raw-times, raw-length, raw_at}
use Rattle.stores.proofs.Searching.{place_at, place_skip, named, nameless}

-- what stands at a time's place is not before it
not_past_by : (t a : ℤ) (l : List ℤ) (b : Bool) → lt_z a t ≡ b → (place_of t l < length l → lt_z (get_or l (place_of t l) (pos 0)) t ≡ false) → next_if b (place_of t l) < length (a ∷ l)
    → lt_z (get_or (a ∷ l) (next_if b (place_of t l)) (pos 0)) t ≡ false
unfolding next_if
not_past_by t a l true e r h = r (omega arith)
not_past_by t a l false e r h = e

not_past : (t : ℤ) (l : List ℤ) → place_of t l < length l → lt_z (get_or l (place_of t l) (pos 0)) t ≡ false
unfolding place_of
not_past t [] h = let w : ⊥ = omega arith in absurd w
not_past t (a ∷ l) h = not_past_by t a l (lt_z a t) refl (not_past t l) h

pub map-take : {A B : Type 0} (f : A → B) (n : ℕ) (l : List A) → map f (take n l) ≡ take n (map f l)
map-take f zero l = refl
map-take f (suc n) [] = refl
map-take f (suc n) (a ∷ l) = ap (λ r. f a ∷ r) (map-take f n l)

module _ (s : RawStore) (n k : ℕ) (h : SizedRaw s k) (fits : n ≤ k) where
  pub kept-times : map (λ b. b.time) (take n (raw_bars s)) ≡ take n s.times
  kept-times = map-take (λ b. b.time) n (raw_bars s) ∙ ap (take n) (raw-times s k h)

  pub kept-length : length (take n (raw_bars s)) ≡ n
  kept-length = length-take-le n (raw_bars s) (rw (raw-length s k h) fits)

  -- the bars that are not earlier than t are those from its place on
  pub kept_from : (t : ℤ) → skip_while (λ b. lt_z b.time t) (take n (raw_bars s)) ≡ drop (place_of t (take n s.times)) (take n (raw_bars s))
  kept_from t = place_skip (λ b. b.time) t (take n (raw_bars s)) ∙ ap (λ (l : List ℤ). drop (place_of t l) (take n (raw_bars s))) kept-times

  kept-bar : (i : ℕ) (z : Bar) → i < n → get_or (take n (raw_bars s)) i z ≡ bar_at s i
  kept-bar i z g = get_or-take n (raw_bars s) i z g ∙ raw_at s i z (record { times = omega (arith, h.times); ids = omega (arith, h.ids); prices = omega (arith, h.prices) })

  module _ (rises : T (rising (take n s.times))) where
    bars-rise : T (rising (map (λ b. b.time) (take n (raw_bars s))))
    bars-rise = rw kept-times rises

    -- a kept bar stands at the place of its time
    pub kept-place : (i : ℕ) → i < n → place_of (get_or s.times i (pos 0)) (take n s.times) ≡ i
    kept-place i g =
        let e : length (take n s.times) ≡ n = length-take-le n s.times (rw h.times fits) in
        ap (λ (t : ℤ). place_of t (take n s.times)) (sym (get_or-take n s.times i (pos 0) g)) ∙ place_at (take n s.times) i rises (omega arith)

    -- and is the only one of that time
    pub kept-named : (i : ℕ) → i < n → keep_if (λ b. le_z b.time (bar_at s i).time && le_z (bar_at s i).time b.time) (take n (raw_bars s)) ≡ bar_at s i ∷ []
    kept-named i g =
        let l = take n (raw_bars s) in
        let b = bar_at s i in
        let inside : i < length l = rw kept-length g in
        subst (λ (x : Bar). keep_if (λ y. le_z y.time x.time && le_z x.time y.time) l ≡ x ∷ []) (kept-bar i b g) (named (λ x. x.time) l i b bars-rise inside)

    -- where the bar at the place of t has another time, or there is none, no kept bar has the time t
    pub kept_nameless : (t : ℤ) → (place_of t (take n s.times) < n → (bar_at s (place_of t (take n s.times))).time ≡ t → ⊥)
        → keep_if (λ b. le_z b.time t && le_z t b.time) (take n (raw_bars s)) ≡ []
    kept_nameless t d =
        let l = take n (raw_bars s) in
        let p = place_of t (take n s.times) in
        let b = bar_at s p in
        let other : p < length l → (get_or l p b).time ≡ t → ⊥ = λ g q. let i : p < n = rw kept-length at g in d i (sym (ap (λ (x : Bar). x.time) (kept-bar p b i)) ∙ q) in
        nameless (λ x. x.time) t l b bars-rise (rw kept-times other)

    -- the bar of a time, by what stands at its place
    module _ (t : ℤ) (p : ℕ) (place : p ≡ place_of t (take n s.times)) where
      none_with : (p < n → get_or s.times p (pos 0) ≡ t → ⊥) → option_to_list {X = Bar} None ≡ at_times (take n (raw_bars s)) (t ∷ [])
      unfolding at_times bar_at bar_of
      none_with d =
          sym (append-nil (keep_if (λ b. le_z b.time t && le_z t b.time) (take n (raw_bars s)))
          ∙ kept_nameless t (λ a e. d (omega arith) (ap (λ (i : ℕ). get_or s.times i (pos 0)) place ∙ e)))

      -- past all, or a later one stands at its place: there is none
      pub none_past : n ≤ p → option_to_list {X = Bar} None ≡ at_times (take n (raw_bars s)) (t ∷ [])
      none_past a = none_with (λ b e. omega arith)

      pub none-there : (x : ℤ) → x ≡ get_or s.times p (pos 0) → lt_z t x ≡ true → option_to_list {X = Bar} None ≡ at_times (take n (raw_bars s)) (t ∷ [])
      none-there x q y = none_with (λ a e. <ℤ_irrefl {a = t} (lt_z_yes (subst T (sym (ap (lt_z t) (sym (q ∙ e)) ∙ y)) tt)))

      pub one-there : (x : ℤ) → p < n → x ≡ get_or s.times p (pos 0) → lt_z t x ≡ false → option_to_list (Some (bar_at s p)) ≡ at_times (take n (raw_bars s)) (t ∷ [])
      unfolding at_times bar_at bar_of
      one-there x a q y =
          let long = length-take-le n s.times (rw h.times fits) in
          let g : lt_z (get_or s.times p (pos 0)) t ≡ false =
          ap (λ (u : ℤ). lt_z u t) (sym (get_or-take n s.times p (pos 0) a) ∙ ap (λ (i : ℕ). get_or (take n s.times) i (pos 0)) place)
          ∙ not_past t (take n s.times) (omega arith) in
          let e : x ≡ t = le_antisym x t (not-lt-le t x (no (lt_z t x) y)) (not-lt-le x t (no (lt_z x t) (ap (λ (u : ℤ). lt_z u t) q ∙ g))) in
          let f : t ≡ get_or s.times p (pos 0) = sym e ∙ q in
          sym (append-nil (keep_if (λ b. le_z b.time t && le_z t b.time) (take n (raw_bars s)))
          ∙ ap (λ (u : ℤ). keep_if (λ b. le_z b.time u && le_z u b.time) (take n (raw_bars s))) f
          ∙ kept-named p a)
