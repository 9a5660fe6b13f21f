-- What the raw store holds after a writing step of a feed, and laws of lists that the unfinished store shares. Assumes nothing.
use Prim.Native.Nat.{ℕ, zero, suc, ◌+◌, ◌-◌, ◌<◌, ◌≤◌}
use mathlib.Core.Bool.{Bool, true, false}
use mathlib.Core.List.{List, [], ◌∷◌, ◌++◌, map}
use mathlib.Core.Option.{some}
use mathlib.Core.Path.{◌≡◌, refl, ap, sym, ◌∙◌, subst}
use native.Mathlib.Nat.{zero-add}
use native.Mathlib.Omega.{arith}
use lib.ListN.{length, take, drop, get_or, take-append-drop}
use lib.Seq.{length-take-le}
use lib.IntN.{ℤ}
use lib.Signed.{lt_z}
use Rattle.bars.specs.declared.Bar.{Bar}
use Rattle.bars.specs.Lists.{skip_while, last, init, copied}
use Rattle.stores.specs.Stores.{RawStore, raw_store, raw_bars}
use Rattle.stores.specs.Code.StoreRows.{SizedRaw, set_bar, copied_raw, place_of}
use Rattle.bars.proofs.Moves.{take-copied, run_is}
use Rattle.stores.proofs.Columns.{raw-length, raw_appended, raw-copied, raw-times, sized_set, sized-copied}
use Rattle.stores.proofs.Searching.{place-le, place_skip}
use Rattle.stores.proofs.KeptBars.{map-take}
use Rattle.strokes.specs.declared.Stand.{Stand}
use Rattle.machine.specs.Stand.{State}
use Rattle.machine.specs.Feed.{raw_with}
use Rattle.strokes.specs.Code.BarSteps.{HasRaw, kept_raw, with_raw, raw_only}

-- ---- lists

module _ {A : Type 0} where
  init_suc : (n : ℕ) (l : List A) → n < length l → init (take (suc n) l) ≡ take n l
  unfolding init
  init_suc n [] h = let w : ⊥ = omega arith in absurd w
  init_suc zero (a ∷ l) h = refl
  init_suc (suc n) (a ∷ []) h = let w : ⊥ = omega arith in absurd w
  init_suc (suc n) (a ∷ b ∷ l) h = ap (λ (r : List A). a ∷ r) (init_suc n (b ∷ l) (omega arith))

  -- the first n but the last of them
  pub init-take : (n : ℕ) (l : List A) → 1 ≤ n → n ≤ length l → init (take n l) ≡ take (n - 1) l
  init-take zero l h k = let w : ⊥ = omega arith in absurd w
  init-take (suc n) l h k = let e : suc n - 1 ≡ n = omega arith in rw e (init_suc n l k)

  last_suc : (n : ℕ) (l : List A) (z : A) → n < length l → last (take (suc n) l) ≡ some (get_or l n z)
  unfolding last
  last_suc n [] z h = let w : ⊥ = omega arith in absurd w
  last_suc zero (a ∷ l) z h = refl
  last_suc (suc n) (a ∷ []) z h = let w : ⊥ = omega arith in absurd w
  last_suc (suc n) (a ∷ b ∷ l) z h = last_suc n (b ∷ l) z (omega arith)

  -- the last of the first n
  pub last-take : (n : ℕ) (l : List A) (z : A) → 1 ≤ n → n ≤ length l → last (take n l) ≡ some (get_or l (n - 1) z)
  last-take zero l z h k = let w : ⊥ = omega arith in absurd w
  last-take (suc n) l z h k = let e : suc n - 1 ≡ n = omega arith in rw e (last_suc n l z k)

  -- the first n rows, of which the first j went and the others moved to the beginning
  pub moved_down_lem : (l : List A) (j n : ℕ) → j ≤ n → n ≤ length l → take (n - j) (copied l 0 l j (n - j)) ≡ drop j (take n l)
  moved_down_lem l j n h k =
      let e : j + (n - j) ≡ n = omega arith in
      let z = zero-add (n - j) in
      ap (λ (i : ℕ). take i (copied l 0 l j (n - j))) (sym z)
      ∙ take-copied l l 0 j (n - j) (omega arith) (omega arith)
      ∙ run_is l j (n - j)
      ∙ ap (λ (i : ℕ). drop j (take i l)) e

  copied_none : (l : List A) (n : ℕ) → copied l 0 l 0 n ≡ l
  unfolding copied
  copied_none l n = let z = zero-add n in ap (λ (i : ℕ). take n l ++ drop i l) z ∙ take-append-drop n l

  -- of the first n rows, those that a column of their times shows to come before t are passed
  pub passed : (f : A → ℤ) (t : ℤ) (l : List A) (ts : List ℤ) (n j : ℕ) → map f l ≡ ts → j ≡ place_of t (take n ts) → skip_while (λ x. lt_z (f x) t) (take n l) ≡ drop j (take n l)
  passed f t l ts n j e p = place_skip f t (take n l) ∙ ap (λ (i : ℕ). drop i (take n l)) (ap (place_of t) (map-take f n l ∙ ap (take n) e) ∙ sym p)

pub place_in : (t : ℤ) (l : List ℤ) (n j : ℕ) → n ≤ length l → j ≡ place_of t (take n l) → j ≤ n
place_in t l n j h e = let p = place-le t (take n l) in let q = length-take-le n l h in omega arith

-- ---- the raw store

-- the code's stand and store are these, and n raw bars of the store read as l
has_raw : (s r : Stand) (m w : RawStore) (n : ℕ) (l : List Bar) → r ≡ with_raw s n → m ≡ w → SizedRaw w s.rooms.raw → n ≤ s.rooms.raw → take n (raw_bars w) ≡ l → HasRaw s r m l
unfolding with_raw
has_raw s r m w n l e f h k q =
    let g = length-take-le n (raw_bars w) (rw (raw-length w s.rooms.raw h) k) in
    record {
      bars = (λ i. take (e i).raw (raw_bars (f i))) ∙ q;
      stand = e ∙ ap (with_raw s) (sym g ∙ ap length q);
      sized = subst (λ (x : RawStore). SizedRaw x s.rooms.raw) (sym f) h;
    }

-- once another bar has come
pub raw_with-only : (t : Bool) (s : State) (b : Bar) → raw_with t s b ≡ raw_with t (raw_only s.raw) b
unfolding raw_with raw_only
raw_with-only true s b = refl
raw_with-only false s b = refl

module _ (s r : Stand) (m w : RawStore) (h : SizedRaw m s.rooms.raw) where
  pub later_put : (b : Bar) (t : Bool) → t ≡ true → s.raw < s.rooms.raw → w ≡ set_bar m s.raw b → r ≡ with_raw s (s.raw + 1) → HasRaw s r w (raw_with t (raw_only (kept_raw s m)) b)
  unfolding raw_with raw_only
  later_put b t y k f e =
      has_raw s r w (set_bar m s.raw b) (s.raw + 1) (raw_with t (raw_only (kept_raw s m)) b) e f (sized_set m s.raw s.rooms.raw b h) (omega arith)
      (raw_appended m s.raw s.rooms.raw b h k ∙ ap (λ (u : Bool). raw_with u (raw_only (kept_raw s m)) b) (sym y))

  pub last_replaced : (b : Bar) (t : Bool) → t ≡ false → 1 ≤ s.raw → s.raw ≤ s.rooms.raw → w ≡ set_bar m (s.raw - 1) b → r ≡ with_raw s s.raw → HasRaw s r w (raw_with t (raw_only (kept_raw s m)) b)
  unfolding raw_with raw_only
  last_replaced b t y o k f e =
      let g : s.raw - 1 + 1 ≡ s.raw = omega arith in
      let v = set_bar m (s.raw - 1) b in
      let p = init-take s.raw (raw_bars m) o (rw (raw-length m s.rooms.raw h) k) in
      has_raw s r w v s.raw (raw_with t (raw_only (kept_raw s m)) b) e f (sized_set m (s.raw - 1) s.rooms.raw b h) k
      (ap (λ (n : ℕ). take n (raw_bars v)) (sym g)
      ∙ raw_appended m (s.raw - 1) s.rooms.raw b h (omega arith)
      ∙ ap (λ (l : List Bar). l ++ b ∷ []) (sym p)
      ∙ ap (λ (u : Bool). raw_with u (raw_only (kept_raw s m)) b) (sym y))

  pub early_dropped : (t : ℤ) (j : ℕ) → s.raw ≤ s.rooms.raw → j ≡ place_of t (take s.raw m.times) → w ≡ copied_raw m 0 m j (s.raw - j) → r ≡ with_raw s (s.raw - j)
      → HasRaw s r w (skip_while (λ k. lt_z k.time t) (kept_raw s m))
  early_dropped t j k p f e =
      let n = s.raw in
      let a : j ≤ n = place_in t m.times n j (rw h.times k) p in
      has_raw s r w (copied_raw m 0 m j (n - j)) (n - j) (skip_while (λ k. lt_z k.time t) (kept_raw s m)) e f (sized-copied m m 0 j (n - j) s.rooms.raw s.rooms.raw h h (omega arith) (omega arith)) (omega arith)
      (ap (take (n - j)) (raw-copied m m 0 j (n - j) s.rooms.raw s.rooms.raw h h)
      ∙ moved_down_lem (raw_bars m) j n a (rw (raw-length m s.rooms.raw h) k)
      ∙ sym (passed (λ b. b.time) t (raw_bars m) m.times n j (raw-times m s.rooms.raw h) p))

  -- none is earlier
  pub none_dropped : (t : ℤ) → s.raw ≤ s.rooms.raw → 0 ≡ place_of t (take s.raw m.times) → w ≡ m → r ≡ s → HasRaw s r w (skip_while (λ k. lt_z k.time t) (kept_raw s m))
  unfolding copied_raw with_raw
  none_dropped t k p f e =
      let z : s.raw ≡ s.raw - 0 = omega arith in
      early_dropped t 0 k p
      (f ∙ (λ i. raw_store (sym (copied_none m.times (s.raw - 0)) i) (sym (copied_none m.ids (s.raw - 0)) i) (sym (copied_none m.prices (s.raw - 0)) i)))
      (e ∙ ap (with_raw s) z)
