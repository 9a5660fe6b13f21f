-- Laws of a bar merged into a tail of bars in rows, and of the whole list that ends with that tail. Assumes nothing.
use Rattle.std.specs.Prelude as Std
use Prim.Native.Nat.{ℕ, ◌+◌, ◌-◌, ◌<◌, ◌≤◌}
use mathlib.Core.Path.{◌≡◌, refl, ap, sym, ◌∙◌, subst}
use Rattle.std.specs.Prelude.{Option, None, Some}
use mathlib.Core.Bool.{Bool, true, false}
use mathlib.Core.List.{List, [], ◌∷◌, ◌++◌, append_assoc}
use native.Mathlib.Numerals.{add-one}
use native.Mathlib.Omega.{arith}
use lib.ListN.{take}
use lib.Seq.{take-suc, append_snoc, drop-set-lt}
use lib.Ieee.{Float}
use Rattle.bars.specs.declared.Bar.{Bar}
use Rattle.bars.specs.Bars.{row_of}
use Rattle.stores.specs.Stores.{RawStore, raw_store, raw_bars}
use Rattle.stores.specs.Code.StoreRows.{SizedRaw, RoomRaw, bar_at, set_bar}
use Rattle.stores.specs.Code.TailRows.{rows_from, TailHas, TailTakes}
use Rattle.bars.specs.Code.MergedBars.{remove_include_bar, merge_bars, in_place_of, behind}
use Rattle.stores.proofs.Columns.{raw-length, raw_at, raw_appended}
use Rattle.bars.proofs.MergedLists.{merge_local}

-- ---- lists

-- merging into a run of two or more leaves what stands before the run
pub merge_behind : (l : List Bar) (k k2 : Bar) (x : List Bar) (b : Bar) → merge_bars (l ++ k ∷ k2 ∷ x) b ≡ l ++ merge_bars (k ∷ k2 ∷ x) b
unfolding merge_bars
merge_behind [] k k2 x b = refl
merge_behind (a ∷ []) k k2 x b = refl
merge_behind (a ∷ c ∷ []) k k2 x b = refl
merge_behind (a ∷ c ∷ e ∷ l) k k2 x b = ap (λ (r : List Bar). a ∷ r) (merge_behind (c ∷ e ∷ l) k k2 x b)

-- so the whole list follows the tail: with the bar k before a tail x that is not empty
pub view-merged : (l : List Bar) (k k2 : Bar) (x y : List Bar) (b : Bar) → k ∷ y ≡ merge_bars (k ∷ k2 ∷ x) b → l ++ k ∷ y ≡ merge_bars (l ++ k ∷ k2 ∷ x) b
view-merged l k k2 x y b e = ap (λ (r : List Bar). l ++ r) e ∙ sym (merge_behind l k k2 x b)

-- the tail u ends with k1 and k2
last-two : (p q : List Bar) (k1 k2 b : Bar) (t u v : List Bar) → v ≡ q ++ k1 ∷ [] → u ≡ v ++ k2 ∷ [] → t ≡ v ++ remove_include_bar k1.high k2 b
    → p ++ t ≡ merge_bars (p ++ u) b
last-two p q k1 k2 b t u v a c d =
    rw (d, c, a) (simp append_assoc (sym (simp append_assoc at (merge_local (p ++ q) k1 k2 b))))

-- ---- rows

module _ (s : RawStore) (k : ℕ) (sized : SizedRaw s k) where
  room : (m : ℕ) → m < k → RoomRaw s (m + 1)
  room m h = record { times = omega (arith, sized.times); ids = omega (arith, sized.ids); prices = omega (arith, sized.prices) }

  one_more : (m : ℕ) → m < k → take (m + 1) (raw_bars s) ≡ take m (raw_bars s) ++ bar_at s m ∷ []
  one_more m h =
      rw add-one (take-suc (raw_bars s) m (bar_at s m) (rw (raw-length s k sized) h))
      ∙ ap (λ (x : Bar). take m (raw_bars s) ++ x ∷ []) (raw_at s m (bar_at s m) (room m h))

  -- the first m bars end with the one at m - 1
  ends : (m j : ℕ) → m ≡ j + 1 → m ≤ k → take m (raw_bars s) ≡ take j (raw_bars s) ++ bar_at s j ∷ []
  ends m j e h = ap (λ (i : ℕ). take i (raw_bars s)) e ∙ one_more j (omega arith)

  module _ (m : ℕ) (h : Float) (b : Bar) (some : 0 < m) (fits : m < k) where
    pub last-merged : (x : Bar) → in_place_of (bar_at s (m - 1)) (Std.Some x) b ≡ remove_include_bar h (bar_at s (m - 1)) b
        → take m (raw_bars (set_bar s (m - 1) x)) ≡ take (m - 1) (raw_bars s) ++ remove_include_bar h (bar_at s (m - 1)) b
    unfolding in_place_of
    last-merged x is =
        let e : m ≡ m - 1 + 1 = omega arith in
        ap (λ (i : ℕ). take i (raw_bars (set_bar s (m - 1) x))) e
        ∙ raw_appended s (m - 1) k x sized (omega arith)
        ∙ ap (λ (r : List Bar). take (m - 1) (raw_bars s) ++ r) is

    pub last-own : in_place_of (bar_at s (m - 1)) Std.None b ≡ remove_include_bar h (bar_at s (m - 1)) b
        → take (m + 1) (raw_bars (set_bar s m b)) ≡ take (m - 1) (raw_bars s) ++ remove_include_bar h (bar_at s (m - 1)) b
    unfolding in_place_of
    last-own is =
        let e : m ≡ m - 1 + 1 = omega arith in
        raw_appended s m k b sized fits
        ∙ ap (λ (r : List Bar). r ++ b ∷ []) (ends m (m - 1) e (omega arith))
        ∙ append_snoc (take (m - 1) (raw_bars s)) (bar_at s (m - 1)) (b ∷ [])
        ∙ ap (λ (r : List Bar). take (m - 1) (raw_bars s) ++ r) is

  module _ (any : Bool) (k0 b : Bar) (m : ℕ) (fits : m < k) where
    -- an empty tail, a tail of one bar, alone or behind k0, and a longer one
    pub tail-first : m ≡ 0 → behind any k0 ++ take 1 (raw_bars (set_bar s 0 b)) ≡ merge_bars (behind any k0 ++ take m (raw_bars s)) b
    unfolding behind merge_bars
    tail-first e = rw (e, raw_appended s 0 k b sized (omega arith)) (by any)
      where
        by : (a : Bool) → behind a k0 ++ b ∷ [] ≡ merge_bars (behind a k0 ++ []) b
        by true = refl
        by false = refl

    pub tail_alone : m ≡ 1 → any ≡ false → behind any k0 ++ take 2 (raw_bars (set_bar s 1 b)) ≡ merge_bars (behind any k0 ++ take m (raw_bars s)) b
    unfolding behind merge_bars
    tail_alone e a = rw (a, raw_appended s 1 k b sized (omega arith), ends m 0 e (omega arith), ends 1 0 refl (omega arith))

    module _ (t : List Bar) (h : Float) (is : t ≡ take (m - 1) (raw_bars s) ++ remove_include_bar h (bar_at s (m - 1)) b) where
      pub tail-behind : m ≡ 1 → any ≡ true → h ≡ k0.high → behind any k0 ++ t ≡ merge_bars (behind any k0 ++ take m (raw_bars s)) b
      unfolding behind merge_bars
      tail-behind e a g = rw (a, is, g, e, ends 1 0 refl (omega arith))

      pub tail_within : 1 < m → h ≡ (bar_at s (m - 2)).high → behind any k0 ++ t ≡ merge_bars (behind any k0 ++ take m (raw_bars s)) b
      tail_within more g =
          last-two (behind any k0) (take (m - 2) (raw_bars s)) (bar_at s (m - 2)) (bar_at s (m - 1)) b t (take m (raw_bars s)) (take (m - 1) (raw_bars s))
          (ends (m - 1) (m - 2) (omega arith) (omega arith)) (ends m (m - 1) (omega arith) (omega arith)) (rw (← g) is)

-- a row written before place r leaves the rows from there on as they were
pub beyond-set : (s t : RawStore) (p r : ℕ) (b : Bar) → p < r → t ≡ set_bar s p b → rows_from r t ≡ rows_from r s
unfolding rows_from set_bar
beyond-set s t p r b h e =
    ap (rows_from r) e
    ∙ (λ i. raw_store (drop-set-lt r s.times p b.time h i) (drop-set-lt r s.ids p b.id h i) (drop-set-lt r s.prices p (row_of b) h i))

-- ---- the tail, behind the bar that stands before it, where there is one

-- what include_last says of a tail t of r bars
abbrev pub Included : RawStore → ℕ → Float → Bar → RawStore → ℕ → Type 0
Included s m h b t r =
    (take r (raw_bars t) ≡ take (m - 1) (raw_bars s) ++ remove_include_bar h (bar_at s (m - 1)) b) × (m ≤ r) × (r ≤ m + 1) × (rows_from r t ≡ rows_from r s)

module _ (s t : RawStore) (k m : ℕ) (b : Bar) (sized : SizedRaw s k) (fits : m < k) where
  has_one : (any : Bool) (k0 : Bar) → m ≡ 0 → t ≡ set_bar s 0 b → TailHas any k0 s m 1 t 1 (merge_bars (behind any k0 ++ take m (raw_bars s)) b)
  has_one any k0 e w =
      record {
        bars = ap (λ (x : RawStore). behind any k0 ++ take 1 (raw_bars x)) w ∙ tail-first s k sized any k0 b m fits e;
        least = omega arith;
        most = omega arith;
        beyond = beyond-set s t 0 1 b (omega arith) w;
      }

  has_more : (any : Bool) (k0 : Bar) (h : Float) (r : ℕ) → 1 < m → h ≡ (bar_at s (m - 2)).high → Included s m h b t r
      → TailHas any k0 s m 1 t r (merge_bars (behind any k0 ++ take m (raw_bars s)) b)
  has_more any k0 h r more g e =
      record { bars = tail_within s k sized any k0 b m fits (take r (raw_bars t)) h e.0 more g; least = e.1; most = e.2; beyond = e.3 }

  pub takes_first : (o : Option Bar) → m ≡ 0 → t ≡ set_bar s 0 b → TailTakes o s m b t 1
  unfolding TailTakes
  takes_first None e w = has_one false b e w
  takes_first (Some k0) e w = has_one true k0 e w

  pub takes_alone : (o : Option Bar) → o ≡ None → m ≡ 1 → t ≡ set_bar s 1 b → TailTakes o s m b t 2
  unfolding TailTakes
  takes_alone o q e w =
      subst (λ (x : Option Bar). TailTakes x s m b t 2) (sym q)
      (record {
        bars = ap (λ (x : RawStore). behind false b ++ take 2 (raw_bars x)) w ∙ tail_alone s k sized false b b m fits e refl;
        least = omega arith;
        most = omega arith;
        beyond = beyond-set s t 1 2 b (omega arith) w;
      })

  pub takes_behind : (o : Option Bar) (k0 : Bar) (r : ℕ) → o ≡ Some k0 → m ≡ 1 → Included s m k0.high b t r → TailTakes o s m b t r
  unfolding TailTakes
  takes_behind o k0 r q i e =
      subst (λ (x : Option Bar). TailTakes x s m b t r) (sym q)
      (record { bars = tail-behind s k sized true k0 b m fits (take r (raw_bars t)) k0.high e.0 i refl refl; least = e.1; most = e.2; beyond = e.3 })

  pub takes_within : (o : Option Bar) (h : Float) (r : ℕ) → 1 < m → h ≡ (bar_at s (m - 2)).high → Included s m h b t r → TailTakes o s m b t r
  unfolding TailTakes
  takes_within None h r more g e = has_more false b h r more g e
  takes_within (Some k0) h r more g e = has_more true k0 h r more g e
