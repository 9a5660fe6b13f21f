-- What each writing step asks of the stores that it is lent and what it leaves in them. Assumes nothing.
use Prim.Native.Nat.{ℕ, zero, suc, ◌+◌, ◌-◌, ◌≤◌}
use native.Mathlib.Omega.{arith}
use mathlib.Core.Bool.{Bool, true, false}
use mathlib.Core.List.{List}
use mathlib.Core.Path.{◌≡◌, refl, ap, sym, ◌∙◌, subst}
use lib.ListN.{length, take, drop, get_or, length-take}
use lib.Dec.{T}
use lib.IntN.{ℤ}
use lib.Signed.{lt_z}
use Rattle.bars.specs.declared.Bar.{Bar}
use Rattle.bars.specs.Bars.{Merged}
use Rattle.bars.specs.Lists.{skip_while}
use Rattle.stores.specs.Stores.{RawStore, MergedStore, raw_bars, merged_bars}
use Rattle.stores.specs.Code.StoreRows.{SizedRaw, SizedMerged}
use Rattle.stores.proofs.Columns.{raw-length, merged-length}
use Rattle.machine.specs.Break.{joined}
use Rattle.strokes.specs.declared.Stand.{Stand}
use Rattle.strokes.specs.StateRead.{bar_counts, total, elements_sized}
use Rattle.strokes.specs.Lent.{FractalStore}
use Rattle.strokes.specs.Code.BarSteps.{HasRaw, HasUnfinished, CanJoin, kept_raw, kept_unfinished, with_raw, with_unfinished, without_last, stored_stroke}
use Rattle.strokes.specs.Code.StrokeSteps.{Kept, Made, Makeable, last_place, last_bars}
use Rattle.std.specs.Prelude.{Option, Some, is_some}
use Rattle.check_bi.specs.declared.scan.FoundBi.{FoundBi}
use Rattle.asking.specs.Code.FeedPlan.{start_in, bars_made}
use Rattle.strokes.proofs.StoredStrokes.{last-sums}
use Rattle.writing.specs.Code.WriteSteps.{MadeWhere, CanBreak, add_if, left_stand, left_bars, drop_earlier}

-- ---- the unfinished bars begin at a place

itself : (s : Stand) → s ≡ with_unfinished s s.unfinished
unfolding with_unfinished
itself s = refl

-- ---- the last stroke is joined

pub last_sum : (s : Stand) → 1 ≤ s.strokes → total (bar_counts s) ≡ last_place s + last_bars s
unfolding bar_counts last_place last_bars
last_sum s one = last-sums s.bars s.strokes one

-- its bars are among those that the strokes have
pub last-elements : (s : Stand) (k : MergedStore) (at : ℕ) → 1 ≤ s.strokes → at ≡ total (take (s.strokes - 1) s.bars)
    → T (elements_sized (total (bar_counts s)) k) → T (elements_sized (at + get_or s.bars (s.strokes - 1) 0) k)
unfolding last_place last_bars
last-elements s k at one e t =
    subst (λ (n : ℕ). T (elements_sized n k)) (last_sum s one ∙ ap (λ (n : ℕ). n + get_or s.bars (s.strokes - 1) 0) (sym e)) t

module _ (s : Stand) (u k : MergedStore) where
  pub can_join : (at : ℕ) → SizedMerged u s.rooms.unfinished → SizedMerged k s.rooms.strokes → s.unfinished ≤ s.rooms.unfinished
      → CanBreak s k (kept_unfinished s u) → at ≡ total (take (s.strokes - 1) s.bars) → CanJoin s u k at (get_or s.bars (s.strokes - 1) 0)
  unfolding last_place last_bars
  can_join at hu hk fits h e =
      let within = h.within in
      record {
        unfinished = hu;
        strokes = hk;
        fits = fits;
        kept = h.kept;
        two = h.two;
        within = omega arith;
        room = subst (λ (i : ℕ). length (joined (stored_stroke k i (last_bars s)) (kept_unfinished s u)) ≤ s.rooms.unfinished) (sym e) h.room;
      }

  pub joined-last : (at rows : ℕ) (r : Stand) (w : MergedStore) (l : List Merged) → at ≡ total (take (s.strokes - 1) s.bars) → rows ≡ get_or s.bars (s.strokes - 1) 0
      → HasUnfinished (without_last s) r w (joined (stored_stroke k at rows) l)
      → HasUnfinished (without_last s) r w (joined (stored_stroke k (last_place s) (last_bars s)) l)
  unfolding last_place last_bars
  joined-last at rows r w l e q h = subst (λ (i : ℕ). HasUnfinished (without_last s) r w (joined (stored_stroke k i (last_bars s)) l)) e (subst (λ (n : ℕ). HasUnfinished (without_last s) r w (joined (stored_stroke k at n) l)) q h)

-- ---- what is left

pub record CanJoinLast (s : Stand) (u k : MergedStore) : Type 0 where
  pub unfinished : SizedMerged u s.rooms.unfinished
  pub strokes : SizedMerged k s.rooms.strokes
  pub fits : s.unfinished ≤ s.rooms.unfinished
  pub breaks : CanBreak s k (kept_unfinished s u)

-- the step before has left the bars l
module _ (s v : Stand) (w k : MergedStore) (l : List Merged) (h : HasUnfinished s v w l) where
  pub left-fits : v.unfinished ≤ s.rooms.unfinished
  unfolding with_unfinished
  left-fits =
      let a : v.unfinished ≡ length l = ap (λ (x : Stand). x.unfinished) h.stand in
      let b : length (take v.unfinished (merged_bars w)) ≡ length l = ap length h.bars in
      let c = length-take v.unfinished (merged_bars w) in
      let d = merged-length w s.rooms.unfinished h.sized in
      omega arith

  pub left-rooms : v.rooms ≡ s.rooms
  unfolding with_unfinished
  left-rooms = ap (λ (x : Stand). x.rooms) h.stand

  pub left-elements : T (elements_sized (total (bar_counts s)) k) → T (elements_sized (total (bar_counts v)) k)
  unfolding with_unfinished bar_counts
  left-elements t = subst (λ (x : Stand). T (elements_sized (total (take x.strokes x.bars)) k)) (sym h.stand) t

  same-breaks : CanBreak s k l → CanBreak (with_unfinished s (length l)) k l
  unfolding with_unfinished last_place last_bars
  same-breaks g = record { kept = g.kept; most = g.most; two = g.two; within = g.within; room = g.room }

  pub left-breaks : SizedMerged k s.rooms.strokes → CanBreak s k l → CanJoinLast v w k
  left-breaks hk g =
      record {
        unfinished = subst (λ x. SizedMerged w x.unfinished) (sym left-rooms) h.sized;
        strokes = subst (λ x. SizedMerged k x.strokes) (sym left-rooms) hk;
        fits = subst (λ x. v.unfinished ≤ x.unfinished) (sym left-rooms) left-fits;
        breaks = subst (λ (x : List Merged). CanBreak v k x) (sym h.bars) (subst (λ (x : Stand). CanBreak x k l) (sym h.stand) (same-breaks g));
      }

  after_last : (r : ℕ) (w' : MergedStore) (t : Bool) → t ≡ true
      → HasUnfinished (without_last (with_unfinished s (length l))) (with_unfinished (without_last (with_unfinished s (length l))) r) w'
      (joined (stored_stroke k (last_place (with_unfinished s (length l))) (last_bars (with_unfinished s (length l)))) l)
      → HasUnfinished (left_stand t s) (with_unfinished (left_stand t s) r) w' (left_bars t s k l)
  unfolding with_unfinished without_last last_place last_bars left_stand left_bars
  after_last r w' t e g =
      subst (λ (x : Bool). HasUnfinished (left_stand x s) (with_unfinished (left_stand x s) r) w' (left_bars x s k l)) (sym e) (record { bars = g.bars; stand = g.stand; sized = g.sized })

  pub left-joined : (r : ℕ) (w' : MergedStore) (t : Bool) → t ≡ true
      → HasUnfinished (without_last v) (with_unfinished (without_last v) r) w' (joined (stored_stroke k (last_place v) (last_bars v)) (kept_unfinished v w))
      → HasUnfinished (left_stand t s) (with_unfinished (left_stand t s) r) w' (left_bars t s k l)
  left-joined r w' t e g =
      after_last r w' t e
      (subst (λ (x : Stand). HasUnfinished (without_last x) (with_unfinished (without_last x) r) w' (joined (stored_stroke k (last_place x) (last_bars x)) l)) h.stand
      (subst (λ (x : List Merged). HasUnfinished (without_last v) (with_unfinished (without_last v) r) w' (joined (stored_stroke k (last_place v) (last_bars v)) x)) h.bars g))

  pub left_as_is : (t : Bool) (r : ℕ) → v ≡ with_unfinished s r → t ≡ false → HasUnfinished (left_stand t s) (with_unfinished (left_stand t s) r) w (left_bars t s k l)
  unfolding left_stand left_bars
  left_as_is t r q e =
      subst (λ (x : Bool). HasUnfinished (left_stand x s) (with_unfinished (left_stand x s) r) w (left_bars x s k l)) (sym e) (subst (λ (x : Stand). HasUnfinished s x w l) q h)

-- ---- the raw bars that are kept

module _ (s v : Stand) (m : RawStore) (l : List Bar) (h : HasRaw s v m l) where
  pub raw-rooms : v.rooms ≡ s.rooms
  unfolding with_raw
  raw-rooms = ap (λ (x : Stand). x.rooms) h.stand

  pub raw-sized : SizedRaw m v.rooms.raw
  raw-sized = subst (λ x. SizedRaw m x.raw) (sym raw-rooms) h.sized

  pub raw-fits : v.raw ≤ v.rooms.raw
  unfolding with_raw
  raw-fits =
      let a : v.raw ≡ length l = ap (λ (x : Stand). x.raw) h.stand in
      let b : length (take v.raw (raw_bars m)) ≡ length l = ap length h.bars in
      let c = length-take v.raw (raw_bars m) in
      let d = raw-length m v.rooms.raw raw-sized in
      omega arith

  pub none_dropped : (n : ℕ) (t : ℤ) → n ≡ 0 → HasRaw s v m (drop_earlier n t l)
  unfolding drop_earlier
  none_dropped n t e = subst (λ (x : ℕ). HasRaw s v m (drop_earlier x t l)) (sym e) h

  after-raw : (r : Stand) (w : RawStore) (l' : List Bar) → HasRaw (with_raw s (length l)) r w l' → HasRaw s r w l'
  unfolding with_raw
  after-raw r w l' g = record { bars = g.bars; stand = g.stand; sized = g.sized }

  drop-some : (n : ℕ) (t : ℤ) → (n ≡ 0 → ⊥) → skip_while (λ k. lt_z k.time t) l ≡ drop_earlier n t l
  unfolding drop_earlier
  drop-some zero t e = absurd (e refl)
  drop-some (suc n) t e = refl

  pub some_dropped : (r : Stand) (w : RawStore) (n : ℕ) (t t' : ℤ) → (n ≡ 0 → ⊥) → t' ≡ t → HasRaw v r w (skip_while (λ k. lt_z k.time t') (kept_raw v m)) → HasRaw s r w (drop_earlier n t l)
  some_dropped r w n t t' e q g =
      subst (HasRaw s r w) (drop-some n t e)
      (after-raw r w (skip_while (λ k. lt_z k.time t) l)
      (subst (λ (x : Stand). HasRaw x r w (skip_while (λ k. lt_z k.time t) l)) h.stand
      (subst (λ (x : ℤ). HasRaw v r w (skip_while (λ k. lt_z k.time x) l)) q
      (subst (λ (x : List Bar). HasRaw v r w (skip_while (λ k. lt_z k.time t') x)) h.bars g))))

-- ---- a stroke is made, or none

module _ (made : Bool) (s : Stand) (u k : MergedStore) (f : FractalStore) (first bars : ℕ) where
  pub made_one : (r : Stand) (k' : MergedStore) (f' : FractalStore) → made ≡ true → Made s u k f first bars r k' f' → MadeWhere made s u k f first bars r k' f'
  unfolding add_if
  made_one r k' f' e h =
      subst (λ (x : Bool). MadeWhere x s u k f first bars r k' f') (sym e) (record { strokes = h.strokes; kept = h.kept; rest = h.rest; elements = h.elements })

  pub made_none : made ≡ false → Kept s k f → MadeWhere made s u k f first bars s k f
  unfolding add_if
  made_none e h =
      subst (λ (x : Bool). MadeWhere x s u k f first bars s k f) (sym e)
      (record { strokes = refl; kept = h; rest = record { settings = refl; rooms = refl; raw = refl; unfinished = refl }; elements = λ a b. b })

-- ---- as many are kept as are counted

-- a stroke that was found is made, by its place behind the cut
pub made_found : (o : Option FoundBi) (g : FoundBi) (cut : ℕ) (s : Stand) (u k : MergedStore) (f : FractalStore) (r : Stand) (k' : MergedStore) (f' : FractalStore) → o ≡ Some g
    → Made s u k f (cut + g.start.place) g.bars r k' f' → MadeWhere (is_some o) s u k f (cut + start_in o) (bars_made o) r k' f'
unfolding start_in bars_made
made_found o g cut s u k f r k' f' e h =
    subst (λ (x : Option FoundBi). MadeWhere (is_some x) s u k f (cut + start_in x) (bars_made x) r k' f') (sym e) (made_one true s u k f (cut + g.start.place) g.bars r k' f' refl h)

-- and one that was found can be made
pub makeable_found : (o : Option FoundBi) (g : FoundBi) (cut : ℕ) (s : Stand) (u : MergedStore) → o ≡ Some g → (is_some o ≡ true → Makeable s u (cut + start_in o) (bars_made o))
    → Makeable s u (cut + g.start.place) g.bars
unfolding start_in bars_made
makeable_found o g cut s u e h = subst (λ (x : Option FoundBi). is_some x ≡ true → Makeable s u (cut + start_in x) (bars_made x)) e h refl
