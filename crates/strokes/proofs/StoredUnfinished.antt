-- What the unfinished store holds after a writing step of a feed. Assumes nothing.
use Rattle.std.specs.Prelude as Std
use Prim.Native.Nat.{ℕ, suc, ◌+◌, ◌-◌, ◌<◌, ◌≤◌}
use mathlib.Core.List.{List, [], ◌∷◌, ◌++◌, map, append_assoc}
use mathlib.Core.Option.{some}
use mathlib.Core.Path.{◌≡◌, refl, ap, sym, ◌∙◌, subst}
use native.Mathlib.Nat.{zero-add}
use native.Mathlib.Omega.{arith}
use lib.ListN.{length, take, drop, get_or, length-append, length-drop}
use lib.Seq.{length-take-le, take-suc, take-append-add, drop_at, append_snoc, get_or-drop}
use lib.IntN.{ℤ, pos}
use mir.Syntax.{w64}
use mir.Val.{SFits, to_z, of_z}
use mir.ValLaws.{to_z-of_z}
use Rattle.bars.specs.declared.Bar.{Bar}
use Rattle.bars.specs.Bars.{Merged, merged_of, own}
use Rattle.bars.specs.Lists.{last, init, copied}
use Rattle.bars.specs.Merging.{merge_in, remove_include}
use Rattle.bars.specs.Code.MergedBars.{remove_include_bar, remove_include_after, in_place_of, with_element}
use Rattle.bars.proofs.Including.{included_elements, included_own}
use Rattle.stores.specs.Stores.{RawStore, MergedStore, raw_part, bar_of, with_first, merged_bars}
use Rattle.stores.specs.Code.StoreRows.{SizedMerged, RoomMerged, BarWritten, bar_at, new_bar_at, set_new_bar, CopiedInUse, place_of}
use Rattle.bars.proofs.Moves.{take-copied, run_is}
use Rattle.stores.proofs.Columns.{merged-length, merged-at, merged_appended, merged-bars, raw-times, sized-merged-set}
use Rattle.stores.proofs.InUse.{copied_read, copied-sized}
use Rattle.strokes.specs.declared.Stand.{Stand}
use Rattle.machine.specs.ByTime.{from}
use Rattle.machine.specs.Break.{from_bar, joined}
use Rattle.strokes.specs.StateRead.{stroke_with}
use Rattle.strokes.specs.Code.BarSteps.{HasUnfinished, CanMerge, CanJoin, kept_unfinished, with_unfinished, without_last, stored_stroke}
use Rattle.strokes.proofs.StoredRaw.{moved_down_lem, init-take, last-take, passed, place_in}

-- every column of a store of n places has room for as many as n
pub room_of : (s : MergedStore) (n k : ℕ) → SizedMerged s n → k ≤ n → RoomMerged s k
room_of s n k h a =
    record {
      raw = record { times = rw h.raw.times a; ids = rw h.raw.ids a; prices = rw h.raw.prices a };
      counts = rw h.counts a;
      elements = rw h.elements a;
    }

pub room-merged : (s : MergedStore) (n k : ℕ) → RoomMerged s n → k ≤ n → RoomMerged s k
room-merged s n k h a =
    record {
      raw = record { times = omega (arith, h.raw.times); ids = omega (arith, h.raw.ids); prices = omega (arith, h.raw.prices) };
      counts = omega (arith, h.counts);
      elements = omega (arith, h.elements);
    }

-- the code's stand and store are these, and n unfinished bars of the store read as l
pub has_unfinished : (s r : Stand) (m w : MergedStore) (n : ℕ) (l : List Merged) → r ≡ with_unfinished s n → m ≡ w → SizedMerged w s.rooms.unfinished → n ≤ s.rooms.unfinished → take n (merged_bars w) ≡ l → HasUnfinished s r m l
unfolding with_unfinished
has_unfinished s r m w n l e f h k q =
    let g = length-take-le n (merged_bars w) (rw (merged-length w s.rooms.unfinished h) k) in
    record {
      bars = (λ i. take (e i).unfinished (merged_bars (f i))) ∙ q;
      stand = e ∙ ap (with_unfinished s) (sym g ∙ ap length q);
      sized = subst (λ (x : MergedStore). SizedMerged x s.rooms.unfinished) (sym f) h;
    }

module _ (s r : Stand) (m w : MergedStore) (h : SizedMerged m s.rooms.unfinished) where
  pub begun-at : (k : ℕ) → s.unfinished ≤ s.rooms.unfinished → k ≤ s.unfinished → CopiedInUse m 0 m k (s.unfinished - k) w → r ≡ with_unfinished s (s.unfinished - k)
      → HasUnfinished s r w (drop k (kept_unfinished s m))
  begun-at k a b f e =
      let n = s.unfinished in
      let K = s.rooms.unfinished in
      has_unfinished s r w w (n - k) (drop k (kept_unfinished s m)) e refl (copied-sized m m w 0 k (n - k) K K h h f (omega arith) (omega arith)) (omega arith)
      (ap (take (n - k)) (copied_read m m w 0 k (n - k) K K h h f) ∙ moved_down_lem (merged_bars m) k n b (rw (merged-length m K h) a))

pub begun-none : (s : Stand) (u : MergedStore) (k : ℕ) → SizedMerged u s.rooms.unfinished → s.unfinished ≤ s.rooms.unfinished → k ≡ 0
    → HasUnfinished s (with_unfinished s s.unfinished) u (drop k (kept_unfinished s u))
begun-none s u k h g e = has_unfinished s (with_unfinished s s.unfinished) u u s.unfinished _ refl refl h g (ap (λ (i : ℕ). drop i (kept_unfinished s u)) (sym e))

-- ---- merging

merge_last : (l : List Merged) (k1 k2 : Merged) (b : Bar) → merge_in (l ++ k1 ∷ k2 ∷ []) b ≡ l ++ k1 ∷ remove_include k1 k2 b
unfolding merge_in
merge_last [] k1 k2 b = refl
merge_last (a ∷ []) k1 k2 b = refl
merge_last (a ∷ c ∷ []) k1 k2 b = refl
merge_last (a ∷ c ∷ e ∷ l) k1 k2 b = ap (λ (r : List Merged). a ∷ r) (merge_last (c ∷ e ∷ l) k1 k2 b)

merge_few : (l : List Merged) (b : Bar) → length l < 2 → l ++ own b ∷ [] ≡ merge_in l b
unfolding merge_in
merge_few [] b h = refl
merge_few (a ∷ []) b h = refl
merge_few (a ∷ c ∷ l) b h = let w : ⊥ = omega arith in absurd w

two-last : {A : Type 0} (l : List A) (n : ℕ) (z : A) → 2 ≤ n → n ≤ length l → take n l ≡ take (n - 2) l ++ get_or l (n - 2) z ∷ get_or l (n - 1) z ∷ []
two-last {A} l n z h k =
    let i = n - 2 in
    let e : n ≡ suc (suc i) = omega arith in
    let f : suc i ≡ n - 1 = omega arith in
    ap (λ (j : ℕ). take j l) e
    ∙ take-suc l (suc i) z (omega arith)
    ∙ ap (λ (x : List A). x ++ get_or l (suc i) z ∷ []) (take-suc l i z (omega arith))
    ∙ append_snoc (take i l) (get_or l i z) (get_or l (suc i) z ∷ [])
    ∙ ap (λ (j : ℕ). take i l ++ get_or l i z ∷ get_or l j z ∷ []) f

module _ (l : List Merged) (n : ℕ) (z : Merged) (b : Bar) (two : 2 ≤ n) (fits : n ≤ length l) where
  merged-into : merge_in (take n l) b ≡ take (n - 2) l ++ get_or l (n - 2) z ∷ remove_include (get_or l (n - 2) z) (get_or l (n - 1) z) b
  merged-into = ap (λ (x : List Merged). merge_in x b) (two-last l n z two fits) ∙ merge_last (take (n - 2) l) (get_or l (n - 2) z) (get_or l (n - 1) z) b

  -- one bar stands in place of the last
  last-merged : (k : Merged) → k ∷ [] ≡ remove_include (get_or l (n - 2) z) (get_or l (n - 1) z) b → take (n - 1) l ++ k ∷ [] ≡ merge_in (take n l) b
  last-merged k q =
      let i = n - 2 in
      let e : n - 1 ≡ suc i = omega arith in
      ap (λ (j : ℕ). take j l ++ k ∷ []) e
      ∙ ap (λ (x : List Merged). x ++ k ∷ []) (take-suc l i z (omega arith))
      ∙ append_snoc (take i l) (get_or l i z) (k ∷ [])
      ∙ ap (λ (x : List Merged). take i l ++ get_or l i z ∷ x) q
      ∙ sym merged-into

  -- the bar is put behind the last
  last_apart : (k : Merged) → get_or l (n - 1) z ∷ k ∷ [] ≡ remove_include (get_or l (n - 2) z) (get_or l (n - 1) z) b → take n l ++ k ∷ [] ≡ merge_in (take n l) b
  last_apart k q =
      let i = n - 2 in
      ap (λ (x : List Merged). x ++ k ∷ []) (two-last l n z two fits)
      ∙ append_assoc (take i l) (get_or l i z ∷ get_or l (n - 1) z ∷ []) (k ∷ [])
      ∙ ap (λ (x : List Merged). take i l ++ get_or l i z ∷ x) q
      ∙ sym merged-into

-- a bar that is put behind fewer than two has room
pub few-room : (s : Stand) (m : MergedStore) (b : Bar) → CanMerge s m (merge_in (kept_unfinished s m) b) → s.unfinished < 2 → s.unfinished < s.rooms.unfinished
few-room s m b h a =
    let n = s.unfinished in
    let room = h.room in
    let g : length (take n (merged_bars m)) ≡ n = length-take-le n (merged_bars m) (rw (merged-length m s.rooms.unfinished h.unfinished) h.fits) in
    let e = ap length (merge_few (take n (merged_bars m)) b (rw g a)) in
    let f = length-append (take n (merged_bars m)) (own b ∷ []) in
    omega arith

-- a bar that is written with one element, and that its own, is a bar of its own
pub own-written : (m w : MergedStore) (at : ℕ) (b : Bar) (row : List ℤ) (t : ℤ) → t ≡ b.time → BarWritten m at (with_element b (with_first b 0 row) t) w → BarWritten m at (own b) w
unfolding own with_element with_first
own-written m w at b row t e d =
    record { bar = d.bar; store = d.store; reads = d.reads ∙ ap (λ (u : ℤ). record { bar = b; elements = u ∷ [] }) e; few = d.few }

module _ (s r : Stand) (m w : MergedStore) (h : SizedMerged m s.rooms.unfinished) (b : Bar) where
  -- b stands behind the unfinished bars
  put_behind : s.unfinished < s.rooms.unfinished → kept_unfinished s m ++ own b ∷ [] ≡ merge_in (kept_unfinished s m) b → BarWritten m s.unfinished (own b) w → r ≡ with_unfinished s (s.unfinished + 1)
      → HasUnfinished s r w (merge_in (kept_unfinished s m) b)
  put_behind c q d e =
      let n = s.unfinished in
      let K = s.rooms.unfinished in
      has_unfinished s r w (set_new_bar m n d.bar) (n + 1) (merge_in (kept_unfinished s m) b) e d.store (sized-merged-set m n K d.bar h) (omega arith)
      (merged_appended m n K d.bar h c ∙ ap (λ (x : Merged). take n (merged_bars m) ++ x ∷ []) d.reads ∙ q)

  pub own_put : s.unfinished < 2 → s.unfinished < s.rooms.unfinished → BarWritten m s.unfinished (own b) w → r ≡ with_unfinished s (s.unfinished + 1)
      → HasUnfinished s r w (merge_in (kept_unfinished s m) b)
  own_put a c d e =
      let n = s.unfinished in
      let g : length (take n (merged_bars m)) ≡ n = length-take-le n (merged_bars m) (rw (merged-length m s.rooms.unfinished h) (omega arith)) in
      put_behind c (merge_few (take n (merged_bars m)) b (rw g a)) d e

  module _ (k1 k2 : Bar) (o : Std.Option Bar) (two : 2 ≤ s.unfinished) (fits : s.unfinished ≤ s.rooms.unfinished)
      (k1_is : k1 ≡ bar_at (raw_part m) (s.unfinished - 2)) (k2_is : k2 ≡ bar_at (raw_part m) (s.unfinished - 1))
      (found : in_place_of k2 o b ≡ remove_include_bar k1.high k2 b) where
    z : Merged
    z = merged_of (new_bar_at m (s.unfinished - 1))

    last-there : get_or (merged_bars m) (s.unfinished - 1) z ≡ z
    unfolding z
    last-there = merged-at m (s.unfinished - 1) z (room_of m s.rooms.unfinished (s.unfinished - 1 + 1) h (omega arith))

    -- of the bar before the last, merging asks the high
    there : remove_include_after k1.high z b ≡ remove_include (get_or (merged_bars m) (s.unfinished - 2) z) (get_or (merged_bars m) (s.unfinished - 1) z) b
    unfolding remove_include remove_include_after merged_of new_bar_at
    there =
        let p = merged-at m (s.unfinished - 2) z (room_of m s.rooms.unfinished (s.unfinished - 2 + 1) h (omega arith)) in
        λ i. remove_include_after ((ap (λ (y : Bar). y.high) k1_is ∙ ap (λ (y : Merged). y.bar.high) (sym p)) i) (sym last-there i) b

    found-there : in_place_of z.bar o b ≡ remove_include_bar k1.high z.bar b
    unfolding z merged_of new_bar_at
    found-there = subst (λ (y : Bar). in_place_of y o b ≡ remove_include_bar k1.high y b) k2_is found

    pub merged_put : (k : Bar) (t : ℤ) → t ≡ b.time → o ≡ Std.Some k
        → BarWritten m (s.unfinished - 1) (with_element k (with_first k (get_or m.counts (s.unfinished - 1) 0) (get_or m.elements (s.unfinished - 1) [])) t) w
        → r ≡ with_unfinished s s.unfinished
        → HasUnfinished s r w (merge_in (kept_unfinished s m) b)
    unfolding in_place_of z merged_of new_bar_at with_element with_first
    merged_put k t q y d e =
        let n = s.unfinished in
        let K = s.rooms.unfinished in
        let v = set_new_bar m (n - 1) d.bar in
        let g : n - 1 + 1 ≡ n = omega arith in
        let reads : merged_of d.bar ≡ with_element k z b.time = d.reads ∙ ap (with_element k z) q in
        has_unfinished s r w v n (merge_in (kept_unfinished s m) b) e d.store (sized-merged-set m (n - 1) K d.bar h) fits
        (ap (λ (j : ℕ). take j (merged_bars v)) (sym g)
        ∙ merged_appended m (n - 1) K d.bar h (omega arith)
        ∙ last-merged (merged_bars m) n z b two (rw (merged-length m K h) fits) (merged_of d.bar) (included_elements z b k1.high k (rw y at found-there) (merged_of d.bar) reads ∙ there))

    put_apart : o ≡ Std.None → kept_unfinished s m ++ own b ∷ [] ≡ merge_in (kept_unfinished s m) b
    unfolding in_place_of
    put_apart y =
        last_apart (merged_bars m) s.unfinished z b two (rw (merged-length m s.rooms.unfinished h) fits) (own b)
        (ap (λ (u : Merged). u ∷ own b ∷ []) last-there ∙ included_own z b k1.high (subst (λ (x : Std.Option Bar). in_place_of z.bar x b ≡ remove_include_bar k1.high z.bar b) y found-there) ∙ there)

    pub apart-room : o ≡ Std.None → length (merge_in (kept_unfinished s m) b) ≤ s.rooms.unfinished → s.unfinished < s.rooms.unfinished
    apart-room y a =
        let g = length-take-le s.unfinished (merged_bars m) (rw (merged-length m s.rooms.unfinished h) fits) in
        let e = ap length (put_apart y) in
        let f = length-append (kept_unfinished s m) (own b ∷ []) in
        omega arith

    pub apart_put : o ≡ Std.None → s.unfinished < s.rooms.unfinished → BarWritten m s.unfinished (own b) w → r ≡ with_unfinished s (s.unfinished + 1) → HasUnfinished s r w (merge_in (kept_unfinished s m) b)
    apart_put y c d e = put_behind c (put_apart y) d e

-- ---- the break

-- m rows of another list before the rows from place j on of the first n
pub joined-rows : {A : Type 0} (l k : List A) (m j n at : ℕ) → j ≤ n → n ≤ length l → m + (n - j) ≤ length l → at + m ≤ length k
    → take (m + (n - j)) (copied (copied l m l j (n - j)) 0 k at m) ≡ take m (drop at k) ++ drop j (take n l)
unfolding copied
joined-rows {A} l k m j n at h b c e =
    let q = n - j in
    let d = copied l m l j q in
    let a : length (take m (drop at k)) ≡ m = length-take-le m (drop at k) (rw length-drop (omega arith)) in
    let f : j + q ≡ n = omega arith in
    let g : length (take m l) ≡ m = length-take-le m l (omega arith) in
    let z = zero-add m in
    ap (λ (i : ℕ). take (m + q) (take m (drop at k) ++ drop i d)) z
    ∙ ap (λ (i : ℕ). take (i + q) (take m (drop at k) ++ drop m d)) (sym a)
    ∙ take-append-add (take m (drop at k)) (drop m d) q
    ∙ ap (λ (x : List A). take m (drop at k) ++ x)
    (run_is d m q
    ∙ ap (drop m) (take-copied l l m j q c (omega arith))
    ∙ drop_at (take m l) (take q (drop j l)) m g
    ∙ run_is l j q
    ∙ ap (λ (i : ℕ). drop j (take i l)) f)

map_both : (l : List Merged) → map (λ b. b.time) (map (λ k. k.bar) l) ≡ map (λ k. k.bar.time) l
map_both [] = refl
map_both (k ∷ l) = ap (λ (r : List ℤ). k.bar.time ∷ r) (map_both l)

merged-times : (s : MergedStore) (n : ℕ) → SizedMerged s n → map (λ k. k.bar.time) (merged_bars s) ≡ s.times
merged-times s n h = sym (map_both (merged_bars s)) ∙ ap (map (λ b. b.time)) (merged-bars s n h) ∙ raw-times (raw_part s) n h.raw

module _ (s : Stand) (u k : MergedStore) (at n j : ℕ) (h : CanJoin s u k at n) (place : j ≡ place_of (get_or k.times (at + (n - 2)) (pos 0)) (take s.unfinished u.times)) where
  pub join-place : j ≤ s.unfinished
  join-place = place_in (get_or k.times (at + (n - 2)) (pos 0)) u.times s.unfinished j (rw h.unfinished.raw.times h.fits) place

  -- what document 01 joins, read off the stores
  join-reads : joined (stored_stroke k at n) (kept_unfinished s u) ≡ take (n - 2) (drop at (merged_bars k)) ++ drop j (kept_unfinished s u)
  unfolding joined stored_stroke stroke_with from_bar from merged_of new_bar_at bar_at bar_of
  join-reads =
      let l = merged_bars k in
      let x = drop at l in
      let two = h.two in
      let within = h.within in
      let g : n - 1 - 1 ≡ n - 2 = omega arith in
      let y : length l ≡ s.rooms.strokes = merged-length k s.rooms.strokes h.strokes in
      let f : n ≤ length x = rw length-drop (omega arith) in
      let z = merged_of (new_bar_at k 0) in
      let t = get_or k.times (at + (n - 2)) (pos 0) in
      let p : init (take n x) ≡ take (n - 1) x = init-take n x (omega arith) f in
      let q : init (init (take n x)) ≡ take (n - 2) x = ap init p ∙ init-take (n - 1) x (omega arith) (omega arith) ∙ ap (λ (i : ℕ). take i x) g in
      let e : last (init (take n x)) ≡ some (get_or l (at + (n - 2)) z) =
      ap last p ∙ last-take (n - 1) x z (omega arith) (omega arith) ∙ ap (λ (i : ℕ). some (get_or x i z)) g ∙ ap some (get_or-drop at l (n - 2) z) in
      let v : (get_or l (at + (n - 2)) z).bar.time ≡ t =
      ap (λ (a : Merged). a.bar.time) (merged-at k (at + (n - 2)) z (room_of k s.rooms.strokes (at + (n - 2) + 1) h.strokes (omega arith))) in
      (λ i. q i ++ from_bar (e i) (kept_unfinished s u))
      ∙ ap (λ (a : ℤ). take (n - 2) x ++ from a (kept_unfinished s u)) v
      ∙ ap (λ (a : List Merged). take (n - 2) x ++ a) (passed (λ b. b.bar.time) t (merged_bars u) u.times s.unfinished j (merged-times u s.rooms.unfinished h.unfinished) place)

  pub join-room : n - 2 + (s.unfinished - j) ≤ s.rooms.unfinished
  join-room =
      let l = merged_bars k in
      let two = h.two in
      let within = h.within in
      let y : length l ≡ s.rooms.strokes = merged-length k s.rooms.strokes h.strokes in
      let f : n - 2 ≤ length (drop at l) = rw length-drop (omega arith) in
      let p = length-take-le (n - 2) (drop at l) f in
      let q : length (kept_unfinished s u) ≡ s.unfinished = length-take-le s.unfinished (merged_bars u) (rw (merged-length u s.rooms.unfinished h.unfinished) h.fits) in
      let d = length-drop j (kept_unfinished s u) in
      let e = ap length join-reads ∙ length-append (take (n - 2) (drop at l)) (drop j (kept_unfinished s u)) in
      let r = h.room in
      omega arith

  -- the store that the rest was brought in has room for the stroke's bars
  pub join-after : (w : MergedStore) → CopiedInUse u (n - 2) u j (s.unfinished - j) w → RoomMerged w (0 + (n - 2))
  join-after w e =
      let K = s.rooms.unfinished in
      let fits = h.fits in
      let jn = join-place in
      let jr = join-room in
      room_of w K (0 + (n - 2)) (copied-sized u u w (n - 2) j (s.unfinished - j) K K h.unfinished h.unfinished e jr (omega arith)) (omega arith)

  pub was_joined : (r : Stand) (v w : MergedStore) → CopiedInUse u (n - 2) u j (s.unfinished - j) v → CopiedInUse v 0 k at (n - 2) w
      → r ≡ with_unfinished (without_last s) (n - 2 + (s.unfinished - j))
      → HasUnfinished (without_last s) r w (joined (stored_stroke k at n) (kept_unfinished s u))
  unfolding without_last
  was_joined r v w d f e =
      let K = s.rooms.unfinished in
      let S = s.rooms.strokes in
      let m = n - 2 in
      let i = s.unfinished - j in
      let two = h.two in
      let within = h.within in
      let fits = h.fits in
      let jn = join-place in
      let jr = join-room in
      let first = copied-sized u u v m j i K K h.unfinished h.unfinished d (omega arith) (omega arith) in
      let z = zero-add m in
      has_unfinished (without_last s) r w w (m + i) (joined (stored_stroke k at n) (kept_unfinished s u)) e refl
      (copied-sized v k w 0 at m K S first h.strokes f (omega arith) (omega arith))
      jr
      (ap (take (m + i)) (copied_read v k w 0 at m K S first h.strokes f ∙ ap (λ (x : List Merged). copied x 0 (merged_bars k) at m) (copied_read u u v m j i K K h.unfinished h.unfinished d))
      ∙ joined-rows (merged_bars u) (merged_bars k) m j s.unfinished at jn (rw (merged-length u K h.unfinished) fits) (rw (merged-length u K h.unfinished) jr) (rw (merged-length k S h.strokes) (omega arith))
      ∙ sym join-reads)

-- the place at which joining begins, as it is found among the times that are seen
pub join_found : (s : Stand) (u k w : MergedStore) (at n j : ℕ) → CanJoin s u k at n → SFits w64 (get_or k.times (at + (n - 2)) (pos 0)) → w ≡ u
    → j ≡ place_of (to_z w64 (of_z w64 (get_or k.times (at + (n - 2)) (pos 0)))) (take s.unfinished w.times)
    → j ≡ place_of (get_or k.times (at + (n - 2)) (pos 0)) (take s.unfinished u.times)
join_found s u k w at n j h fits q p = p ∙ (λ i. place_of (to_z-of_z w64 (get_or k.times (at + (n - 2)) (pos 0)) fits i) (take s.unfinished (q i).times))

-- ---- merging, as a step reads the last two bars

-- a bar as it is seen
pub seen_bar : (m v : MergedStore) (r : RawStore) (i : ℕ) (k : Bar) → v ≡ m → r ≡ raw_part v → k ≡ bar_at r i → k ≡ bar_at (raw_part m) i
seen_bar m v r i k e q p = p ∙ ap (λ (x : RawStore). bar_at x i) (q ∙ ap raw_part e)
