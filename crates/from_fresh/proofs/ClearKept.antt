-- A later bar that makes no stroke, where none was kept, changes the unfinished bars at the ends only: some of the first are cut off, and the bar is put on behind or
-- merged into the last. So where the first windows hold no fractal, those that are left hold none afterwards, but for the one that the merged bar comes into.
-- Assumes nothing.
use Rattle.std.specs.Prelude.{None}
use Prim.Native.Nat.{ℕ, zero, suc, ◌+◌, ◌-◌, ◌≤◌, ◌<◌}
use native.Mathlib.Omega.{arith}
use mathlib.Core.Path.{◌≡◌, refl, ap, sym, ◌∙◌}
use mathlib.Core.Bool.{Bool, true, false}
use mathlib.Core.List.{List, [], ◌∷◌, ◌++◌, map}
use mathlib.Core.Logic.{◌⊎◌, inl, inr}
use lib.ListN.{length, take, drop, get_or, length-append, length-drop}
use lib.Seq.{get_or-take, get_or-drop, length-take-le}
use lib.Dec.{T, leb, ltb}
use lib.Ieee.{lt}
use Rattle.bars.specs.declared.Bar.{Bar}
use Rattle.bars.specs.Bars.{Merged, own, merged_of}
use Rattle.bars.specs.Lists.{last, init}
use Rattle.bars.specs.Merging.{contains, settle, remove_include, merge_in}
use Rattle.bars.proofs.MergedLists.{merge_in_grows}
use Rattle.stores.specs.Stores.{MergedStore, bar_of, raw_bars, merged_bars}
use Rattle.stores.specs.Code.StoreRows.{SizedMerged, new_bar_at}
use Rattle.stores.specs.Code.StoreRows as rows
use Rattle.stores.proofs.Columns.{raw-length, merged-length, merged-at}
use Rattle.stores.proofs.AgainBound.{init-length}
use Rattle.machine.specs.declared.Mark.TheVariants.{D}
use Rattle.machine.specs.Strokes.{Stroke, Found, check_bi, cut}
use Rattle.machine.specs.Stand.{Settings, State}
use Rattle.machine.specs.Feed.{Moved, Events, is_later, raw_with, merged_with, add_found, add_made, make_after, move_after, move_if, move, shed_if, drop_early, finish_if, finish, step_with, step}
use Rattle.machine.proofs.FewerFractals.{nothing_found, MadeFrom, check_outcome}
use Rattle.check_bi.specs.Code.Scan.{candle_of, taken_of, scan_of, cut_place}
use Rattle.check_bi.specs.Code.View.{candle_from}
use Rattle.check_bi.specs.Code.Windows.{bar_at, taken_at, NoFractals}
use Rattle.check_bi.proofs.ScanPlaces.{cut_means}
use Rattle.check_bi.proofs.ScanWindows.{taken_timed}
use Rattle.strokes.specs.declared.Stand.{Stand}
use Rattle.strokes.specs.StateRead.{stored_fractals, strokes_with, settings_of, bar_counts, fractal_counts, state_of, sized, bare_state}
use Rattle.strokes.specs.Lent.{Stores}
use Rattle.sound.proofs.NewestLaws.{Lengths, lengths}
use Rattle.feed.specs.PortCalls.{FeedIs}

-- ---- merging leaves all bars but the last

module _ (x : Merged) (b : Bar) where
  settle_keeps : (u d t : Bool) (k : Merged) (i : ℕ) → i + 1 < length (settle u d t k b) → get_or (settle u d t k b) i x ≡ get_or (k ∷ []) i x
  unfolding settle
  settle_keeps true d true k i h = absurd (omega arith)
  settle_keeps false true true k i h = absurd (omega arith)
  settle_keeps false false true k zero h = refl
  settle_keeps false false true k (suc i) h = absurd (omega arith)
  settle_keeps true d false k zero h = refl
  settle_keeps true d false k (suc i) h = absurd (omega arith)
  settle_keeps false true false k zero h = refl
  settle_keeps false true false k (suc i) h = absurd (omega arith)
  settle_keeps false false false k zero h = refl
  settle_keeps false false false k (suc i) h = absurd (omega arith)

  merge_keeps : (l : List Merged) (i : ℕ) → i + 1 < length (merge_in l b) → get_or (merge_in l b) i x ≡ get_or l i x
  unfolding merge_in remove_include
  merge_keeps [] i h = absurd (omega arith)
  merge_keeps (k1 ∷ []) zero h = refl
  merge_keeps (k1 ∷ []) (suc i) h = absurd (omega arith)
  merge_keeps (k1 ∷ k2 ∷ []) zero h = refl
  merge_keeps (k1 ∷ k2 ∷ []) (suc i) h =
      settle_keeps (lt k1.bar.high k2.bar.high) (lt k2.bar.high k1.bar.high) (contains k2.bar b) k2 i (omega arith)
  merge_keeps (k1 ∷ k2 ∷ k3 ∷ l) zero h = refl
  merge_keeps (k1 ∷ k2 ∷ k3 ∷ l) (suc i) h = merge_keeps (k2 ∷ k3 ∷ l) i (omega arith)

-- ---- a step with no stroke before and none after

-- no stroke is kept, and the bars l are left but for some of the first
record Unmade (l : List Merged) (m : Moved) : Type 0 where
  place : ℕ
  left : m.left ≡ drop place l
  kept : m.kept ≡ []

add_unmade : (minimum : ℕ) (l : List Merged) (f : Found) → (f ≡ nothing_found l) ⊎ MadeFrom minimum l f → (add_made [] f).made ≡ 0
    → ((add_made [] f).left ≡ l) × ((add_made [] f).kept ≡ [])
unfolding add_made add_found
add_unmade minimum l f (inl e) h = (ap (λ (z : Found). (add_made [] z).left) e, ap (λ (z : Found). (add_made [] z).kept) e)
add_unmade minimum l f (inr w) h =
    let p : (add_made [] f).made ≡ 1 = ap (λ (z : Found). (add_made [] z).made) w.found in
    absurd (omega arith)

move_by : (t : Bool) (minimum : ℕ) (l : List Merged) → (move_if t minimum l []).made ≡ 0 → Unmade l (move_if t minimum l [])
unfolding move_if move_after make_after
move_by true minimum l h =
    let a = add_unmade minimum (cut l) (check_bi minimum (cut l)) (check_outcome minimum (cut l)) h in
    record { place = cut_place (scan_of (map candle_of l)); left = a.0 ∙ cut_means l; kept = a.1 }
move_by false minimum l h = record { place = 0; left = refl; kept = refl }

move_unmade : (minimum : ℕ) (l : List Merged) (bs : List Stroke) → bs ≡ [] → (move minimum l bs).made ≡ 0 → Unmade l (move minimum l bs)
unfolding move
move_unmade minimum l [] e h = move_by (leb 3 (length l)) minimum l h
move_unmade minimum l (b ∷ bs) e h =
    let p : suc (length bs) ≡ 0 = ap length e in
    absurd (omega arith)

-- no raw bar is dropped
finish-raw : (t : Bool) (raw : List Bar) (m : Moved) → m.kept ≡ [] → (finish_if t raw m).state.raw ≡ raw
unfolding finish_if shed_if drop_early
finish-raw true raw m e = ap (λ (bs : List Stroke). drop_early (drop 1 bs) raw) e
finish-raw false raw m e = ap (λ (bs : List Stroke). drop_early bs raw) e

-- a bar that is not later stands behind a raw bar, which it replaces
replaces : (l : List Bar) (b : Bar) → is_later (last l) b ≡ false → 1 ≤ length l
unfolding is_later last
replaces [] b e = let y : ◌≡◌ {A = ℕ} 0 1 = cc in absurd (omega arith)
replaces (a ∷ l) b e = omega arith

module _ (minimum most : ℕ) (x : State) (b : Bar) (none_kept : x.strokes ≡ []) where
  -- by whether the bar is later
  left_by : (t : Bool) → is_later (last x.raw) b ≡ t → (step_with minimum most t x b).events.made ≡ 0 → length (step_with minimum most t x b).state.raw ≡ length x.raw + 1
      → (k : ℕ) × ((step_with minimum most t x b).state.unfinished ≡ drop k (merge_in x.unfinished b))
  unfolding step_with finish finish_if raw_with merged_with
  left_by true e h r = let w = move_unmade minimum (merge_in x.unfinished b) x.strokes none_kept h in (w.place, w.left)
  left_by false e h r =
      let l = merged_with false x b in
      let m = move minimum l x.strokes in
      let w = move_unmade minimum l x.strokes none_kept h in
      let p = ap length (finish-raw (ltb most (length m.kept)) (init x.raw ++ b ∷ []) m w.kept) in
      let q = length-append (init x.raw) (b ∷ []) in
      let i = init-length x.raw in
      let some-raw = replaces x.raw b e in
      absurd (omega arith)

-- the unfinished bars afterwards are the merged ones but for some of the first
step_left : (c : Settings) (x : State) (b : Bar) → x.strokes ≡ [] → (step c x b).events.made ≡ 0 → length (step c x b).state.raw ≡ length x.raw + 1
    → (k : ℕ) × ((step c x b).state.unfinished ≡ drop k (merge_in x.unfinished b))
unfolding step
step_left c x b e h r = left_by c.minimum c.most x b e (is_later (last x.raw) b) refl h r

-- ---- windows of bars and of rows

abbrev window : Merged → List Merged → ℕ → Bool
window x l j = taken_of None (candle_of (get_or l j x)) (candle_of (get_or l (j + 1) x)) (candle_of (get_or l (j + 2) x))

-- a window of what is left is one of the bars before
window_kept : (x : Merged) (l : List Merged) (b : Bar) (k j : ℕ) → j + 3 < length (drop k (merge_in l b)) → window x (drop k (merge_in l b)) j ≡ window x l (k + j)
window_kept x l b k j h =
    let n = length-drop k (merge_in l b) in
    let at : (i : ℕ) → i < 3 → get_or (drop k (merge_in l b)) (j + i) x ≡ get_or l (k + j + i) x =
    λ i g.
    (let e : k + (j + i) ≡ k + j + i = omega arith in
    get_or-drop k (merge_in l b) (j + i) x ∙ ap (λ (p : ℕ). get_or (merge_in l b) p x) e ∙ merge_keeps x b l (k + j + i) (omega arith)) in
    let first : get_or (drop k (merge_in l b)) j x ≡ get_or l (k + j) x =
    get_or-drop k (merge_in l b) j x ∙ merge_keeps x b l (k + j) (omega arith) in
    λ i. taken_of None (candle_of (first i)) (candle_of (at 1 (omega arith) i)) (candle_of (at 2 (omega arith) i))

module _ (x : Merged) (u : MergedStore) (room n : ℕ) (h : SizedMerged u room) (fits : n ≤ room) where
  candle-at : (i : ℕ) → i < n → candle_of (get_or (take n (merged_bars u)) i x) ≡ bar_at u.times u.prices i
  unfolding candle_of merged_of new_bar_at rows.bar_at bar_of candle_from
  candle-at i g =
      let a = h.raw.times in
      let b = h.raw.ids in
      let c = h.raw.prices in
      let d = h.counts in
      let e = h.elements in
      ap candle_of (get_or-take n (merged_bars u) i x g
      ∙ merged-at u i x (record { raw = record { times = omega arith; ids = omega arith; prices = omega arith }; counts = omega arith; elements = omega arith }))

  row_window : (j : ℕ) → j + 2 < n → window x (take n (merged_bars u)) j ≡ taken_at u.prices None j
  row_window j g =
      taken_timed u.times u.prices None j _ _ _ (candle-at j (omega arith)) (candle-at (j + 1) (omega arith)) (candle-at (j + 2) (omega arith))

-- ---- what is read of the stand and its stores

no_strokes : (s : Stand) (m : Stores) → s.strokes ≡ 0 → (state_of s m).strokes ≡ []
unfolding state_of bar_counts strokes_with
no_strokes s m e = ap (λ (n : ℕ). strokes_with (take n s.bars) (fractal_counts s) (merged_bars m.strokes) (stored_fractals m.fractals)) e

module _ (s : Stand) (m : Stores) (f : Lengths s m) where
  raw_read : length (state_of s m).raw ≡ s.raw
  unfolding state_of
  raw_read = length-take-le s.raw (raw_bars m.raw) (rw (raw-length m.raw s.rooms.raw f.raw) f.few-raw)

  unfinished_read : length (state_of s m).unfinished ≡ s.unfinished
  unfolding state_of
  unfinished_read =
      length-take-le s.unfinished (merged_bars m.unfinished) (rw (merged-length m.unfinished s.rooms.unfinished f.unfinished) f.few-unfinished)

  window_read : (x : Merged) (j : ℕ) → j + 2 < s.unfinished → window x (state_of s m).unfinished j ≡ taken_at m.unfinished.prices None j
  unfolding state_of
  window_read x j h = row_window x m.unfinished s.rooms.unfinished s.unfinished f.unfinished f.few-unfinished j h

-- ---- one feed

module _ {s s' : Stand} {m m' : Stores} {b : Bar} {made broken shed : ℕ} (f : FeedIs s m b 0 made broken shed s' m') (sizes : T (sized s m)) (none_kept : s.strokes ≡ 0)
    (none_made : made ≡ 0) (later : s'.raw ≡ s.raw + 1) where
  abbrev old : State
  old = state_of s m

  abbrev new : State
  new = (step (settings_of s) old b).state

  abbrev before : Lengths s m
  before = lengths s m sizes

  abbrev after : Lengths s' m'
  after = lengths s' m' (f.accepted refl).3

  raw-is : (state_of s' m').raw ≡ new.raw
  unfolding bare_state
  raw-is = ap (λ (x : State). x.raw) (f.accepted refl).0

  unfinished-is : (state_of s' m').unfinished ≡ new.unfinished
  unfolding bare_state
  unfinished-is = ap (λ (x : State). x.unfinished) (f.accepted refl).0

  cut_off : (k : ℕ) × ((state_of s' m').unfinished ≡ drop k (merge_in old.unfinished b))
  cut_off =
      let e = sym (ap (λ (x : Events). x.made) (f.accepted refl).1) ∙ none_made in
      let p = ap length raw-is in
      let q = raw_read s m before in
      let r = raw_read s' m' after in
      let w = step_left (settings_of s) old b (no_strokes s m none_kept) e (omega arith) in
      (w.0, unfinished-is ∙ w.1)

  -- All windows that were known are known yet if there is one more unfinished bar, and one less for each bar that is missing to that.
  pub clear_left : (c : ℕ) → NoFractals m.unfinished.prices c → c + 2 ≤ s.unfinished → NoFractals m'.unfinished.prices (c + s'.unfinished - (s.unfinished + 1))
  clear_left c known fits j h =
      let w = cut_off in
      let k = w.0 in
      let u = old.unfinished in
      let n = unfinished_read s m before in
      let n' = unfinished_read s' m' after in
      let l = ap length w.1 in
      let d = length-drop k (merge_in u b) in
      let g = (merge_in_grows u b).most in
      sym (window_read s' m' after (own b) j (omega arith))
      ∙ ap (λ (z : List Merged). window (own b) z j) w.1
      ∙ window_kept (own b) u b k j (omega arith)
      ∙ window_read s m before (own b) (k + j) (omega arith)
      ∙ known (k + j) (omega arith)

  -- so where there are not fewer unfinished bars than before, all but one
  pub clear_kept : s.unfinished ≤ s'.unfinished → (c : ℕ) → NoFractals m.unfinished.prices c → c + 2 ≤ s.unfinished
      → NoFractals m'.unfinished.prices (c - 1) × (c - 1 + 2 ≤ s'.unfinished)
  clear_kept more c known fits = ((λ j h. clear_left c known fits j (omega arith)), omega arith)
