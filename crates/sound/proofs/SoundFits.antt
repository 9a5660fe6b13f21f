-- What the tests of lengths and numbers say of the columns. Assumes nothing.
use Prim.Native.Nat.{ℕ, ◌≤◌}
use Prim.Native.Nat.{◌-◌}
use native.Mathlib.Omega.{arith}
use mathlib.Core.Path.{◌≡◌, ap, sym, ◌∙◌, subst}
use mathlib.Core.Bool.{Bool, true, false, ◌&&◌}
use mathlib.Core.List.{List}
use lib.IntN.{ℤ}
use lib.ListN.{length, take, drop, length-take, length-drop}
use lib.Dec.{T, leb, eqb, leb→le, eqb→eq}
use lib.Ieee.Fits.{and_l, and_r}
use Rattle.stores.specs.Stores.{RawStore, MergedStore}
use Rattle.stores.specs.Code.StoreRows.{SizedRaw, SizedMerged, RoomRaw, RoomMerged}
use Rattle.stores.specs.Columns.{raw_cut, merged_cut}
use Rattle.strokes.specs.declared.Stand.{Stand}
use Rattle.machine.specs.Soundness.{is_room, rooms_pass, settings_pass, settings_sound}
use Rattle.strokes.specs.StateRead.{settings_of, bar_counts, total, raw_sized, merged_sized, fractal_sized, stores_sized, counts_sized}
use Rattle.strokes.specs.Lent.{Stores, FractalStore}
use Rattle.strokes.specs.Code.StrokeSteps.{SizedFractals}
use Rattle.strokes.proofs.StoredUnfinished.{room_of}
use Rattle.strokes.proofs.StoredStrokes.{sized-merged}
use Rattle.sound.specs.Code.SoundStand.{numbers_pass, raw_columns, unfinished_columns, front_columns, strokes_columns}
use Rattle.arith.proofs.Tests.{holds}
use Rattle.sound.proofs.SoundStrokes.{cut_first}

eq-two : (n a b : ℕ) → T (eqb a n && eqb b n) → (a ≡ n) × (b ≡ n)
eq-two n a b h = (eqb→eq a n (and_l (eqb a n) (eqb b n) h), eqb→eq b n (and_r (eqb a n) (eqb b n) h))

eq-three : (n a b c : ℕ) → T (eqb a n && (eqb b n && eqb c n)) → (a ≡ n) × (b ≡ n) × (c ≡ n)
eq-three n a b c h =
    let k = eq-two n b c (and_r (eqb a n) (eqb b n && eqb c n) h) in
    (eqb→eq a n (and_l (eqb a n) (eqb b n && eqb c n) h), k.0, k.1)

pub raw_fit : (n : ℕ) (r : RawStore) → T (raw_sized n r) → SizedRaw r n
unfolding raw_sized
raw_fit n r h =
    let k = eq-three n (length r.times) (length r.ids) (length r.prices) h in
    record { times = k.0; ids = k.1; prices = k.2 }

pub fractal_fit : (n : ℕ) (f : FractalStore) → T (fractal_sized n f) → (length f.stamps ≡ n) × (length f.prices ≡ n)
unfolding fractal_sized
fractal_fit n f h = eq-two n (length f.stamps) (length f.prices) h

-- every store has its room, and the counts fit
pub record Fit (s : Stand) (m : Stores) : Type 0 where
  pub raw : SizedRaw m.raw s.rooms.raw
  pub unfinished : SizedMerged m.unfinished s.rooms.unfinished
  pub strokes : SizedMerged m.strokes s.rooms.strokes
  pub fractals : (length m.fractals.stamps ≡ s.rooms.strokes) × (length m.fractals.prices ≡ s.rooms.strokes)
  pub few-raw : s.raw ≤ s.rooms.raw
  pub few-unfinished : s.unfinished ≤ s.rooms.unfinished
  pub few-strokes : s.strokes ≤ 64
  pub few-bars : total (bar_counts s) ≤ s.rooms.strokes
  pub small-raw : s.rooms.raw ≤ 65536
  pub small-strokes : s.rooms.strokes ≤ 65536

room_small : (n : ℕ) → T (is_room n) → n ≤ 65536
unfolding is_room
room_small n h = leb→le n 65536 (and_r (leb 16 n) (leb n 65536) h)

pub fit : (s : Stand) (m : Stores) → stores_sized s m ≡ true → numbers_pass s ≡ true → Fit s m
unfolding stores_sized numbers_pass counts_sized settings_sound settings_of rooms_pass
fit s m e f =
    let r = s.rooms in
    let h = holds e in
    let a = raw_sized r.raw m.raw in
    let b = merged_sized r.unfinished m.unfinished in
    let c = merged_sized r.strokes m.strokes in
    let d = fractal_sized r.strokes m.fractals in
    let ab = and_l (a && b) (c && d) h in
    let cd = and_r (a && b) (c && d) h in
    let g = holds f in
    let x = leb s.raw r.raw && leb s.unfinished r.unfinished in
    let y = leb s.strokes 64 && leb (total (bar_counts s)) r.strokes in
    let p = is_room r.raw && (is_room r.unfinished && is_room r.strokes) in
    let q = settings_pass (settings_of s) in
    let xy = and_l (x && y) (p && q) g in
    let hx = and_l x y xy in
    let hy = and_r x y xy in
    let hp = and_l p q (and_r (x && y) (p && q) g) in
    record {
      raw = raw_fit r.raw m.raw (and_l a b ab);
      unfinished = sized-merged r.unfinished m.unfinished (and_r a b ab);
      strokes = sized-merged r.strokes m.strokes (and_l c d cd);
      fractals = fractal_fit r.strokes m.fractals (and_r c d cd);
      few-raw = leb→le s.raw r.raw (and_l (leb s.raw r.raw) (leb s.unfinished r.unfinished) hx);
      few-unfinished = leb→le s.unfinished r.unfinished (and_r (leb s.raw r.raw) (leb s.unfinished r.unfinished) hx);
      few-strokes = leb→le s.strokes 64 (and_l (leb s.strokes 64) (leb (total (bar_counts s)) r.strokes) hy);
      few-bars = leb→le (total (bar_counts s)) r.strokes (and_r (leb s.strokes 64) (leb (total (bar_counts s)) r.strokes) hy);
      small-raw = room_small r.raw (and_l (is_room r.raw) (is_room r.unfinished && is_room r.strokes) hp);
      small-strokes = room_small r.strokes (and_r (is_room r.unfinished) (is_room r.strokes) (and_r (is_room r.raw) (is_room r.unfinished && is_room r.strokes) hp));
    }

-- ---- the bars that are kept, as parts of the columns

pub kept_raw : {s : Stand} {m : Stores} → Fit s m → RoomRaw m.raw s.raw
kept_raw f = let a = f.few-raw in record { times = rw f.raw.times a; ids = rw f.raw.ids a; prices = rw f.raw.prices a }

pub kept_unfinished : {s : Stand} {m : Stores} → Fit s m → RoomMerged m.unfinished s.unfinished
kept_unfinished {s = s} {m = m} f = room_of m.unfinished s.rooms.unfinished s.unfinished f.unfinished f.few-unfinished

-- the tests of the first two stores
front-is : (n k : ℕ) (r : RawStore) (u : MergedStore) {v : RawStore} {w : MergedStore} → v ≡ raw_cut 0 n r → w ≡ merged_cut 0 k u
    → (raw_columns v.times v.prices && unfinished_columns v.times w.times w.prices w.counts w.elements) ≡ front_columns n k r u
unfolding front_columns
front-is n k r u h g =
    (λ i. raw_columns (h i).times (h i).prices && unfinished_columns (h i).times (g i).times (g i).prices (g i).counts (g i).elements)
    ∙ (λ i. raw_columns (cut_first r.times n i) (cut_first r.prices n i) && unfinished_columns (cut_first r.times n i) (cut_first u.times k i) (cut_first u.prices k i) (cut_first u.counts k i) (cut_first u.elements k i))

pub front_no_raw : (n k : ℕ) (r : RawStore) (u : MergedStore) {v : RawStore} {w : MergedStore} → v ≡ raw_cut 0 n r → w ≡ merged_cut 0 k u → raw_columns v.times v.prices ≡ false → front_columns n k r u ≡ false
front_no_raw n k r u {v = v} {w = w} h g e = sym (front-is n k r u h g) ∙ ap (λ (t : Bool). t && unfinished_columns v.times w.times w.prices w.counts w.elements) e

pub front_with : (n k : ℕ) (r : RawStore) (u : MergedStore) {v : RawStore} {w : MergedStore} → v ≡ raw_cut 0 n r → w ≡ merged_cut 0 k u → raw_columns v.times v.prices ≡ true
    → (t : Bool) → unfinished_columns v.times w.times w.prices w.counts w.elements ≡ t → front_columns n k r u ≡ t
front_with n k r u {v = v} {w = w} h g e t f = sym (front-is n k r u h g) ∙ ap (λ (x : Bool). x && unfinished_columns v.times w.times w.prices w.counts w.elements) e ∙ f

-- no more raw times than the store has
pub few_times : {s : Stand} {m : Stores} {v : RawStore} → Fit s m → v ≡ raw_cut 0 s.raw m.raw → length v.times ≤ 65536
few_times {s = s} {m = m} {v = v} f e =
    let p : length v.times ≡ length (take (s.raw - 0) (drop 0 m.raw.times)) = ap (λ (r : RawStore). length r.times) e in
    let q = length-take (s.raw - 0) (drop 0 m.raw.times) in
    let a = f.raw.times in
    let b = f.small-raw in
    omega (arith, length-drop 0 m.raw.times)

-- what the walk over the strokes asks
pub strokes_few : {s : Stand} {m : Stores} → Fit s m
    → (s.strokes ≤ 64) × (length m.strokes.times ≤ 65536) × (total (take s.strokes s.bars) ≤ length m.strokes.times)
unfolding bar_counts
strokes_few f = let t = f.strokes.raw.times in (f.few-strokes, rw t f.small-strokes, rw t f.few-bars)

pub strokes_sized : {s : Stand} {m : Stores} → Fit s m → SizedMerged m.strokes (length m.strokes.times) × SizedFractals m.fractals (length m.strokes.times)
strokes_sized {m = m} f =
    let t = f.strokes.raw.times in
    (subst (SizedMerged m.strokes) (sym t) f.strokes, record { stamps = f.fractals.0 ∙ sym t; prices = f.fractals.1 ∙ sym t })

-- the tests of the strokes
pub by_part : (s : Stand) (m : Stores) {v : RawStore} → v ≡ raw_cut 0 s.raw m.raw
    → (leb s.strokes s.most && strokes_columns v.times (take s.strokes s.bars) (take s.strokes s.fractals) m.strokes.times m.strokes.prices m.strokes.counts m.strokes.elements m.fractals.stamps m.fractals.prices)
    ≡ (leb s.strokes s.most && strokes_columns (take s.raw m.raw.times) (take s.strokes s.bars) (take s.strokes s.fractals) m.strokes.times m.strokes.prices m.strokes.counts m.strokes.elements m.fractals.stamps m.fractals.prices)
by_part s m e =
    ap (λ (l : List ℤ). leb s.strokes s.most && strokes_columns l (take s.strokes s.bars) (take s.strokes s.fractals) m.strokes.times m.strokes.prices m.strokes.counts m.strokes.elements m.fractals.stamps m.fractals.prices)
    (ap (λ (r : RawStore). r.times) e ∙ cut_first m.raw.times s.raw)
