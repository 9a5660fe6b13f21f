-- What the walk over the kept strokes cites. Assumes nothing.
use Prim.Native.Nat.{ℕ, suc, ◌+◌, ◌-◌, ◌≤◌, ◌<◌}
use native.Mathlib.Omega.{arith}
use mathlib.Core.Path.{◌≡◌, refl, ap, sym, ◌∙◌, subst}
use mathlib.Core.Bool.{Bool, true, false, ◌&&◌}
use mathlib.Core.List.{List, []}
use lib.ListN.{length, take, drop, get_or, length-drop, length-take, drop_of_length-le}
use lib.Seq.{take_all, drop-cons, drop-drop, get_or-take, length-take-le}
use lib.IntN.{ℤ}
use lib.Dec.{T, ltb}
use lib.Ieee.Fits.{and_l}
use Rattle.bars.specs.Lists.{every}
use Rattle.stores.specs.Stores.{MergedStore}
use Rattle.stores.specs.Code.StoreRows.{SizedMerged, RoomMerged, rising}
use Rattle.stores.specs.Columns.{merged_cut}
use Rattle.machine.specs.Soundness.{rises}
use lib.Ieee.{Float}
use borrow.Author.Tests.{lt-ltb, le-ltb, le-leb}
use Rattle.strokes.specs.Lent.{FractalStore}
use Rattle.strokes.specs.Columns.{fractals_cut}
use Rattle.strokes.specs.Code.StrokeSteps.{SizedFractals, RoomFractals}
use Rattle.strokes.specs.StateRead.{total}
use Rattle.strokes.proofs.StoredUnfinished.{room_of}
use Rattle.strokes.proofs.StoredStates.{rises-rising}
use Rattle.sound.specs.Code.SoundStand.{merged_row, small_count, fractal_columns, named_rows, newest_row, skipped, unfinished_columns, in_time, times_pass, raw_row, raw_columns, stroke_columns, strokes_columns}
use Rattle.sound.proofs.SoundNames.{next-total}

-- equal parts of two columns of one length
pub part_lengths : {A B : Type 0} (l : List A) (m : List B) (k j n : ℕ) → length l ≡ n → length m ≡ n → length (take k (drop j l)) ≡ length (take k (drop j m))
part_lengths l m k j n h g = rw (length-take, length-take, length-drop, length-drop, h, g)

-- all that stands from a place on
pub rest_all : {A : Type 0} (l : List A) (j : ℕ) → take (length l - j) (drop j l) ≡ drop j l
rest_all l j = take_all (length l - j) (drop j l) (omega (arith, length-drop j l))

-- a stroke's tests, as the code puts them together
module _ (rt ts : List ℤ) (ps : List (List Float)) (cs : List ℕ) (es fs : List (List ℤ)) (fp : List (List Float)) (four : 4 ≤ length ts) (a : Bool) (is : a ≡ (times_pass ts && (every merged_row ps && every small_count cs))) where
  named : Bool
  named = named_rows rt (take (length ts - 2) (drop 1 cs)) (take (length ts - 2) (drop 1 es))

  split : (x y z f n : Bool) → (x && (y && (z && (f && n)))) ≡ ((x && (y && z)) && (f && n))
  split false y z f n = refl
  split true false z f n = refl
  split true true z f n = refl

  as-asked : stroke_columns rt ts ps cs es fs fp ≡ (a && (fractal_columns fs fp && named))
  unfolding stroke_columns named
  as-asked =
      rw (le-leb 4 (length ts) four)
      (split (times_pass ts) (every merged_row ps) (every small_count cs) (fractal_columns fs fp) named ∙ sym (ap (λ (t : Bool). t && (fractal_columns fs fp && named)) is))

  pub stroke_bad : a ≡ false → false ≡ stroke_columns rt ts ps cs es fs fp
  stroke_bad e = sym (as-asked ∙ ap (λ (t : Bool). t && (fractal_columns fs fp && named)) e)

  by_marks : a ≡ true → stroke_columns rt ts ps cs es fs fp ≡ (fractal_columns fs fp && named)
  by_marks e = as-asked ∙ ap (λ (t : Bool). t && (fractal_columns fs fp && named)) e

  pub stroke_unmarked : (f : Bool) → f ≡ fractal_columns fs fp → a ≡ true → f ≡ false → false ≡ stroke_columns rt ts ps cs es fs fp
  stroke_unmarked f g e h = sym (by_marks e ∙ ap (λ (t : Bool). t && named) (sym g ∙ h))

  pub stroke_named : (f r : Bool) → f ≡ fractal_columns fs fp → a ≡ true → f ≡ true → r ≡ named_rows rt (take (length ts - 1 - 1) (drop 1 cs)) (take (length ts - 1 - 1) (drop 1 es)) → r ≡ stroke_columns rt ts ps cs es fs fp
  unfolding named
  stroke_named f r g e h w =
      let q : length ts - 1 - 1 ≡ length ts - 2 = omega arith in
      (rw q at w) ∙ sym (by_marks e ∙ ap (λ (t : Bool). t && named) (sym g ∙ h))

-- and the unfinished bars'
module _ (rt ts : List ℤ) (ps : List (List Float)) (cs : List ℕ) (es : List (List ℤ)) (a : Bool) (is : a ≡ (times_pass ts && (every merged_row ps && every small_count cs))) where
  rest_named : Bool
  rest_named = named_rows rt (drop (skipped (length cs)) cs) (drop (skipped (length cs)) es)

  front_split : (x y z n : Bool) → (x && (y && (z && n))) ≡ ((x && (y && z)) && n)
  front_split false y z n = refl
  front_split true false z n = refl
  front_split true true z n = refl

  front-asked : unfinished_columns rt ts ps cs es ≡ (a && (newest_row rt cs es && rest_named))
  unfolding unfinished_columns rest_named
  front-asked = front_split (times_pass ts) (every merged_row ps) (every small_count cs) (newest_row rt cs es && rest_named) ∙ sym (ap (λ (t : Bool). t && (newest_row rt cs es && rest_named)) is)

  pub unfinished_bad : a ≡ false → false ≡ unfinished_columns rt ts ps cs es
  unfinished_bad e = sym (front-asked ∙ ap (λ (t : Bool). t && (newest_row rt cs es && rest_named)) e)

  by_newest : a ≡ true → (n : Bool) → n ≡ newest_row rt cs es → (t : Bool) → n ≡ t → unfinished_columns rt ts ps cs es ≡ (t && rest_named)
  by_newest e n g t h = front-asked ∙ ap (λ (x : Bool). x && (newest_row rt cs es && rest_named)) e ∙ ap (λ (x : Bool). x && rest_named) (sym g ∙ h)

  pub unfinished_old : (n : Bool) → n ≡ newest_row rt cs es → a ≡ true → n ≡ false → false ≡ unfinished_columns rt ts ps cs es
  unfinished_old n g e h = sym (by_newest e n g false h)

  pub unfinished_named : (n r : Bool) (k j : ℕ) → n ≡ newest_row rt cs es → a ≡ true → n ≡ true → j ≡ length cs → j ≡ length es → k ≡ skipped j
      → r ≡ named_rows rt (take (j - k) (drop k cs)) (take (j - k) (drop k es)) → r ≡ unfinished_columns rt ts ps cs es
  unfolding rest_named
  unfinished_named n r k j g e h x y q w =
      let z : take (j - k) (drop k cs) ≡ drop k cs = ap (λ (i : ℕ). take (i - k) (drop k cs)) x ∙ rest_all cs k in
      let v : take (j - k) (drop k es) ≡ drop k es = ap (λ (i : ℕ). take (i - k) (drop k es)) y ∙ rest_all es k in
      w ∙ (λ i. named_rows rt (z i) (v i)) ∙ ap (λ (i : ℕ). named_rows rt (drop i cs) (drop i es)) (q ∙ ap skipped x) ∙ sym (by_newest e n g true h)

-- ---- parts of columns

pub all_fit : {s : MergedStore} {n : ℕ} → SizedMerged s n → RoomMerged s n
all_fit {s = s} {n = n} h = room_of s n n h (omega arith)

pub fractals_room : {s : FractalStore} {n k : ℕ} → SizedFractals s n → k ≤ n → RoomFractals s k
fractals_room h a = record { stamps = rw h.stamps a; prices = rw h.prices a }

-- a part of merged bars
module _ {s w : MergedStore} {n : ℕ} (from to : ℕ) (h : SizedMerged s n) (e : w ≡ merged_cut from to s) where
  pub part_counts : length w.counts ≡ length w.elements
  part_counts = subst (λ (m : MergedStore). length m.counts ≡ length m.elements) (sym e) (part_lengths s.counts s.elements (to - from) from n h.counts h.elements)

  pub part_sized : SizedMerged w (length w.times)
  part_sized =
      let t = h.raw.times in
      subst (λ (m : MergedStore). SizedMerged m (length m.times)) (sym e)
      (record {
        raw = record { times = refl; ids = part_lengths s.ids s.times (to - from) from n h.raw.ids t; prices = part_lengths s.prices s.times (to - from) from n h.raw.prices t };
        counts = part_lengths s.counts s.times (to - from) from n h.counts t;
        elements = part_lengths s.elements s.times (to - from) from n h.elements t;
      })

-- a stroke's own part of the columns
pub stroke_cut : (rt : List ℤ) (s : MergedStore) (f : FractalStore) (a z y : ℕ) {w : MergedStore} {g : FractalStore} → w ≡ merged_cut a z s → g ≡ fractals_cut a y f
    → stroke_columns rt w.times w.prices w.counts w.elements g.stamps g.prices
    ≡ stroke_columns rt (take (z - a) (drop a s.times)) (take (z - a) (drop a s.prices)) (take (z - a) (drop a s.counts)) (take (z - a) (drop a s.elements)) (take (y - a) (drop a f.stamps)) (take (y - a) (drop a f.prices))
stroke_cut rt s f a z y h k = λ i. stroke_columns rt (h i).times (h i).prices (h i).counts (h i).elements (k i).stamps (k i).prices

-- all that stands before a place
pub cut_first : {A : Type 0} (l : List A) (n : ℕ) → take (n - 0) (drop 0 l) ≡ take n l
cut_first l n = let e : n - 0 ≡ n = omega arith in ap (λ (k : ℕ). take k l) e

-- ---- the walk

-- the bars of the stroke at k fit
pub room_at : (bars : List ℕ) (n k a top : ℕ) → length bars ≡ 65 → n ≤ 64 → k < n → a + total (drop k (take n bars)) ≤ top → a + get_or bars k 0 ≤ top
room_at bars n k a top e h g f = omega (arith, next-total bars n k (omega arith) g)

pub room_next : (bars : List ℕ) (n k a top : ℕ) → length bars ≡ 65 → n ≤ 64 → k < n → a + total (drop k (take n bars)) ≤ top
    → a + get_or bars k 0 + total (drop (k + 1) (take n bars)) ≤ top
room_next bars n k a top e h g f = omega (arith, next-total bars n k (omega arith) g)

pub strokes-end : (rt : List ℤ) (bars fractals : List ℕ) (n k a : ℕ) (ts : List ℤ) (ps : List (List Float)) (cs : List ℕ) (es fs : List (List ℤ)) (fp : List (List Float)) (v : Bool)
    → n ≤ k → strokes_columns rt (drop k (take n bars)) (drop k (take n fractals)) (drop a ts) (drop a ps) (drop a cs) (drop a es) (drop a fs) (drop a fp) ≡ v → true ≡ v
unfolding strokes_columns
strokes-end rt bars fractals n k a ts ps cs es fs fp v h e =
    let l : length (take n bars) ≤ k = omega (arith, length-take n bars) in
    let q : drop k (take n bars) ≡ [] = drop_of_length-le (take n bars) l in
    sym (ap (λ (ns : List ℕ). strokes_columns rt ns (drop k (take n fractals)) (drop a ts) (drop a ps) (drop a cs) (drop a es) (drop a fs) (drop a fp)) q) ∙ e

module _ (rt : List ℤ) (bars fractals : List ℕ) (n k a : ℕ) (ts : List ℤ) (ps : List (List Float)) (cs : List ℕ) (es fs : List (List ℤ)) (fp : List (List Float))
    (lb : length bars ≡ 65) (lf : length fractals ≡ 65) (hn : n ≤ 64) (h : k < n) where
  here : strokes_columns rt (drop k (take n bars)) (drop k (take n fractals)) (drop a ts) (drop a ps) (drop a cs) (drop a es) (drop a fs) (drop a fp)
      ≡ ((ltb (get_or fractals k 0) (get_or bars k 0)
      && stroke_columns rt (take (get_or bars k 0) (drop a ts)) (take (get_or bars k 0) (drop a ps)) (take (get_or bars k 0) (drop a cs)) (take (get_or bars k 0) (drop a es)) (take (get_or fractals k 0) (drop a fs)) (take (get_or fractals k 0) (drop a fp)))
      && strokes_columns rt (drop (k + 1) (take n bars)) (drop (k + 1) (take n fractals)) (drop (a + get_or bars k 0) ts) (drop (a + get_or bars k 0) ps) (drop (a + get_or bars k 0) cs) (drop (a + get_or bars k 0) es) (drop (a + get_or bars k 0) fs) (drop (a + get_or bars k 0) fp))
  unfolding strokes_columns
  here =
      let c : k + 1 ≡ suc k = omega arith in
      let g : k < length (take n bars) = omega (arith, length-take-le n bars (omega arith)) in
      let f : k < length (take n fractals) = omega (arith, length-take-le n fractals (omega arith)) in
      let b = get_or bars k 0 in
      rw (c, drop-cons (take n bars) k 0 g, drop-cons (take n fractals) k 0 f, get_or-take n bars k 0 h, get_or-take n fractals k 0 h, drop-drop b a ts, drop-drop b a ps, drop-drop b a cs, drop-drop b a es, drop-drop b a fs, drop-drop b a fp)

  pub strokes-few : (v : Bool) → get_or bars k 0 ≤ get_or fractals k 0
      → strokes_columns rt (drop k (take n bars)) (drop k (take n fractals)) (drop a ts) (drop a ps) (drop a cs) (drop a es) (drop a fs) (drop a fp) ≡ v → false ≡ v
  strokes-few v g e = (rw (le-ltb (get_or fractals k 0) (get_or bars k 0) g) at (sym here)) ∙ e

  module _ (x v : Bool) (g : get_or fractals k 0 < get_or bars k 0)
      (s : x ≡ stroke_columns rt (take (a + get_or bars k 0 - a) (drop a ts)) (take (a + get_or bars k 0 - a) (drop a ps)) (take (a + get_or bars k 0 - a) (drop a cs)) (take (a + get_or bars k 0 - a) (drop a es)) (take (a + get_or fractals k 0 - a) (drop a fs)) (take (a + get_or fractals k 0 - a) (drop a fp)))
      (e : strokes_columns rt (drop k (take n bars)) (drop k (take n fractals)) (drop a ts) (drop a ps) (drop a cs) (drop a es) (drop a fs) (drop a fp) ≡ v) where
    rest : Bool
    rest =
        strokes_columns rt (drop (k + 1) (take n bars)) (drop (k + 1) (take n fractals)) (drop (a + get_or bars k 0) ts) (drop (a + get_or bars k 0) ps) (drop (a + get_or bars k 0) cs) (drop (a + get_or bars k 0) es) (drop (a + get_or bars k 0) fs) (drop (a + get_or bars k 0) fp)

    both_parts : (x && rest) ≡ v
    unfolding rest
    both_parts =
        let p : a + get_or bars k 0 - a ≡ get_or bars k 0 = omega arith in
        let q : a + get_or fractals k 0 - a ≡ get_or fractals k 0 = omega arith in
        let w = rw (p, q) at s in
        ap (λ (y : Bool). y && rest) w ∙ (rw (lt-ltb (get_or fractals k 0) (get_or bars k 0) g) at (sym here)) ∙ e

    pub strokes_stop : x ≡ false → false ≡ v
    strokes_stop z = sym (ap (λ (y : Bool). y && rest) z) ∙ both_parts

    pub strokes-turn : x ≡ true
        → strokes_columns rt (drop (k + 1) (take n bars)) (drop (k + 1) (take n fractals)) (drop (a + get_or bars k 0) ts) (drop (a + get_or bars k 0) ps) (drop (a + get_or bars k 0) cs) (drop (a + get_or bars k 0) es) (drop (a + get_or bars k 0) fs) (drop (a + get_or bars k 0) fp) ≡ v
    unfolding rest
    strokes-turn z = sym (ap (λ (y : Bool). y && rest) z) ∙ both_parts

-- ---- columns cut to the places in use

pub cut-count : {A : Type 0} (l : List A) (n : ℕ) → n ≤ length l → n ≡ length (take n l)
cut-count l n h = sym (length-take-le n l h)

pub cut_lengths : {A B : Type 0} (l : List A) (m : List B) (n : ℕ) → n ≤ length l → n ≤ length m → length (take n l) ≡ length (take n m)
cut_lengths l m n h g = length-take-le n l h ∙ cut-count m n g

-- raw times that pass rise
pub raw-rising : (ts : List ℤ) (ps : List (List Float)) → raw_columns ts ps ≡ true → T (rising ts)
unfolding raw_columns times_pass
raw-rising ts ps e =
    rises-rising ts (and_l (rises ts) (every in_time ts) (and_l (rises ts && every in_time ts) (every raw_row ps) (subst T (sym e) tt)))
