-- What the proofs of src/asked_raw_bars.rt cite: bars written one by one stand one behind the other, elements counted in turn, and the questions one by one.
-- Assumes nothing.
use Prim.Native.Nat.{ℕ, suc, min, ◌+◌, ◌-◌, ◌≤◌, ◌<◌}
use native.Mathlib.Omega.{arith}
use mathlib.Core.Path.{◌≡◌, refl, ap, sym, ◌∙◌}
use mathlib.Core.Bool.{Bool, true, false, ◌&&◌}
use mathlib.Core.List.{List, [], ◌∷◌, ◌++◌, map, foldl, append-nil}
use lib.Dec.{T, leb}
use lib.IntN.{ℤ, pos}
use lib.ListN.{length, take, drop, get_or, set, length-take, length-map, length-append, length-set, take-append-drop, drop_of_length-le}
use lib.Seq.{take-suc-set, drop-set-lt, drop-cons, append_snoc, get_or-take}
use lib.Ieee.Fits.{and_l, and_r}
use Rattle.bars.specs.declared.Bar.{Bar}
use Rattle.bars.specs.Lists.{every, join}
use Rattle.bars.specs.Merging.{at_times}
use Rattle.bars.specs.Bars.{row_of}
use Rattle.stores.specs.Stores.{RawStore, raw_store, MergedStore, zip_with, raw_bars, bar_of}
use Rattle.stores.specs.Code.StoreRows.{RoomRaw, set_bar, bar_at, rising, place_of}
use Rattle.stores.proofs.Columns.{zip-at, zip_longer, zip_length}
use Rattle.strokes.specs.declared.Stand.{Stand}
use Rattle.strokes.specs.StateRead.{state_of}
use Rattle.strokes.specs.Lent.{Stores}
use Rattle.strokes.specs.FractalRows.{pasted}
use Rattle.question4.specs.Question4.{question4}
use Rattle.sound.specs.Code.SoundStand.{is_time}
use Rattle.named.specs.declared.stroke_rows.StrokeRows.{StrokeRows}
use Rattle.std.proofs.Common.{Result, Ok, Err, IsErrAnd, inl, inr}
use Rattle.bars.specs.declared.refusals.Question.{Question}
use Rattle.bars.specs.declared.refusals.Question.TheVariants.{OutputRoom}
use Rattle.stores.specs.declared.lent_columns.RawColumnsMut.{RawColumnsMut}
use Rattle.stores.specs.Columns.{raw_of, SameRaw}
use Rattle.reports.specs.Code.FirstQuestions.{asked_rows}
use Rattle.reports.proofs.FirstLaws.{handed_up, rows_by}
use Rattle.reports.specs.Measures.{get_raw_bars}
use Rattle.reports.specs.Code.ElementPrices.{elements_in, bars_named}
use Rattle.named.specs.Code.NamedRows.{stroke_in}
use Rattle.named.specs.ReportQuestions.{nth, question14}
use Rattle.reports.specs.InnerRawBars.{put_bars, RawBarsListed, listed, places_for, list_if, list_bars, raw_bars_if, raw_bars_at}
use Rattle.reports.specs.Code.InnerRawSteps.{Filling, filling, put_one}
use Rattle.reports.specs.Code.MeasuredRows.{first_raw, InnerIs}
use Rattle.reports.specs.declared.inner_bars.InnerBars.{InnerBars}
use Rattle.reports.proofs.MeasureLaws.{inner-elements, at-times, named-place}
use Rattle.reports.proofs.StrokeColumns.{Lends, elements-named, long, two, bars_read_lem, raw-named}
use borrow.Author.Tests.{le-leb, leb-true}

-- ---- bars written one by one

module _ {A : Type 0} where
  paste_none : (d : List A) (at : ℕ) → d ≡ pasted d at []
  unfolding pasted
  paste_none d at =
      let e : at ≡ at + 0 = omega arith in
      sym (take-append-drop at d) ∙ (λ i. sym (append-nil (take at d)) i ++ drop (e i) d)

  -- one row at its place, and the others behind it
  paste_more : (d : List A) (at : ℕ) (x : A) (l : List A) → at < length d → pasted (set d at x) (at + 1) l ≡ pasted d at (x ∷ l)
  unfolding pasted
  paste_more d at x l h =
      let c : at + 1 ≡ suc at = omega arith in
      let e : at + 1 + length l ≡ at + suc (length l) = omega arith in
      let front : take (at + 1) (set d at x) ++ l ≡ take at d ++ x ∷ l = ap (λ (k : ℕ). take k (set d at x) ++ l) c ∙ ap (λ (w : List A). w ++ l) (take-suc-set d at x h) ∙ append_snoc (take at d) x l in
      let back : drop (at + 1 + length l) (set d at x) ≡ drop (at + suc (length l)) d = drop-set-lt (at + 1 + length l) d at x (omega arith) ∙ ap (λ (k : ℕ). drop k d) e in
      λ i. front i ++ back i

put_none : (d : RawStore) (k : ℕ) → d ≡ put_bars d k []
unfolding put_bars
put_none d k = λ i. raw_store (paste_none d.times k i) (paste_none d.ids k i) (paste_none d.prices k i)

put_more : (d : RawStore) (k : ℕ) (b : Bar) (bs : List Bar) → RoomRaw d (k + 1) → put_bars (set_bar d k b) (k + 1) bs ≡ put_bars d k (b ∷ bs)
unfolding put_bars set_bar
put_more d k b bs h =
    let x = h.times in
    let y = h.ids in
    let z = h.prices in
    λ i. raw_store (paste_more d.times k b.time (map (λ (v : Bar). v.time) bs) (omega arith) i) (paste_more d.ids k b.id (map (λ (v : Bar). v.id) bs) (omega arith) i) (paste_more d.prices k (row_of b) (map row_of bs) (omega arith) i)

-- a bar that is written moves no end of a column
pub room-set : (d : RawStore) (k n : ℕ) (b : Bar) → RoomRaw d n → RoomRaw (set_bar d k b) n
unfolding set_bar
room-set d k n b h =
    record { times = rw length-set h.times; ids = rw length-set h.ids; prices = rw length-set h.prices }

pub room-less : (d : RawStore) (m n : ℕ) → n ≤ m → RoomRaw d m → RoomRaw d n
room-less d m n k h =
    let x = h.times in
    let y = h.ids in
    let z = h.prices in
    record { times = omega arith; ids = omega arith; prices = omega arith }

pub fold_put : (f : ℤ → Bar) (d : RawStore) (k : ℕ) (l : List ℤ) → RoomRaw d (k + length l)
    → foldl (put_one f) (record { columns = d; next = k }) l ≡ record { columns = put_bars d k (map f l); next = k + length l }
fold_put f d k [] h = let e : k ≡ k + 0 = omega arith in λ i. record { columns = put_none d k i; next = e i }
fold_put f d k (t ∷ l) h =
    let e : k + 1 + length l ≡ k + suc (length l) = omega arith in
    fold_put f (set_bar d k (f t)) (k + 1) l (room-set d k (k + 1 + length l) (f t) (room-less d (k + suc (length l)) (k + 1 + length l) (omega arith) h))
    ∙ (λ i. record { columns = put_more d k (f t) (map f l) (room-less d (k + suc (length l)) (k + 1) (omega arith) h) i; next = e i })

-- ---- elements counted in turn

module _ (cs : List ℕ) (es : List (List ℤ)) (i : ℕ) (q : length cs ≡ length es) (h : i < length cs) where
  -- those of row i, and those behind it
  pub row-length : length (join (drop i (zip_with take cs es))) ≡ length (take (get_or cs i 0) (get_or es i [])) + length (join (drop (i + 1) (zip_with take cs es)))
  unfolding join
  row-length =
      let l = zip_with take cs es in
      let c : suc i ≡ i + 1 = omega arith in
      ap (λ (x : List (List ℤ)). length (join x)) (drop-cons l i [] (zip_longer take cs es i h (omega arith)))
      ∙ length-append (get_or l i []) (join (drop (suc i) l))
      ∙ (λ j. length (zip-at take i cs es 0 [] [] h (omega arith) j) + length (join (drop (c j) l)))

  pub count_turn : (sum r all : ℕ) → r ≡ length (take (get_or cs i 0) (get_or es i [])) → sum + length (join (drop i (zip_with take cs es))) ≡ all
      → sum + r + length (join (drop (i + 1) (zip_with take cs es))) ≡ all
  count_turn sum r all e k = omega (arith, row-length, e, k)

pub count-end : (cs : List ℕ) (es : List (List ℤ)) (i sum all : ℕ) → length cs ≡ length es → length cs ≤ i → sum + length (join (drop i (zip_with take cs es))) ≡ all → sum ≡ all
unfolding join
count-end cs es i sum all q h k =
    let d : drop i (zip_with take cs es) ≡ [] = drop_of_length-le (zip_with take cs es) {i = i} (omega (arith, zip_length take cs es q)) in
    let e : length (join (drop i (zip_with take cs es))) ≡ 0 = ap (λ (x : List (List ℤ)). length (join x)) d in
    omega (arith, e, k)

-- ---- a bar that is written

-- the same columns yet
pub same_none : (a : RawColumnsMut) → SameRaw a a
same_none a = record { times = refl; ids = refl; prices = refl; times_room = refl; ids_room = refl; prices_room = refl }

pub same_next : (a b c : RawColumnsMut) → SameRaw a b → SameRaw b c → SameRaw a c
same_next a b c h k =
    record {
      times = k.times ∙ h.times;
      ids = k.ids ∙ h.ids;
      prices = k.prices ∙ h.prices;
      times_room = k.times_room ∙ h.times_room;
      ids_room = k.ids_room ∙ h.ids_room;
      prices_room = k.prices_room ∙ h.prices_room;
    }

-- so many places as there were
pub room_same : (a b : RawColumnsMut) (m n : ℕ) → SameRaw a b → RoomRaw (raw_of a) m → n ≤ m → RoomRaw (raw_of b) n
room_same a b m n h r k =
    let x = r.times in
    let y = r.ids in
    let z = r.prices in
    let t = h.times_room in
    let i = h.ids_room in
    let p = h.prices_room in
    record { times = omega arith; ids = omega arith; prices = omega arith }

-- the next place is behind it
pub put_next : (f : ℤ → Bar) (d e : RawStore) (at j : ℕ) (t : ℤ) (b : Bar) → e ≡ set_bar d (at + j) b → b ≡ f t → filling e (at + (j + 1)) ≡ put_one f (filling d (at + j)) t
put_next f d e at j t b p q =
    let n : at + (j + 1) ≡ at + j + 1 = omega arith in
    let s = p ∙ ap (set_bar d (at + j)) q in
    λ i. record { columns = s i; next = n i }

-- ---- a row after the other

-- where the next one goes
pub next_place : (f : ℤ → Bar) (w : Filling) (l : List ℤ) → (foldl (put_one f) w l).next ≡ w.next + length l
next_place f w [] = omega arith
next_place f w (t ∷ l) = omega (arith, next_place f (put_one f w t) l)

module _ (cs : List ℕ) (es : List (List ℤ)) (i : ℕ) (q : length cs ≡ length es) (h : i < length cs) where
  pub rows_next : (k r all : ℕ) → r ≡ k + length (take (get_or cs i 0) (get_or es i [])) → k + length (join (drop i (zip_with take cs es))) ≡ all
      → r + length (join (drop (i + 1) (zip_with take cs es))) ≡ all
  rows_next k r all e g = omega (arith, row-length cs es i q h, e, g)

  -- those of row i are some of all
  pub row_within : (k all : ℕ) → k + length (join (drop i (zip_with take cs es))) ≡ all → k + length (take (get_or cs i 0) (get_or es i [])) ≤ all
  row_within k all g = omega (arith, row-length cs es i q h, g)

-- all rows are written
pub rows_put : (f : ℤ → Bar) (d : RawStore) (w : Filling) (l : List ℤ) → RoomRaw d (length l) → w ≡ foldl (put_one f) (record { columns = d; next = 0 }) l
    → w.columns ≡ put_bars d 0 (map f l)
rows_put f d w l r e =
    ap (λ (x : Filling). x.columns) (e ∙ fold_put f d 0 l (room-less d (length l) (0 + length l) (omega arith) r))

-- ---- question 14

-- one of three has too few
few_of : (x y z : Bool) (n a b c : ℕ) → leb n a ≡ x → leb n b ≡ y → leb n c ≡ z → min (min a b) c < n → (x && y && z) ≡ false
few_of true true true n a b c p q r h = let x = leb-true n a p in let y = leb-true n b q in let z = leb-true n c r in let w : ⊥ = omega arith in absurd w
few_of true true false n a b c p q r h = refl
few_of true false z n a b c p q r h = refl
few_of false y z n a b c p q r h = refl

module _ (bs : List Bar) (d : RawStore) where
  pub places_few : min (min (length d.times) (length d.ids)) (length d.prices) < length bs → places_for bs d ≡ false
  unfolding places_for question14
  places_few h = few_of _ _ _ (length bs) (length d.times) (length d.ids) (length d.prices) refl refl refl h

  pub places_yes : RoomRaw d (length bs) → places_for bs d ≡ true
  unfolding places_for question14
  places_yes h = λ i. le-leb (length bs) (length d.times) h.times i && le-leb (length bs) (length d.ids) h.ids i && le-leb (length bs) (length d.prices) h.prices i

-- what list_rows returns, return by return; m is the number of the elements l
module _ (f : ℤ → Bar) (l : List ℤ) (d : RawStore) (m : ℕ) (c : m ≡ length l) where
  abbrev bs : List Bar
  bs = map f l

  many : length bs ≡ m
  many = length-map l f ∙ sym c

  pub list_few : min (min (length d.times) (length d.ids)) (length d.prices) < m → listed (Err OutputRoom) d ≡ list_bars bs d
  unfolding list_bars list_if
  list_few h = ap (λ (t : Bool). list_if t bs d) (sym (places_few bs d (omega (arith, many))))

  -- there is room for all
  pub list_room : m ≤ min (min (length d.times) (length d.ids)) (length d.prices) → RoomRaw d (length l)
  list_room h = record { times = omega (arith, c); ids = omega (arith, c); prices = omega (arith, c) }

  pub list_all : (o : RawStore) → o ≡ put_bars d 0 bs → RoomRaw d (length l) → listed (Ok m) o ≡ list_bars bs d
  unfolding list_bars list_if
  list_all o e h =
      (λ i. listed (Ok (sym many i)) (e i))
      ∙ ap (λ (t : Bool). list_if t bs d) (sym (places_yes bs d (room-less d (length l) (length bs) (omega (arith, many, c)) h)))

-- ---- a stroke that a sound stand keeps

-- a bar of the first n is the same in columns that are cut there
cut_bar : (s : RawStore) (n i : ℕ) → i < n → bar_at (first_raw n s) i ≡ bar_at s i
unfolding bar_at
cut_bar s n i h = λ j. bar_of (get_or-take n s.times i (pos 0) h j) (get_or-take n s.ids i (pos 0) h j) (get_or-take n s.prices i [] h j)

-- so all that elements name are
cut_bars : (s : RawStore) (n : ℕ) → T (rising (take n s.times)) → (l : List ℤ) → T (every (is_time (take n s.times)) l)
    → map (λ t. bar_at (first_raw n s) (place_of t (take n s.times))) l ≡ map (λ t. bar_at s (place_of t (take n s.times))) l
unfolding every
cut_bars s n r [] h = refl
cut_bars s n r (t ∷ l) h =
    let ts = take n s.times in
    let p = named-place ts t r (and_l (is_time ts t) (every (is_time ts) l) h) in
    λ j. cut_bar s n (place_of t ts) (omega (arith, p, length-take n s.times)) j ∷ cut_bars s n r l (and_r (is_time ts t) (every (is_time ts) l) h) j

module _ (s : Stand) (m : Stores) (i : ℕ) (r : StrokeRows) (h : Lends s m i r) where
  abbrev k : MergedStore
  k = m.strokes

  -- the bars that are listed are the inner raw bars
  pub bars_are : (c : InnerBars) → InnerIs r s.raw m c → bars_named c ≡ get_raw_bars (state_of s m).raw (stroke_in m r)
  unfolding get_raw_bars state_of
  bars_are c w =
      let f = h.facts in
      let n = s.raw in
      let enough = two s m i r h in
      let shown = bars_read_lem s m i r h in
      let l = elements_in (take (r.bars - 2) (drop (r.first + 1) k.counts)) (take (r.bars - 2) (drop (r.first + 1) k.elements)) in
      let all = elements-named m.raw n s.rooms.raw f.raw f.few-raw f.rising-times k s.rooms.strokes r.first r.bars f.strokes h.stands.fits enough (stroke_in m r) shown (raw-named s m i r h) in
      (λ j. map (λ t. bar_at (w.raw j) (place_of t (w.raw j).times)) (elements_in (w.counts j) (w.elements j)))
      ∙ ap (λ (x : ℕ). map (λ t. bar_at (first_raw n m.raw) (place_of t (take n m.raw.times))) (elements_in (take x (drop (r.first + 1) k.counts)) (take x (drop (r.first + 1) k.elements)))) (sym (long s m i r h))
      ∙ cut_bars m.raw n f.rising-times l all
      ∙ sym (at-times m.raw n s.rooms.raw f.raw f.few-raw f.rising-times l all)
      ∙ ap (at_times (take n (raw_bars m.raw))) (sym (inner-elements k s.rooms.strokes r.first r.bars f.strokes h.stands.fits enough (stroke_in m r) shown))

-- ---- question by question

module _ (s : Stand) (m : Stores) (i : ℕ) (d : RawStore) where
  pub bars_refused : (e : Question) (r : Result ℕ Question) → length s.bars ≡ 65 → length s.fractals ≡ 65 → IsErrAnd r (λ y. y ≡ e) → Err e ≡ asked_rows s m i → listed r d ≡ raw_bars_at s m i d
  unfolding raw_bars_at raw_bars_if
  bars_refused e r lb lf h g =
      elim (rows_by s m i e lb lf g) [ inl w ↦ (λ j. listed ((handed_up r e h ∙ ap Err w.1) j) d) ∙ ap (λ (t : Bool). raw_bars_if t (state_of s m).raw (nth (state_of s m).strokes i) d) (sym w.0) | inr w ↦ (λ j. listed ((handed_up r e h ∙ ap Err w.2) j) d) ∙ (λ j. raw_bars_if (sym w.0 j) (state_of s m).raw (sym w.1 j) d) ]

  pub bars_given : (o : RawBarsListed) (w : StrokeRows) (c : InnerBars) → Lends s m i w → question4 s m ≡ true → InnerIs w s.raw m c → o ≡ list_bars (bars_named c) d → o ≡ raw_bars_at s m i d
  unfolding raw_bars_at raw_bars_if
  bars_given o w c h q k e = e ∙ ap (λ (l : List Bar). list_bars l d) (bars_are s m i w h c k) ∙ (λ j. raw_bars_if (sym q j) (state_of s m).raw (sym h.is j) d)
