-- The strokes that a stand and its stroke store hold, after the oldest was shed and after one was made.
-- Assumes nothing.
use Prim.Native.Nat.{ℕ, zero, suc, ◌+◌, ◌-◌, ◌*◌, ◌/◌, ◌≤◌, ◌<◌}
use native.Mathlib.Nat.{zero-add}
use native.Mathlib.Numerals.{add-one}
use native.Mathlib.Omega.{arith}
use mathlib.Core.Path.{◌≡◌, refl, ap, sym, ◌∙◌, subst}
use mathlib.Core.Bool.{Bool, true, false, ◌&&◌, cond}
use mathlib.Core.List.{List, [], ◌∷◌, ◌++◌, map, map-append, append_assoc}
use mathlib.Core.Option.{Option, none, some}
use lib.ListN.{length, take, drop, get_or, set, length-take, length-drop, length-map, get_or-map, drop_of_length-le}
use lib.Seq.{take-take, drop-drop, get_or-take, length-take-le, take-suc-set, take_all, take_at, drop_at, take-append_seam, take-suc, get_or-drop}
use lib.IntN.{ℤ, pos}
use Rattle.std.specs.Prelude.{sum}
use Rattle.std.proofs.lemmas.List.Sums.{sum_by-cons}
use lib.Ieee.{Float, nan, lt}
use lib.Dec.{T, ltb, leb, eqb, leb→le, ltb→lt, eqb→eq}
use lib.Ieee.Fits.{and_l, and_r}
use borrow.Author.Tests.{ltb-true, ltb-false}
use Rattle.arith.specs.Order.{max_of, min_of}
use Rattle.bars.specs.Bars.{Merged, merged_of}
use Rattle.bars.specs.Lists.{All, every, some_of, last, init, copied}
use Rattle.stores.specs.Stores.{RawStore, MergedStore, raw_part, bar_of, raw_bars, merged_bars}
use Rattle.stores.specs.Code.StoreRows.{SizedMerged, RoomRaw, RoomMerged, bar_at, new_bar_at, CopiedInUse}
use Rattle.bars.proofs.Moves.{take-copied, run_is}
use Rattle.stores.proofs.Columns.{zip_length, zip-at, merged-at, merged-length, merged-bars}
use Rattle.stores.proofs.KeptBars.{map-take}
use Rattle.stores.proofs.InUse.{copied_read, copied-sized}
use Rattle.strokes.specs.declared.Stand.{Stand}
use Rattle.strokes.specs.declared.strokes_store.LastStroke.{LastStroke}
use Rattle.machine.specs.declared.Mark.{Mark}
use Rattle.machine.specs.declared.Mark.TheVariants.{D, G}
use Rattle.machine.specs.Fractals.{Fractal, Placed, is_top, taken, check_fx, push_if, pushed, fxs_after, check_fxs}
use Rattle.machine.specs.Strokes.{Stroke, direction_of, stroke_at, check_bi}
use Rattle.machine.specs.Break.{high_of, low_of}
use Rattle.check_bi.specs.declared.scan.FoundBi.{FoundBi}
use Rattle.check_bi.specs.declared.check_fx.Fx.{Fx}
use Rattle.check_bi.specs.Code.Scan.{fx_at, fx_placed, top_of, mark_if}
use Rattle.machine.specs.Feed.{shed_if}
use Rattle.machine.specs.Soundness.{fewer_fractals, alternates, same_fractal, is_stroke}
use Rattle.strokes.specs.StateRead.{merged_sized, fractal_sized, raw_sized, stores_sized, counts_sized, elements_sized, sized, state_of, row_bar, fractal_of, no_fractal, bare_bar, bare_fractal, bare_stroke, row_fractal, stored_fractals, stroke_with, strokes_with, settings_of, bar_counts, fractal_counts, total}
use Rattle.strokes.specs.Lent.{Stores, FractalStore}
use Rattle.strokes.specs.Code.StrokeSteps.{SizedFractals, RoomFractals, kept_strokes, Fewer, Kept, moved_down, moved_fractals, shifted, shed_stand, ShedWhere, plain_bar, fractals_between, with_stroke, end_if, windows_end, made_stroke, Makeable, Made, last_place, last_bars, last_fractals, end_place, last_read, LastStands, LastIs, TakenOff}
use Rattle.strokes.specs.FractalRows.{pasted, put_fractals, row_mark}
use Rattle.machine.proofs.FewerFractals.{MadeFrom, stroke-found, start_read, end_read, stroke-fractals, order, end-stands}
use Rattle.machine.proofs.Places.{fits}
use Rattle.machine.proofs.StrokesChain.{init_snoc}
use Rattle.check_bi.proofs.ScanPlaces.{MadeAs}
use Rattle.strokes.specs.Code.BarSteps.{without_last}
use Rattle.strokes.proofs.MovedFractals.{front, counts-next, strokes_moved, stored_moved, sized_moved}
use Rattle.strokes.proofs.StoredCounts.{stay_moved, stay_added}
use Rattle.strokes.proofs.StoredFractals.{Shown, fxs_shown, sized_put, stored_put, fxs_bare}
use Rattle.strokes.proofs.BareSteps.{shed_bare}
use Rattle.strokes.proofs.StoredUnfinished.{room_of}
use Rattle.strokes.proofs.BareStates.{map-drop}

-- ---- what the strokes are read of

fewer-drop : (ns ms : List ℕ) → Fewer ns ms → Fewer (drop 1 ns) (drop 1 ms)
fewer-drop [] ms h = tt
fewer-drop (n ∷ []) [] h = tt
fewer-drop (n ∷ x ∷ ns) [] h = tt
fewer-drop (n ∷ ns) (m ∷ ms) h = h.1

module _ {A : Type 0} where
  behind : (n t : ℕ) (l l' : List A) → take (n + t) l ≡ take (n + t) l' → take t (drop n l) ≡ take t (drop n l')
  behind n t l l' e = run_is l n t ∙ ap (drop n) e ∙ sym (run_is l' n t)

-- strokes are read of the bars and fractals that they count
pub strokes-same : (ns ms : List ℕ) (ks ks' : List Merged) (fs fs' : List Fractal) → Fewer ns ms → take (total ns) ks ≡ take (total ns) ks' → take (total ns) fs ≡ take (total ns) fs'
    → strokes_with ns ms ks fs ≡ strokes_with ns ms ks' fs'
unfolding strokes_with total
strokes-same [] ms ks ks' fs fs' h e d = refl
strokes-same (n ∷ ns) [] ks ks' fs fs' h e d = refl
strokes-same (n ∷ ns) (m ∷ ms) ks ks' fs fs' h e d =
    let a : take n ks ≡ take n ks' = front n (n + total ns) ks ks' (omega arith) e in
    let b : take m fs ≡ take m fs' = front m (n + total ns) fs fs' (omega (arith, h.0)) d in
    λ i. stroke_with (b i) (a i) ∷ strokes-same ns ms (drop n ks) (drop n ks') (drop n fs) (drop n fs') h.1 (behind n (total ns) ks ks' e) (behind n (total ns) fs fs' d) i

-- one more stroke
pub strokes-more : (ns ms : List ℕ) (n m : ℕ) (ks : List Merged) (fs : List Fractal) → length ns ≡ length ms
    → strokes_with (ns ++ n ∷ []) (ms ++ m ∷ []) ks fs ≡ strokes_with ns ms ks fs ++ stroke_with (take m (drop (total ns) fs)) (take n (drop (total ns) ks)) ∷ []
unfolding strokes_with total
strokes-more [] [] n m ks fs h = refl
strokes-more [] (y ∷ ms) n m ks fs h = let z : ⊥ = omega arith in absurd z
strokes-more (x ∷ ns) [] n m ks fs h = let z : ⊥ = omega arith in absurd z
strokes-more (x ∷ ns) (y ∷ ms) n m ks fs h =
    ap (λ (l : List Stroke). stroke_with (take y fs) (take x ks) ∷ l)
    (strokes-more ns ms n m (drop x ks) (drop x fs) (omega arith)
    ∙ (λ j. strokes_with ns ms (drop x ks) (drop x fs) ++ stroke_with (take m (drop-drop (total ns) x fs j)) (take n (drop-drop (total ns) x ks j)) ∷ []))

-- all but the first
strokes-drop : (ns ms : List ℕ) (ks : List Merged) (fs : List Fractal)
    → strokes_with (drop 1 ns) (drop 1 ms) (drop (get_or ns 0 0) ks) (drop (get_or ns 0 0) fs) ≡ drop 1 (strokes_with ns ms ks fs)
unfolding strokes_with
strokes-drop [] ms ks fs = refl
strokes-drop (n ∷ []) [] ks fs = refl
strokes-drop (n ∷ x ∷ ns) [] ks fs = refl
strokes-drop (n ∷ ns) (m ∷ ms) ks fs = refl

pub strokes-length : (ns ms : List ℕ) (ks : List Merged) (fs : List Fractal) → length ns ≡ length ms → length (strokes_with ns ms ks fs) ≡ length ns
unfolding strokes_with
strokes-length [] ms ks fs h = refl
strokes-length (n ∷ ns) [] ks fs h = let z : ⊥ = omega arith in absurd z
strokes-length (n ∷ ns) (m ∷ ms) ks fs h = ap suc (strokes-length ns ms (drop n ks) (drop n fs) (omega arith))

head_least : (ns : List ℕ) → get_or ns 0 0 ≤ total ns
unfolding total
head_least [] = omega arith
head_least (n ∷ ns) = omega arith

total-drop : (ns : List ℕ) → total (drop 1 ns) ≡ total ns - get_or ns 0 0
unfolding total
total-drop [] = refl
total-drop (n ∷ ns) = omega arith

-- the next of the first n numbers that are added up
-- the library's sum
pub total_sum : (l : List ℕ) → sum l ≡ total l
unfolding total
total_sum [] = refl
total_sum (n ∷ l) = let e = sum_by-cons (λ (x : ℕ). x) n l in let q = total_sum l in omega arith

pub total-step : (l : List ℕ) (n i a : ℕ) → n ≤ length l → i < n → a + total (drop i (take n l)) ≡ total (take n l) → a + get_or l i 0 + total (drop (i + 1) (take n l)) ≡ total (take n l)
unfolding total
total-step l n i a h k e = omega (arith, ap total (counts-next l n i h k))

pub length-take-most : {A : Type 0} (n : ℕ) (l : List A) → length (take n l) ≤ n
length-take-most n l = rw length-take (omega arith)

pub total-end : (v : List ℕ) (i a n : ℕ) → n ≤ i → a + total (drop i v) ≡ total v → length v ≤ n → a ≡ total v
unfolding total
total-end v i a n h e k =
    let q : total (drop i v) ≡ 0 = ap total (drop_of_length-le v {i = i} (omega arith)) in
    omega arith

-- one count more
pub counts-more : (l : List ℕ) (k v : ℕ) → k < length l → take (k + 1) (set l k v) ≡ take k l ++ v ∷ []
counts-more l k v h = rw add-one (take-suc-set l k v h)

-- ---- the oldest stroke is shed

module _ {A : Type 0} where
  moved : (ns : List ℕ) (l : List A) → total ns ≤ length l
      → take (total (drop 1 ns)) (copied l 0 l (get_or ns 0 0) (total ns - get_or ns 0 0)) ≡ take (total (drop 1 ns)) (drop (get_or ns 0 0) l)
  moved ns l h =
      let b = get_or ns 0 0 in
      let t = total ns - b in
      let g = head_least ns in
      ap (λ (k : ℕ). take k (copied l 0 l b t)) (total-drop ns ∙ sym (zero-add t))
      ∙ take-copied l l 0 b t (omega arith) (omega arith)
      ∙ ap (λ (k : ℕ). take k (drop b l)) (sym (total-drop ns))

shed_read : (ns ms : List ℕ) (ks : List Merged) (fs : List Fractal) → Fewer ns ms → total ns ≤ length ks → total ns ≤ length fs
    → strokes_with (drop 1 ns) (drop 1 ms) (copied ks 0 ks (get_or ns 0 0) (total ns - get_or ns 0 0)) (moved_down (drop 1 ns) (drop 1 ms) 0 (get_or ns 0 0) fs)
    ≡ drop 1 (strokes_with ns ms ks fs)
shed_read ns ms ks fs h a b =
    let n = get_or ns 0 0 in
    let c = copied ks 0 ks n (total ns - n) in
    let less = fewer-drop ns ms h in
    strokes_moved (drop 1 ns) (drop 1 ms) 0 n c fs less (omega (arith, total-drop ns, head_least ns))
    ∙ ap (λ (x : ℕ). strokes_with (drop 1 ns) (drop 1 ms) c (drop x fs)) (zero-add n)
    ∙ strokes-same (drop 1 ns) (drop 1 ms) c (drop n ks) (drop n fs) (drop n fs) less (moved ns ks a) refl
    ∙ strokes-drop ns ms ks fs

pub stored_length : (f : FractalStore) (n : ℕ) → SizedFractals f n → length (stored_fractals f) ≡ n
unfolding stored_fractals
stored_length f n h = zip_length row_fractal f.stamps f.prices (h.stamps ∙ sym h.prices) ∙ h.stamps

-- the counts one place down
pub counts-down : (l r : List ℕ) (n : ℕ) → r ≡ shifted l → 65 ≤ length l → 1 ≤ n → n ≤ 65 → take (n - 1) r ≡ drop 1 (take n l)
unfolding shifted
counts-down l r n e h a b =
    let q : take 64 (copied l 0 l 1 64) ≡ take 64 (drop 1 l) = take-copied l l 0 1 64 (omega arith) (omega arith) in
    let m : 1 + (n - 1) ≡ n = omega arith in
    ap (take (n - 1)) e
    ∙ sym (take-take (n - 1) 64 (copied l 0 l 1 64) (omega arith))
    ∙ ap (take (n - 1)) q
    ∙ take-take (n - 1) 64 (drop 1 l) (omega arith)
    ∙ run_is l 1 (n - 1)
    ∙ ap (λ (k : ℕ). drop 1 (take k l)) m

first_count : (s : Stand) → 1 ≤ s.strokes → get_or (bar_counts s) 0 0 ≡ get_or s.bars 0 0
unfolding bar_counts
first_count s h = get_or-take s.strokes s.bars 0 0 h

settings-kept : (s : Stand) → settings_of (shed_stand s) ≡ settings_of s
unfolding settings_of shed_stand
settings-kept s = refl

-- a stand whose stroke store was moved down by the oldest stroke's bars
pub shed_means : (s r : Stand) (k : MergedStore) (f : FractalStore) (k' : MergedStore) (f' : FractalStore) (b : ℕ)
    → Kept s k f
    → 1 ≤ s.strokes
    → b ≡ get_or s.bars 0 0
    → CopiedInUse k 0 k b (total (bar_counts s) - b) k'
    → f' ≡ moved_fractals (drop 1 (bar_counts s)) (drop 1 (fractal_counts s)) b f
    → r ≡ shed_stand s
    → bar_counts r ≡ drop 1 (bar_counts s)
    → fractal_counts r ≡ drop 1 (fractal_counts s)
    → ShedWhere true s k f r k' f'
unfolding shed_if kept_strokes shed_stand
shed_means s r k f k' f' b h one eb ek ef er ns ms =
    let room = s.rooms.strokes in
    let w = bar_counts s in
    let v = fractal_counts s in
    let eb' : b ≡ get_or w 0 0 = eb ∙ sym (first_count s one) in
    let g : b ≤ total w = rw eb' (head_least w) in
    let fits = h.fits in
    let lk : length (merged_bars k) ≡ room = merged-length k room h.merged in
    let lf : length (stored_fractals f) ≡ room = stored_length f room h.fractals in
    let t = total w - b in
    let lt : b + t ≤ room = omega arith in
    let lz : 0 + t ≤ room = omega arith in
    let less' = fewer-drop w v h.fewer in
    let lm : b + total (drop 1 w) ≤ room = omega (arith, total-drop w) in
    let rm : r.rooms.strokes ≡ room = ap (λ (x : Stand). x.rooms.strokes) er in
    let st : r.strokes ≡ s.strokes - 1 = ap (λ (x : Stand). x.strokes) er in
    let less = h.strokes in
    record {
      strokes =
          (λ i. strokes_with (ns i) (ms i) (copied_read k k k' 0 b t room room h.merged h.merged ek i)
          ((ap stored_fractals ef ∙ stored_moved (drop 1 w) (drop 1 v) b f room h.fractals less' lm) i))
          ∙ (λ i. strokes_with (drop 1 w) (drop 1 v) (copied (merged_bars k) 0 (merged_bars k) (eb' i) (total w - eb' i)) (moved_down (drop 1 w) (drop 1 v) 0 (eb' i) (stored_fractals f)))
          ∙ shed_read w v (merged_bars k) (stored_fractals f) h.fewer (rw lk fits) (rw lf fits);
      kept =
          record {
            strokes = omega arith;
            merged = subst (SizedMerged k') (sym rm) (copied-sized k k k' 0 b t room room h.merged h.merged ek lz lt);
            fractals = subst (SizedFractals f') (sym rm) (subst (λ (x : FractalStore). SizedFractals x room) (sym ef) (sized_moved (drop 1 w) (drop 1 v) b f room h.fractals less' lm));
            fits = rw (ns, rm, total-drop w) (omega arith);
            fewer = subst (λ (x : List ℕ). Fewer (bar_counts r) x) (sym ms) (subst (λ (x : List ℕ). Fewer x (drop 1 v)) (sym ns) less');
          };
      rest =
          record {
            settings = ap settings_of er ∙ settings-kept s;
            rooms = ap (λ (x : Stand). x.rooms) er;
            raw = ap (λ (x : Stand). x.raw) er;
            unfinished = ap (λ (x : Stand). x.unfinished) er;
          };
      elements =
          λ few. subst (λ (i : ℕ). T (elements_sized i k')) (sym (ap total ns ∙ total-drop w ∙ ap (λ (x : ℕ). total w - x) (sym eb')))
          (stay_moved k k' b (total w) room h.merged g fits ek.rows.counts few);
    }

-- the same of the numbers that the code has computed
pub shed_done : (s r : Stand) (k : MergedStore) (f : FractalStore) (k' : MergedStore) (f' : FractalStore) (u : ℕ)
    → Kept s k f
    → 1 ≤ s.strokes
    → u ≡ total (take s.strokes s.bars)
    → CopiedInUse k 0 k (get_or s.bars 0 0) (u - get_or s.bars 0 0) k'
    → f' ≡ moved_fractals (drop 1 (take s.strokes s.bars)) (drop 1 (take s.strokes s.fractals)) (get_or s.bars 0 0) f
    → r ≡ shed_stand s
    → bar_counts r ≡ drop 1 (bar_counts s)
    → fractal_counts r ≡ drop 1 (fractal_counts s)
    → ShedWhere true s k f r k' f'
unfolding bar_counts fractal_counts
shed_done s r k f k' f' u h one eu ek ef er ns ms =
    let b = get_or s.bars 0 0 in
    shed_means s r k f k' f' b h one refl (subst (λ (x : ℕ). CopiedInUse k 0 k b (x - b) k') eu ek) ef er ns ms

pub shed-not : (s : Stand) (k : MergedStore) (f : FractalStore) → Kept s k f → ShedWhere false s k f s k f
unfolding shed_if
shed-not s k f h = record { strokes = refl; kept = h; rest = record { settings = refl; rooms = refl; raw = refl; unfinished = refl }; elements = λ few. few }

pub first-within : (l : List ℕ) (n u : ℕ) → 1 ≤ n → u ≡ total (take n l) → get_or l 0 0 ≤ u
first-within l n u h e = let q = head_least (take n l) in let g = get_or-take n l 0 0 h in omega arith

pub room-fractals : (f : FractalStore) (n m : ℕ) → SizedFractals f n → m ≤ n → RoomFractals f m
room-fractals f n m h g = record { stamps = omega (arith, h.stamps); prices = omega (arith, h.prices) }

-- what the two moves ask
pub shed-rooms : (s : Stand) (k : MergedStore) (f : FractalStore) (u : ℕ) → Kept s k f → 1 ≤ s.strokes → u ≡ total (take s.strokes s.bars)
    → RoomMerged k (get_or s.bars 0 0 + (u - get_or s.bars 0 0))
unfolding bar_counts
shed-rooms s k f u h one e =
    let b = get_or s.bars 0 0 in
    let fits = h.fits in
    let q : b ≤ u = first-within s.bars s.strokes u one e in
    room_of k s.rooms.strokes (b + (u - b)) h.merged (omega arith)

pub shed-fractals : (s : Stand) (k : MergedStore) (f : FractalStore) → Kept s k f → 1 ≤ s.strokes
    → Fewer (drop 1 (take s.strokes s.bars)) (drop 1 (take s.strokes s.fractals)) × RoomFractals f (get_or s.bars 0 0 + total (drop 1 (take s.strokes s.bars)))
unfolding bar_counts fractal_counts
shed-fractals s k f h one =
    let w = take s.strokes s.bars in
    let fits = h.fits in
    let q = head_least w in
    let g = first_count s one in
    let d = total-drop w in
    (fewer-drop w (take s.strokes s.fractals) h.fewer, room-fractals f s.rooms.strokes (get_or s.bars 0 0 + total (drop 1 w)) h.fractals (omega arith))

-- ---- a stroke is made

module _ {A : Type 0} where
  copied-pasted : (d s : List A) (at from n : ℕ) → from + n ≤ length s → copied d at s from n ≡ pasted d at (take n (drop from s))
  unfolding copied pasted
  copied-pasted d s at from n h =
      let e : length (take n (drop from s)) ≡ n = length-take-le n (drop from s) (rw length-drop (omega arith)) in
      ap (λ (k : ℕ). take at d ++ take n (drop from s) ++ drop (at + k) d) (sym e)

  take-pasted : (d : List A) (t : ℕ) (l : List A) → t ≤ length d → take t (pasted d t l) ≡ take t d
  unfolding pasted
  take-pasted d t l h =
      let r = drop (t + length l) d in
      ap (take t) (append_assoc (take t d) l r) ∙ take_at (take t d) (l ++ r) t (length-take-le t d h)

  run-pasted : (d : List A) (t n : ℕ) (l : List A) → t ≤ length d → n ≡ length l → take n (drop t (pasted d t l)) ≡ l
  unfolding pasted
  run-pasted d t n l h e =
      let r = drop (t + length l) d in
      (λ i. take (e i) (drop t (append_assoc (take t d) l r i))) ∙ ap (take (length l)) (drop_at (take t d) (l ++ r) t (length-take-le t d h)) ∙ take-append_seam l r

  -- a run of the first n
  run_take : (l : List A) (n from m : ℕ) → from + m ≤ n → take m (drop from (take n l)) ≡ take m (drop from l)
  run_take l n from m h = run_is (take n l) from m ∙ ap (drop from) (take-take (from + m) n l h) ∙ sym (run_is l from m)

  end_take : (t : Bool) (l : List A) (x n : ℕ) → ltb x n ≡ t → x ≤ n → take (end_if t x) l ≡ take (x + 1) (take n l)
  unfolding end_if
  end_take true l x n e h = let k : x < n = ltb-true x n e in sym (take-take (x + 1) n l (omega arith))
  end_take false l x n e h =
      let k : n ≤ x = ltb-false x n e in
      let q : x ≡ n = omega arith in
      let m = length-take-most n l in
      ap (λ (y : ℕ). take y l) q ∙ sym (take_all (x + 1) (take n l) (omega arith))

pub plain_bare : (l : List Merged) → map plain_bar (map (λ k. k.bar) l) ≡ map bare_bar l
unfolding plain_bar bare_bar
plain_bare [] = refl
plain_bare (k ∷ l) = ap (λ (x : List Merged). bare_bar k ∷ x) (plain_bare l)

pub bare_twice : (fs : List Fractal) → map bare_fractal (map bare_fractal fs) ≡ map bare_fractal fs
unfolding bare_fractal bare_bar
bare_twice [] = refl
bare_twice (f ∷ fs) = ap (λ (x : List Fractal). bare_fractal f ∷ x) (bare_twice fs)

-- the fractals that are written are those of the bars in the store, without elements
fractals_are : (u : MergedStore) (n first end : ℕ) → SizedMerged u n → map bare_fractal (fractals_between (raw_part u) first end) ≡ map bare_fractal (check_fxs (drop first (take end (merged_bars u))))
unfolding fractals_between check_fxs
fractals_are u n first end h =
    let U = merged_bars u in
    let e : map plain_bar (raw_bars (raw_part u)) ≡ map bare_bar U = sym (ap (map plain_bar) (merged-bars u n h)) ∙ plain_bare U in
    ap (λ (x : List Merged). map bare_fractal (fxs_after none (drop first (take end x)))) e
    ∙ ap (λ (x : List Merged). map bare_fractal (fxs_after none x)) (ap (drop first) (sym (map-take bare_bar end U)) ∙ sym (map-drop bare_bar first (take end U)))
    ∙ ap (map bare_fractal) (sym (fxs_bare none (drop first (take end U))))
    ∙ bare_twice (fxs_after none (drop first (take end U)))

-- fractals are fewer than bars
few_if : (t : Bool) (f : Fractal) (p : Option Mark) (rest : Option Mark → List Fractal) (n : ℕ) → ((q : Option Mark) → length (rest q) ≤ n) → length (push_if t f p rest) ≤ n + 1
unfolding push_if
few_if true f p rest n h = omega (arith, h (some f.mark))
few_if false f p rest n h = omega (arith, h p)

pub few-pushed : (p : Option Mark) (o : Option Fractal) (rest : Option Mark → List Fractal) (n : ℕ) → ((q : Option Mark) → length (rest q) ≤ n) → length (pushed p o rest) ≤ n + 1
unfolding pushed
few-pushed p none rest n h = omega (arith, h p)
few-pushed p (some f) rest n h = few_if (taken p f.mark) f p rest n h

pub fxs-few : (p : Option Mark) (l : List Merged) → length (fxs_after p l) ≤ length l - 2
unfolding fxs_after
fxs-few p [] = omega arith
fxs-few p (a ∷ []) = omega arith
fxs-few p (a ∷ b ∷ []) = omega arith
fxs-few p (a ∷ b ∷ c ∷ l) =
    let h : (q : Option Mark) → length (fxs_after q (b ∷ c ∷ l)) ≤ length l = λ q. let e = fxs-few q (b ∷ c ∷ l) in omega arith in
    let g = few-pushed p (check_fx a b c) (λ q. fxs_after q (b ∷ c ∷ l)) (length l) h in
    omega arith

end-most : (t : Bool) (x : ℕ) → end_if t x ≤ x + 1
unfolding end_if
end-most true x = omega arith
end-most false x = omega arith

pub written-few : (u : MergedStore) (first bars n e : ℕ) → e ≡ windows_end first bars n → length (fractals_between (raw_part u) first e) ≤ bars
unfolding fractals_between check_fxs windows_end
written-few u first bars n e h =
    let X = map plain_bar (raw_bars (raw_part u)) in
    let a = fxs-few none (drop first (take e X)) in
    let b = length-drop first (take e X) in
    let c = length-take-most e X in
    let d = end-most (ltb (first + bars) n) (first + bars) in
    omega arith

pub total-more : (ns : List ℕ) (n : ℕ) → total (ns ++ n ∷ []) ≡ total ns + n
unfolding total
total-more [] n = omega arith
total-more (x ∷ ns) n = let e = total-more ns n in omega arith

fewer-more : (ns ms : List ℕ) (n m : ℕ) → length ns ≡ length ms → m ≤ n → Fewer ns ms → Fewer (ns ++ n ∷ []) (ms ++ m ∷ [])
fewer-more [] [] n m e h g = (h, tt)
fewer-more [] (y ∷ ms) n m e h g = let z : ⊥ = omega arith in absurd z
fewer-more (x ∷ ns) [] n m e h g = let z : ⊥ = omega arith in absurd z
fewer-more (x ∷ ns) (y ∷ ms) n m e h g = (g.0, fewer-more ns ms n m (omega arith) h g.1)

-- strokes of stores that were written behind them
more_read : (ns ms : List ℕ) (n m : ℕ) (ks x : List Merged) (fs y : List Fractal) → length ns ≡ length ms → Fewer ns ms → total ns ≤ length ks → total ns ≤ length fs → n ≡ length x → m ≡ length y
    → strokes_with (ns ++ n ∷ []) (ms ++ m ∷ []) (pasted ks (total ns) x) (pasted fs (total ns) y) ≡ strokes_with ns ms ks fs ++ stroke_with y x ∷ []
more_read ns ms n m ks x fs y e h a b p q =
    let t = total ns in
    strokes-more ns ms n m (pasted ks t x) (pasted fs t y) e
    ∙ (λ i. strokes-same ns ms (pasted ks t x) ks (pasted fs t y) fs h (take-pasted ks t x a) (take-pasted fs t y b) i
    ++ stroke_with (run-pasted fs t m y b q i) (run-pasted ks t n x a p i) ∷ [])

written_shown : (r : RawStore) (first e : ℕ) → All Shown (fractals_between r first e)
unfolding fractals_between check_fxs
written_shown r first e = fxs_shown none (drop first (take e (map plain_bar (raw_bars r))))

total_kept : (s : Stand) → total (take s.strokes s.bars) ≡ total (bar_counts s)
unfolding bar_counts
total_kept s = refl

settings-same : (s : Stand) (n m : ℕ) → settings_of (with_stroke s n m) ≡ settings_of s
unfolding settings_of with_stroke
settings-same s n m = refl

end-within : (t : Bool) (x n : ℕ) → ltb x n ≡ t → x ≤ n → (x ≤ end_if t x) × (end_if t x ≤ x + 1) × (end_if t x ≤ n)
unfolding end_if
end-within true x n e h = let k : x < n = ltb-true x n e in (omega arith, omega arith, omega arith)
end-within false x n e h = (omega arith, omega arith, h)

module _ (s : Stand) (u k : MergedStore) (f : FractalStore) (first bars : ℕ) (h : Kept s k f) (g : Makeable s u first bars) where
  -- what the stores have room for
  pub make-rooms : (t : ℕ) → t ≡ total (take s.strokes s.bars) → RoomMerged u (first + bars) × RoomMerged k (t + bars)
  unfolding bar_counts
  make-rooms t e =
      let a = g.inside in
      let b = g.unfinished in
      let d = g.fits in
      (room_of u s.rooms.unfinished (first + bars) g.merged (omega arith), room_of k s.rooms.strokes (t + bars) h.merged (omega arith))

  end-inside : (e : ℕ) → e ≡ windows_end first bars s.unfinished → (first + bars ≤ e) × (e ≤ first + bars + 1) × (e ≤ s.unfinished)
  unfolding windows_end
  end-inside e q = let w = end-within (ltb (first + bars) s.unfinished) (first + bars) s.unfinished refl g.inside in (omega arith, omega arith, omega arith)

  pub end_after : (e : ℕ) → e ≡ windows_end first bars s.unfinished → first ≤ e
  end_after e q = let w = end-inside e q in omega arith

  pub window_room : (e : ℕ) → e ≡ windows_end first bars s.unfinished → RoomRaw (raw_part u) e
  window_room e q =
      let w = end-inside e q in
      let b = g.unfinished in
      (room_of u s.rooms.unfinished e g.merged (omega arith)).raw

  pub fractal-room : (e t : ℕ) → e ≡ windows_end first bars s.unfinished → t ≡ total (take s.strokes s.bars) → RoomFractals f (t + (e - first) - 2)
  unfolding bar_counts
  fractal-room e t q r =
      let w = end-inside e q in
      let d = g.fits in
      room-fractals f s.rooms.strokes (t + (e - first) - 2) h.fractals (omega arith)

  -- both counts of the new stroke fit the stand's
  pub counts_fit_lem : (e m : ℕ) → e ≡ windows_end first bars s.unfinished → m ≡ length (fractals_between (raw_part u) first e) → (s.strokes ≤ 64) × (bars < 4294967296) × (m < 4294967296)
  counts_fit_lem e m ee em = let a = written-few u first bars s.unfinished e ee in let b = g.few in (g.strokes, b, omega arith)

  lower : length (merged_bars u) ≡ s.rooms.unfinished
  lower = merged-length u s.rooms.unfinished g.merged

  inside : first + bars ≤ length (merged_bars u)
  inside = let a = g.inside in let b = g.unfinished in omega (arith, lower)

  bars_read_lem : (k' : MergedStore) (t : ℕ) → CopiedInUse k t u first bars k'
      → merged_bars k' ≡ pasted (merged_bars k) t (take bars (drop first (take s.unfinished (merged_bars u))))
  bars_read_lem k' t e =
      copied_read k u k' t first bars s.rooms.strokes s.rooms.unfinished h.merged g.merged e
      ∙ copied-pasted (merged_bars k) (merged_bars u) t first bars inside
      ∙ ap (pasted (merged_bars k) t) (sym (run_take (merged_bars u) s.unfinished first bars g.inside))

  written_are : (e : ℕ) → e ≡ windows_end first bars s.unfinished
      → map bare_fractal (fractals_between (raw_part u) first e) ≡ map bare_fractal (check_fxs (take (bars + 1) (drop first (take s.unfinished (merged_bars u)))))
  unfolding windows_end
  written_are e q =
      let U = merged_bars u in
      let n = s.unfinished in
      let x = first + bars in
      let d : first + (bars + 1) ≡ x + 1 = omega arith in
      fractals_are u s.rooms.unfinished first e g.merged
      ∙ ap (λ (z : List Merged). map bare_fractal (check_fxs (drop first z))) (ap (λ (y : ℕ). take y U) q ∙ end_take (ltb x n) U x n refl g.inside)
      ∙ ap (λ (z : List Merged). map bare_fractal (check_fxs z)) (ap (λ (y : ℕ). drop first (take y (take n U))) (sym d) ∙ sym (run_is (take n U) first (bars + 1)))

  fractals_read : (f' : FractalStore) (t e : ℕ) → e ≡ windows_end first bars s.unfinished → f' ≡ put_fractals f t (fractals_between (raw_part u) first e)
      → stored_fractals f' ≡ pasted (stored_fractals f) t (map bare_fractal (check_fxs (take (bars + 1) (drop first (take s.unfinished (merged_bars u))))))
  fractals_read f' t e q w =
      ap stored_fractals w
      ∙ stored_put f t s.rooms.strokes (fractals_between (raw_part u) first e) h.fractals (written_shown (raw_part u) first e)
      ∙ ap (pasted (stored_fractals f) t) (written_are e q)

  -- a stand whose stroke store was written so
  pub made_means : (r : Stand) (k' : MergedStore) (f' : FractalStore) (t e m : ℕ)
      → t ≡ total (take s.strokes s.bars)
      → e ≡ windows_end first bars s.unfinished
      → CopiedInUse k t u first bars k'
      → m ≡ length (fractals_between (raw_part u) first e)
      → f' ≡ put_fractals f t (fractals_between (raw_part u) first e)
      → r ≡ with_stroke s bars m
      → bar_counts r ≡ bar_counts s ++ bars ∷ []
      → fractal_counts r ≡ fractal_counts s ++ m ∷ []
      → length (bar_counts s) ≡ length (fractal_counts s)
      → Made s u k f first bars r k' f'
  unfolding kept_strokes made_stroke with_stroke
  made_means r k' f' t e m et ee ek em ef er ns ms long =
      let room = s.rooms.strokes in
      let w = bar_counts s in
      let l = take s.unfinished (merged_bars u) in
      let x = take bars (drop first l) in
      let y = map bare_fractal (check_fxs (take (bars + 1) (drop first l))) in
      let tt' : t ≡ total w = et ∙ total_kept s in
      let fits = h.fits in
      let more = g.fits in
      let lk : length (merged_bars k) ≡ room = merged-length k room h.merged in
      let lf : length (stored_fractals f) ≡ room = stored_length f room h.fractals in
      let lx : length x ≡ bars = ap length (run_take (merged_bars u) s.unfinished first bars g.inside) ∙ length-take-le bars (drop first (merged_bars u)) (rw length-drop (omega (arith, inside))) in
      let ly : m ≡ length y = em ∙ sym (length-map (fractals_between (raw_part u) first e) bare_fractal) ∙ ap length (written_are e ee) in
      let few = written-few u first bars s.unfinished e ee in
      let rm : r.rooms.strokes ≡ room = ap (λ (z : Stand). z.rooms.strokes) er in
      let st : r.strokes ≡ s.strokes + 1 = ap (λ (z : Stand). z.strokes) er in
      let sl = g.strokes in
      record {
        strokes =
            (λ i. strokes_with (ns i) (ms i) (bars_read_lem k' t ek i) (fractals_read f' t e ee ef i))
            ∙ (λ i. strokes_with (w ++ bars ∷ []) (fractal_counts s ++ m ∷ []) (pasted (merged_bars k) (tt' i) x) (pasted (stored_fractals f) (tt' i) y))
            ∙ more_read w (fractal_counts s) bars m (merged_bars k) x (stored_fractals f) y long h.fewer (rw lk fits) (rw lf fits) (sym lx) ly;
        kept =
            record {
              strokes = omega arith;
              merged =
                  subst (SizedMerged k') (sym rm)
                  (copied-sized k u k' t first bars room s.rooms.unfinished h.merged g.merged ek (rw tt' more) (rw lower at inside));
              fractals =
                  subst (SizedFractals f') (sym rm) (subst (λ (z : FractalStore). SizedFractals z room) (sym ef)
                  (sized_put f t room (fractals_between (raw_part u) first e) h.fractals (omega arith)));
              fits = rw (ns, rm, total-more w bars) more;
              fewer =
                  subst (λ (z : List ℕ). Fewer (bar_counts r) z) (sym ms)
                  (subst (λ (z : List ℕ). Fewer z (fractal_counts s ++ m ∷ [])) (sym ns) (fewer-more w (fractal_counts s) bars m long (omega arith) h.fewer));
            };
        rest =
            record {
              settings = ap settings_of er ∙ settings-same s bars m;
              rooms = ap (λ (z : Stand). z.rooms) er;
              raw = ap (λ (z : Stand). z.raw) er;
              unfinished = ap (λ (z : Stand). z.unfinished) er;
            };
        elements =
            λ fresh few. subst (λ (i : ℕ). T (elements_sized i k')) (sym (ap total ns ∙ total-more w bars))
            (stay_added k u k' (total w) first bars s.unfinished room s.rooms.unfinished h.merged g.merged g.inside g.unfinished more
            (ek.rows.counts ∙ ap (λ (x : ℕ). copied k.counts x u.counts first bars) tt') fresh few);
      }

-- ---- the stroke that check_bi makes

no_bare : bare_fractal no_fractal ≡ no_fractal
unfolding bare_fractal bare_bar no_fractal row_fractal fractal_of row_bar
no_bare = refl

read_bare : (fs : List Fractal) (i : ℕ) → get_or (map bare_fractal fs) i no_fractal ≡ bare_fractal (get_or fs i no_fractal)
read_bare fs i = ap (λ (z : Fractal). get_or (map bare_fractal fs) i z) (sym no_bare) ∙ get_or-map bare_fractal fs i no_fractal

bars-at : (l : List Merged) (fs : List Placed) (s e : Placed) → take (e.place + 3 - s.place) (drop s.place l) ≡ (stroke_at l fs s e).bars
unfolding stroke_at
bars-at l fs s e = refl

-- its rows show it
pub made-is : (minimum : ℕ) (l : List Merged) (made : MadeFrom minimum l (check_bi minimum l))
    → made_stroke l made.start.place (made.end.place + 3 - made.start.place) ≡ bare_stroke (stroke_at l (made.start ∷ made.others) made.start made.end)
unfolding made_stroke stroke_with bare_stroke
made-is minimum l made =
    let b = stroke_at l (made.start ∷ made.others) made.start made.end in
    let n = made.end.place + 3 - made.start.place in
    let fs = check_fxs (take (n + 1) (drop made.start.place l)) in
    let q : fs ≡ b.fractals = sym (stroke-fractals minimum l (check_bi minimum l) made) in
    let F = stroke-found minimum l b (ap (λ z. z.stroke) made.found) in
    let rest = (check_bi minimum l).rest in
    let p : get_or (map bare_fractal fs) 0 no_fractal ≡ bare_fractal b.start =
    read_bare fs 0 ∙ ap bare_fractal (ap (λ (z : List Fractal). get_or z 0 no_fractal) q ∙ start_read no_fractal minimum l b rest F) in
    let e : get_or (map bare_fractal fs) (2 * (length (map bare_fractal fs) / 2) - 1) no_fractal ≡ bare_fractal b.end =
    ap (λ (k : ℕ). get_or (map bare_fractal fs) (2 * (k / 2) - 1) no_fractal) (length-map fs bare_fractal)
    ∙ read_bare fs (2 * (length fs / 2) - 1)
    ∙ ap bare_fractal (ap (λ (z : List Fractal). get_or z (2 * (length z / 2) - 1) no_fractal) q ∙ end_read no_fractal minimum l b rest F) in
    λ i. record { start = p i; end = e i; fractals = map bare_fractal (q i); bars = bars-at l (made.start ∷ made.others) made.start made.end i }

-- the same where the bars were cut
pub made-cut : (l : List Merged) (at first bars : ℕ) → made_stroke (drop at l) first bars ≡ made_stroke l (at + first) bars
unfolding made_stroke
made-cut l at first bars = ap (λ (z : List Merged). stroke_with (map bare_fractal (check_fxs (take (bars + 1) z))) (take bars z)) (drop-drop first at l)

-- ---- the last stroke

module _ {A : Type 0} where
  last_more : (l : List A) (a : A) → last (l ++ a ∷ []) ≡ some a
  unfolding last
  last_more [] a = refl
  last_more (x ∷ []) a = refl
  last_more (x ∷ y ∷ l) a = last_more (y ∷ l) a

  last-before : (l : List A) (z : A) → 2 ≤ length l → last (init l) ≡ some (get_or l (length l - 2) z)
  unfolding last init
  last-before [] z h = let w : ⊥ = omega arith in absurd w
  last-before (a ∷ []) z h = let w : ⊥ = omega arith in absurd w
  last-before (a ∷ b ∷ []) z h = refl
  last-before (a ∷ b ∷ c ∷ l) z h =
      let e : length (a ∷ b ∷ c ∷ l) - 2 ≡ suc (length (b ∷ c ∷ l) - 2) = omega arith in
      last-before (b ∷ c ∷ l) z (omega arith) ∙ ap (λ (i : ℕ). some (get_or (a ∷ b ∷ c ∷ l) i z)) (sym e)

  -- an element of a run
  run_at : (l : List A) (t n i : ℕ) (z : A) → i < n → get_or (take n (drop t l)) i z ≡ get_or l (t + i) z
  run_at l t n i z h = get_or-take n (drop t l) i z h ∙ get_or-drop t l i z

pub take-before : (l : List ℕ) (n : ℕ) → 1 ≤ n → n ≤ length l → take n l ≡ take (n - 1) l ++ get_or l (n - 1) 0 ∷ []
take-before l n one q =
    let e : n ≡ suc (n - 1) = omega arith in
    ap (λ (m : ℕ). take m l) e ∙ take-suc l (n - 1) 0 (omega arith)

-- what stands in a fractal's row
row-high : (t : List ℤ) (p : List Float) → (row_fractal t p).mid.bar.high ≡ get_or p 8 nan
unfolding row_fractal fractal_of row_bar bar_of
row-high t p = get_or-take 6 (drop 6 p) 2 nan (omega arith) ∙ get_or-drop 6 p 2 nan

row_low : (t : List ℤ) (p : List Float) → (row_fractal t p).mid.bar.low ≡ get_or p 9 nan
unfolding row_fractal fractal_of row_bar bar_of
row_low t p = get_or-take 6 (drop 6 p) 3 nan (omega arith) ∙ get_or-drop 6 p 3 nan

pub row-mark : (t : List ℤ) (p : List Float) → (row_fractal t p).mark ≡ row_mark p
unfolding row_mark row_fractal fractal_of row_bar bar_of is_top
row-mark t p = refl

-- a row is a top's, by its highs and lows
marked : (t : Bool) → cond t G D ≡ mark_if t
unfolding mark_if
marked true = refl
marked false = refl

pub row_top : (p : List Float) (a b c : ℤ)
    → row_mark p
    ≡ mark_if
    (top_of (record { time = a; high = get_or p 2 nan; low = get_or p 3 nan }) (record { time = b; high = get_or p 8 nan; low = get_or p 9 nan })
    (record { time = c; high = get_or p 14 nan; low = get_or p 15 nan }))
unfolding row_mark row_fractal fractal_of row_bar bar_of is_top top_of
row_top p a b c =
    let x = get_or-take 6 p 2 nan (omega arith) in
    let x' = get_or-take 6 p 3 nan (omega arith) in
    let y = get_or-take 6 (drop 6 p) 2 nan (omega arith) ∙ get_or-drop 6 p 2 nan in
    let y' = get_or-take 6 (drop 6 p) 3 nan (omega arith) ∙ get_or-drop 6 p 3 nan in
    let z = get_or-take 6 (drop 12 p) 2 nan (omega arith) ∙ get_or-drop 12 p 2 nan in
    let z' = get_or-take 6 (drop 12 p) 3 nan (omega arith) ∙ get_or-drop 12 p 3 nan in
    (λ i. cond ((lt (x i) (y i) && lt (z i) (y i)) && (lt (x' i) (y' i) && lt (z' i) (y' i))) G D) ∙ marked _

stored_at : (f : FractalStore) (n i : ℕ) (z : Fractal) → SizedFractals f n → i < n → get_or (stored_fractals f) i z ≡ row_fractal (get_or f.stamps i []) (get_or f.prices i [])
unfolding stored_fractals
stored_at f n i z h k = zip-at row_fractal i f.stamps f.prices [] [] z (omega (arith, h.stamps)) (omega (arith, h.prices))

time-at : (k : MergedStore) (n i : ℕ) (z : Merged) → SizedMerged k n → i < n → (get_or (merged_bars k) i z).bar.time ≡ get_or k.times i (pos 0)
unfolding new_bar_at bar_at bar_of merged_of
time-at k n i z h g = ap (λ (x : Merged). x.bar.time) (merged-at k i z (room_of k n (i + 1) h (omega arith)))

module _ (s : Stand) (k : MergedStore) (f : FractalStore) (h : Kept s k f) (g : LastStands s s.rooms.strokes) (lb : s.strokes ≤ length s.bars) (lf : s.strokes ≤ length s.fractals) where
  abbrev at : ℕ
  at = last_place s

  abbrev ks : List Merged
  ks = take (last_bars s) (drop at (merged_bars k))

  abbrev fx : List Fractal
  fx = take (last_fractals s) (drop at (stored_fractals f))

  kept-last : last (kept_strokes s k f) ≡ some (stroke_with fx ks)
  unfolding kept_strokes bar_counts fractal_counts last_place last_bars last_fractals
  kept-last =
      let n = s.strokes - 1 in
      let ns = take n s.bars in
      let ms = take n s.fractals in
      let e : length ns ≡ length ms = length-take-le n s.bars (omega arith) ∙ sym (length-take-le n s.fractals (omega arith)) in
      ap last ((λ i. strokes_with (take-before s.bars s.strokes g.strokes lb i) (take-before s.fractals s.strokes g.strokes lf i) (merged_bars k) (stored_fractals f))
      ∙ strokes-more ns ms (get_or s.bars n 0) (get_or s.fractals n 0) (merged_bars k) (stored_fractals f) e)
      ∙ last_more (strokes_with ns ms (merged_bars k) (stored_fractals f)) (stroke_with fx ks)

  fx-length : length fx ≡ last_fractals s
  fx-length =
      let a = g.fits in
      let b = g.fewer in
      length-take-le (last_fractals s) (drop at (stored_fractals f)) (omega (arith, length-drop at (stored_fractals f), stored_length f s.rooms.strokes h.fractals))

  ks_length : length ks ≡ last_bars s
  ks_length =
      let a = g.fits in
      length-take-le (last_bars s) (drop at (merged_bars k)) (omega (arith, length-drop at (merged_bars k), merged-length k s.rooms.strokes h.merged))

  start_is : get_or fx 0 no_fractal ≡ row_fractal (get_or f.stamps at []) (get_or f.prices at [])
  start_is =
      let a = g.fits in
      let b = g.ends in
      let d = g.fewer in
      let e : at + 0 ≡ at = omega arith in
      run_at (stored_fractals f) at (last_fractals s) 0 no_fractal (omega arith)
      ∙ ap (λ (i : ℕ). get_or (stored_fractals f) i no_fractal) e
      ∙ stored_at f s.rooms.strokes at no_fractal h.fractals (omega arith)

  end_is : get_or fx (2 * (length fx / 2) - 1) no_fractal ≡ row_fractal (get_or f.stamps (end_place s) []) (get_or f.prices (end_place s) [])
  unfolding end_place
  end_is =
      let a = g.fits in
      let b = g.ends in
      let d = g.fewer in
      let i = 2 * (last_fractals s / 2) - 1 in
      ap (λ (n : ℕ). get_or fx (2 * (n / 2) - 1) no_fractal) fx-length
      ∙ run_at (stored_fractals f) at (last_fractals s) i no_fractal (omega arith)
      ∙ stored_at f s.rooms.strokes (at + i) no_fractal h.fractals (omega arith)

  -- what is read of the columns is the last stroke's
  pub last-is : LastIs s k f (last_read s k.times f.prices)
  unfolding last_read stroke_with high_of low_of
  last-is =
      let fit = g.fits in
      let two = g.two in
      let ends = g.ends in
      let few = g.fewer in
      let z : Merged = record { bar = bar_at (raw_part k) 0; elements = [] } in
      let i = last_bars s - 2 in
      let o = get_or (merged_bars k) (at + i) z in
      let j : at + last_bars s - 2 ≡ at + i = omega arith in
      record {
        stroke = stroke_with fx ks;
        is = kept-last;
        high =
            (λ t. max_of (sym (row-high (get_or f.stamps at []) (get_or f.prices at [])) t) (sym (row-high (get_or f.stamps (end_place s) []) (get_or f.prices (end_place s) [])) t))
            ∙ (λ t. max_of (sym start_is t).mid.bar.high (sym end_is t).mid.bar.high);
        low =
            (λ t. min_of (sym (row_low (get_or f.stamps at []) (get_or f.prices at [])) t) (sym (row_low (get_or f.stamps (end_place s) []) (get_or f.prices (end_place s) [])) t))
            ∙ (λ t. min_of (sym start_is t).mid.bar.low (sym end_is t).mid.bar.low);
        direction =
            ap direction_of (sym (row-mark (get_or f.stamps at []) (get_or f.prices at []))) ∙ ap (λ (x : Fractal). direction_of x.mark) (sym start_is);
        bars = refl;
        count = sym ks_length;
        before = o;
        last_but_one =
            last-before ks z (omega (arith, ks_length))
            ∙ ap (λ (n : ℕ). some (get_or ks (n - 2) z)) ks_length
            ∙ ap some (run_at (merged_bars k) at (last_bars s) i z (omega arith));
        time = ap (λ (n : ℕ). get_or k.times n (pos 0)) j ∙ sym (time-at k s.rooms.strokes (at + i) z h.merged (omega arith));
      }

-- the same of the numbers that the code has computed
-- the sum of the first n counts is that of those before the last of them, and the last
total_suc : (n : ℕ) (l : List ℕ) → total (take (suc n) l) ≡ total (take n l) + get_or l n 0
unfolding total
total_suc zero [] = omega arith
total_suc zero (x ∷ l) = omega arith
total_suc (suc n) [] = omega arith
total_suc (suc n) (x ∷ l) = omega (arith, total_suc n l)

pub last-sums : (l : List ℕ) (n : ℕ) → 1 ≤ n → total (take n l) ≡ total (take (n - 1) l) + get_or l (n - 1) 0
last-sums l zero h = absurd (omega arith)
last-sums l (suc n) h = let e : suc n - 1 ≡ n = omega arith in rw e (total_suc n l)

-- where the bars of the last stroke begin, by where they end
pub last-place-is : (l : List ℕ) (n u : ℕ) → 1 ≤ n → u ≡ total (take n l) → u - get_or l (n - 1) 0 ≡ total (take (n - 1) l)
last-place-is l n u h e = omega (arith, last-sums l n h)

-- the rows that the break test reads of it are inside a store of n places
pub record LastInside (s : Stand) (n t e : ℕ) : Type 0 where
  pub start : t < n
  pub end : t + e < n
  pub two : 2 ≤ get_or s.bars (s.strokes - 1) 0
  pub bars : t + get_or s.bars (s.strokes - 1) 0 ≤ n

pub last_inside : (s : Stand) (n u e : ℕ) → LastStands s n → u ≡ total (bar_counts s) → e ≡ 2 * (get_or s.fractals (s.strokes - 1) 0 / 2) - 1
    → LastInside s n (u - get_or s.bars (s.strokes - 1) 0) e
unfolding last_place last_bars last_fractals bar_counts
last_inside s n u e p q r =
    let a = p.fits in
    let two = p.two in
    let b = p.ends in
    let d = p.fewer in
    let t = last-place-is s.bars s.strokes u p.strokes q in
    record { start = omega arith; end = omega arith; two = two; bars = omega arith }

pub last_done : (s : Stand) (ts : List ℤ) (ps : List (List Float)) (r : LastStroke) (t i : ℕ)
    → t ≡ total (take (s.strokes - 1) s.bars)
    → i ≡ 2 * (get_or s.fractals (s.strokes - 1) 0 / 2) - 1
    → r.high ≡ max_of (get_or (get_or ps t []) 8 nan) (get_or (get_or ps (t + i) []) 8 nan)
    → r.low ≡ min_of (get_or (get_or ps t []) 9 nan) (get_or (get_or ps (t + i) []) 9 nan)
    → r.direction ≡ direction_of (row_mark (get_or ps t []))
    → r.bars ≡ get_or s.bars (s.strokes - 1) 0
    → r.time ≡ get_or ts (t + get_or s.bars (s.strokes - 1) 0 - 2) (pos 0)
    → r.place ≡ t
    → r ≡ last_read s ts ps
unfolding last_read last_place last_bars last_fractals end_place
last_done s ts ps r t i e q h l d b m p =
    let n = get_or s.bars (s.strokes - 1) 0 in
    let h' = h ∙ (λ x. max_of (get_or (get_or ps (e x) []) 8 nan) (get_or (get_or ps (e x + q x) []) 8 nan)) in
    let l' = l ∙ (λ x. min_of (get_or (get_or ps (e x) []) 9 nan) (get_or (get_or ps (e x + q x) []) 9 nan)) in
    let d' = d ∙ ap (λ (x : ℕ). direction_of (row_mark (get_or ps x []))) e in
    let m' = m ∙ ap (λ (x : ℕ). get_or ts (x + n - 2) (pos 0)) e in
    let p' = p ∙ e in
    λ i. record { high = h' i; low = l' i; direction = d' i; bars = b i; time = m' i; place = p' i }

-- ---- a stand whose stores have their recorded lengths and whose strokes have fewer fractals than bars

pub sized-merged : (n : ℕ) (k : MergedStore) → T (merged_sized n k) → SizedMerged k n
unfolding merged_sized
sized-merged n k h =
    let t = eqb (length k.times) n in
    let i = eqb (length k.ids) n in
    let p = eqb (length k.prices) n in
    let c = eqb (length k.counts) n in
    let e = eqb (length k.elements) n in
    let a = and_l (t && (i && p)) (c && e) h in
    let b = and_r (t && (i && p)) (c && e) h in
    let d = and_r t (i && p) a in
    record {
      raw = record { times = eqb→eq (length k.times) n (and_l t (i && p) a); ids = eqb→eq (length k.ids) n (and_l i p d); prices = eqb→eq (length k.prices) n (and_r i p d) };
      counts = eqb→eq (length k.counts) n (and_l c e b);
      elements = eqb→eq (length k.elements) n (and_r c e b);
    }

pub sized-fractals : (n : ℕ) (f : FractalStore) → T (fractal_sized n f) → SizedFractals f n
unfolding fractal_sized
sized-fractals n f h =
    let a = eqb (length f.stamps) n in
    let b = eqb (length f.prices) n in
    record { stamps = eqb→eq (length f.stamps) n (and_l a b h); prices = eqb→eq (length f.prices) n (and_r a b h) }

fewer_of : (ns ms : List ℕ) (ks : List Merged) (fs : List Fractal) → total ns ≤ length ks → length ks ≤ length fs → T (every fewer_fractals (strokes_with ns ms ks fs)) → Fewer ns ms
unfolding strokes_with stroke_with every fewer_fractals total
fewer_of [] ms ks fs h g a = tt
fewer_of (n ∷ ns) [] ks fs h g a = tt
fewer_of (n ∷ ns) (m ∷ ms) ks fs h g a =
    let t = ltb (length (take m fs)) (length (take n ks)) in
    let r = every fewer_fractals (strokes_with ns ms (drop n ks) (drop n fs)) in
    let q = ltb→lt (length (take m fs)) (length (take n ks)) (and_l t r a) in
    let x = length-take m fs in
    let y = length-take n ks in
    let u = length-drop n ks in
    let v = length-drop n fs in
    (omega arith, fewer_of ns ms (drop n ks) (drop n fs) (omega arith) (omega arith) (and_r t r a))

pub kept_of_lem : (s : Stand) (m : Stores) → T (sized s m) → T (every fewer_fractals (kept_strokes s m.strokes m.fractals)) → Kept s m.strokes m.fractals
unfolding sized stores_sized counts_sized kept_strokes
kept_of_lem s m h g =
    let k = m.strokes in
    let f = m.fractals in
    let room = s.rooms.strokes in
    let r1 = raw_sized s.rooms.raw m.raw && merged_sized s.rooms.unfinished m.unfinished in
    let r2 = merged_sized room k && fractal_sized room f in
    let c1 = leb s.raw s.rooms.raw && leb s.unfinished s.rooms.unfinished in
    let c2 = leb s.strokes 64 && leb (total (bar_counts s)) room in
    let e = elements_sized s.unfinished m.unfinished && elements_sized (total (bar_counts s)) k in
    let a = and_r r1 r2 (and_l (r1 && r2) ((c1 && c2) && e) h) in
    let b = and_r c1 c2 (and_l (c1 && c2) e (and_r (r1 && r2) ((c1 && c2) && e) h)) in
    let km = sized-merged room k (and_l (merged_sized room k) (fractal_sized room f) a) in
    let kf = sized-fractals room f (and_r (merged_sized room k) (fractal_sized room f) a) in
    let lk = merged-length k room km in
    let lf = stored_length f room kf in
    let n = leb→le s.strokes 64 (and_l (leb s.strokes 64) (leb (total (bar_counts s)) room) b) in
    let t = leb→le (total (bar_counts s)) room (and_r (leb s.strokes 64) (leb (total (bar_counts s)) room) b) in
    record {
      strokes = omega arith;
      merged = km;
      fractals = kf;
      fits = t;
      fewer = fewer_of (bar_counts s) (fractal_counts s) (merged_bars k) (stored_fractals f) (omega arith) (omega arith) g;
    }

-- the strokes of a state that is read off a stand and its stores
pub kept-state : (s : Stand) (m : Stores) → (state_of s m).strokes ≡ kept_strokes s m.strokes m.fractals
unfolding state_of kept_strokes
kept-state s m = refl

-- ---- the last stroke is taken off

fewer-less : (ns ms : List ℕ) (n m : ℕ) → Fewer (ns ++ n ∷ []) (ms ++ m ∷ []) → Fewer ns ms
fewer-less [] ms n m h = tt
fewer-less (x ∷ ns) [] n m h = tt
fewer-less (x ∷ ns) (y ∷ ms) n m h = (h.0, fewer-less ns ms n m h.1)

pub taken_off : (s : Stand) (k : MergedStore) (f : FractalStore) → Kept s k f → 1 ≤ s.strokes → s.strokes ≤ length s.bars → s.strokes ≤ length s.fractals
    → TakenOff s k f (without_last s)
unfolding without_last kept_strokes bar_counts fractal_counts settings_of
taken_off s k f h one lb lf =
    let n = s.strokes - 1 in
    let ns = take n s.bars in
    let ms = take n s.fractals in
    let x = get_or s.bars n 0 in
    let y = get_or s.fractals n 0 in
    let p : take s.strokes s.bars ≡ ns ++ x ∷ [] = take-before s.bars s.strokes one lb in
    let q : take s.strokes s.fractals ≡ ms ++ y ∷ [] = take-before s.fractals s.strokes one lf in
    let e : length ns ≡ length ms = length-take-le n s.bars (omega arith) ∙ sym (length-take-le n s.fractals (omega arith)) in
    let K = merged_bars k in
    let F = stored_fractals f in
    let b = stroke_with (take y (drop (total ns) F)) (take x (drop (total ns) K)) in
    let less = h.strokes in
    let fit = h.fits in
    let sum = ap total p ∙ total-more ns x in
    record {
      strokes = sym (ap init ((λ i. strokes_with (p i) (q i) K F) ∙ strokes-more ns ms x y K F e) ∙ init_snoc (strokes_with ns ms K F) b);
      kept =
          record {
            strokes = omega arith;
            merged = h.merged;
            fractals = h.fractals;
            fits = omega arith;
            fewer = fewer-less ns ms x y (subst (λ (z : List ℕ). Fewer (ns ++ x ∷ []) z) q (subst (λ (z : List ℕ). Fewer z (take s.strokes s.fractals)) p h.fewer));
          };
      rest = record { settings = refl; rooms = refl; raw = refl; unfinished = refl };
    }

-- ---- the stroke that the scan finds

pub place_of : (f : Fx) (p : Placed) → f ≡ fx_placed p → f.place ≡ p.place
unfolding fx_placed fx_at
place_of f p e = ap (λ (z : Fx). z.place) e

-- its rows show the stroke that check_bi makes
pub found-is : (minimum : ℕ) (l : List Merged) (f : FoundBi) (m : MadeAs minimum l (check_bi minimum l) f)
    → made_stroke l f.start.place f.bars ≡ bare_stroke (stroke_at l (m.from.start ∷ m.from.others) m.from.start m.from.end)
found-is minimum l f m =
    let made = m.from in
    let s = made.start.place in
    let e = made.end.place in
    let n = e + 3 - s in
    let fs = made.start ∷ made.others in
    let o = order minimum l (check_bi minimum l) made in
    let w = end-stands minimum l (check_bi minimum l) made in
    let x = made.end.fractal in
    let i = fits l e x.left x.mid x.right w.after w.is in
    let c : length (take n (drop s l)) ≡ n = length-take-le n (drop s l) (omega (arith, length-drop s l)) in
    let b : f.bars ≡ n = m.bars ∙ sym (ap length (bars-at l fs made.start made.end)) ∙ c in
    let a : f.start.place ≡ s = place_of f.start made.start m.start in
    (λ t. made_stroke l (a t) (b t)) ∙ made-is minimum l made

-- so that the strokes kept and the stroke found read as the machine's, but for the elements of fractals' bars
pub made_kept : (s r : Stand) (u k : MergedStore) (f : FractalStore) (k' : MergedStore) (f' : FractalStore) (first bars : ℕ) (bs : List Stroke) (b : Stroke)
    → Made s u k f first bars r k' f'
    → kept_strokes s k f ≡ map bare_stroke bs
    → made_stroke (take s.unfinished (merged_bars u)) first bars ≡ bare_stroke b
    → kept_strokes r k' f' ≡ map bare_stroke (bs ++ b ∷ [])
made_kept s r u k f k' f' first bars bs b m e q = m.strokes ∙ (λ i. e i ++ q i ∷ []) ∙ sym (map-append bare_stroke bs (b ∷ []))

pub shed-kept : (over : Bool) (s r : Stand) (k : MergedStore) (f : FractalStore) (k' : MergedStore) (f' : FractalStore) (bs : List Stroke)
    → ShedWhere over s k f r k' f'
    → kept_strokes s k f ≡ map bare_stroke bs
    → kept_strokes r k' f' ≡ map bare_stroke (shed_if over bs)
shed-kept over s r k f k' f' bs m e = m.strokes ∙ ap (shed_if over) e ∙ shed_bare over bs

-- ---- sound strokes stand so

every-last : {A : Type 0} (p : A → Bool) (l : List A) (a : A) → T (every p (l ++ a ∷ [])) → T (p a)
unfolding every
every-last p [] a h = and_l (p a) true h
every-last p (x ∷ l) a h = every-last p l a (and_r (p x) (every p (l ++ a ∷ [])) h)

pub not-empty : {A : Type 0} (p : A → Bool) (l : List A) → T (some_of p l) → 1 ≤ length l
unfolding some_of
not-empty p [] h = absurd h
not-empty p (a ∷ l) h = omega arith

fewer-last : (ns ms : List ℕ) (n m : ℕ) → length ns ≡ length ms → Fewer (ns ++ n ∷ []) (ms ++ m ∷ []) → m ≤ n
fewer-last [] [] n m e h = h.0
fewer-last [] (y ∷ ms) n m e h = let z : ⊥ = omega arith in absurd z
fewer-last (x ∷ ns) [] n m e h = let z : ⊥ = omega arith in absurd z
fewer-last (x ∷ ns) (y ∷ ms) n m e h = fewer-last ns ms n m (omega arith) h.1

pub record StrokeSound (b : Stroke) : Type 0 where
  pub bars : 4 ≤ length b.bars
  pub fractals : 1 ≤ length b.fractals

sound-stroke : (b : Stroke) → T (is_stroke b) → StrokeSound b
unfolding is_stroke
sound-stroke b h =
    let x = leb 4 (length b.bars) in
    let y = alternates none b.fractals in
    let u = some_of (same_fractal b.start) b.fractals in
    let v = some_of (same_fractal b.end) b.fractals in
    record {
      bars = leb→le 4 (length b.bars) (and_l x y (and_l (x && y) (u && v) h));
      fractals = not-empty (same_fractal b.start) b.fractals (and_l u v (and_r (x && y) (u && v) h));
    }

pub last-stands : (s : Stand) (k : MergedStore) (f : FractalStore) → Kept s k f → 1 ≤ s.strokes → s.strokes ≤ length s.bars → s.strokes ≤ length s.fractals
    → T (every is_stroke (kept_strokes s k f)) → LastStands s s.rooms.strokes
unfolding kept_strokes bar_counts fractal_counts last_place last_bars last_fractals stroke_with
last-stands s k f h one lb lf all =
    let n = s.strokes - 1 in
    let ns = take n s.bars in
    let ms = take n s.fractals in
    let x = get_or s.bars n 0 in
    let y = get_or s.fractals n 0 in
    let p : take s.strokes s.bars ≡ ns ++ x ∷ [] = take-before s.bars s.strokes one lb in
    let q : take s.strokes s.fractals ≡ ms ++ y ∷ [] = take-before s.fractals s.strokes one lf in
    let e : length ns ≡ length ms = length-take-le n s.bars (omega arith) ∙ sym (length-take-le n s.fractals (omega arith)) in
    let K = merged_bars k in
    let F = stored_fractals f in
    let b = stroke_with (take y (drop (total ns) F)) (take x (drop (total ns) K)) in
    let i = (λ i. strokes_with (p i) (q i) K F) ∙ strokes-more ns ms x y K F e in
    let w = sound-stroke b (every-last is_stroke (strokes_with ns ms K F) b (subst (λ (z : List Stroke). T (every is_stroke z)) i all)) in
    let wb = w.bars in
    let wf = w.fractals in
    let mb = length-take-most x (drop (total ns) K) in
    let mf = length-take-most y (drop (total ns) F) in
    let fit = h.fits in
    let sum = ap total p ∙ total-more ns x in
    record {
      strokes = one;
      most = h.strokes;
      fits = omega arith;
      two = omega arith;
      ends = omega arith;
      fewer = fewer-last ns ms x y e (subst (λ (z : List ℕ). Fewer (ns ++ x ∷ []) z) q (subst (λ (z : List ℕ). Fewer z (take s.strokes s.fractals)) p h.fewer));
    }
