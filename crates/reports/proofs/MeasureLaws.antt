-- What the proofs of src/measures.rt cite: change by its test, volumes and folds over elements in turn. Assumes nothing.
use Prim.Native.Nat.{ℕ, zero, suc, ◌+◌, ◌-◌, ◌≤◌, ◌<◌, min}
use native.Mathlib.Omega.{arith}
use mathlib.Core.Path.{◌≡◌, refl, ap, sym, ◌∙◌, subst}
use mathlib.Core.Bool.{Bool, true, false, ◌&&◌}
use mathlib.Core.List.{List, [], ◌∷◌, ◌++◌, map, foldl}
use lib.ListN.{length, take, drop, get_or, length-take, length-drop, drop_of_length-le}
use lib.Seq.{drop-cons, drop-drop, get_or-take, take-nil}
use lib.IntN.{ℤ, pos}
use lib.Dec.{T, ltb, ltb→lt}
use lib.Ieee.{Float, nan, fits, binary64, sub, div, eq}
use lib.Ieee.Fits.{and_l, and_r, nan-fits, and_i}
use Rattle.arith.specs.Sums.{sum_of, plus, zero_f, acceleration_of, snr_of, slope_of}
use Rattle.arith.specs.Code.Accumulators.{mean_more, fit_more, snr_more, slope_more, mean_start, fit_start, slope_start, fit_end, snr_end, slope_end}
use Rattle.arith.specs.declared.sums.MeanSums.{MeanSums}
use Rattle.arith.specs.Rounding.{round_to}
use Rattle.arith.proofs.SumLaws.{fold_turn, fold_end, slope-is, acceleration-is, snr-is}
use Rattle.bars.specs.declared.Bar.{Bar}
use Rattle.bars.specs.Bars.{Merged}
use Rattle.bars.specs.Lists.{every, join, init, keep_if}
use Rattle.bars.specs.Merging.{at_times}
use Rattle.stores.specs.Stores.{RawStore, MergedStore, raw_part, zip_with, with_first, bar_of, raw_bars, merged_bars}
use Rattle.stores.specs.Code.StoreRows.{SizedRaw, SizedMerged, bar_at, rising, place_of}
use Rattle.stores.proofs.Columns.{zip-at, zip_longer, zip-take, zip-drop, zip_length, raw-length, raw-prices, merged-bars, merged-length}
use Rattle.stores.proofs.KeptBars.{map-take, kept-named}
use lib.Signed.{le_z}
use Rattle.arith.specs.Order.{abs_of, max_of, min_of}
use Rattle.machine.specs.declared.Mark.TheVariants.{D, G}
use Rattle.machine.specs.Fractals.{Fractal, fx_of}
use Rattle.machine.specs.Strokes.{Stroke}
use Rattle.reports.specs.Measures.{change, change_if, volume_of, closes_of, opens_and_closes, snr, power_snr, slope, acceleration, power_price, power_volume, elements_of, measures_with}
use Rattle.reports.specs.Code.ElementPrices.{end_of, ends_of, elements_in, prices_at, close_at, open_close_at, open_close, close_fits, taken, inner_start, inner_more, slope_with}
use Rattle.reports.specs.declared.inner_bars.RawBars.{RawBars}
use Rattle.reports.specs.declared.measures.StrokeEnd.{StrokeEnd}
use Rattle.reports.specs.declared.measures.StrokeEnds.{StrokeEnds}
use Rattle.reports.specs.declared.measures.InnerSums.{InnerSums}
use Rattle.machine.specs.Break.{high_of, low_of}
use Rattle.machine.specs.Soundness.{same_time, inner}
use Rattle.sound.specs.Code.SoundStand.{is_time, at_place, named_rows}
use Rattle.bars.proofs.Times.{le_antisym}
use Rattle.strokes.proofs.StoredRaw.{init-take}
use Rattle.strokes.proofs.BareStates.{map-drop}
use Rattle.sound.proofs.SoundNames.{place-named}

-- ---- the ends

pub fx_bottom : (f : Fractal) (e : StrokeEnd) → end_of f ≡ e → e.mark ≡ D → e.low ≡ fx_of f
unfolding end_of fx_of
fx_bottom f e p q = let m : f.mark ≡ D = ap (λ (x : StrokeEnd). x.mark) p ∙ q in sym (ap (λ (x : StrokeEnd). x.low) p) ∙ rw m

pub fx_top : (f : Fractal) (e : StrokeEnd) → end_of f ≡ e → e.mark ≡ G → e.high ≡ fx_of f
unfolding end_of fx_of
fx_top f e p q = let m : f.mark ≡ G = ap (λ (x : StrokeEnd). x.mark) p ∙ q in sym (ap (λ (x : StrokeEnd). x.high) p) ∙ rw m

pub high_is : (b : Stroke) (s : StrokeEnds) (r : Float) → r ≡ max_of s.start.high s.end.high → ends_of b ≡ s → r ≡ high_of b
unfolding end_of high_of
high_is b s r h p = h ∙ (λ i. max_of (sym p i).start.high (sym p i).end.high)

pub low-is : (b : Stroke) (s : StrokeEnds) (r : Float) → r ≡ min_of s.start.low s.end.low → ends_of b ≡ s → r ≡ low_of b
unfolding end_of low_of
low-is b s r h p = h ∙ (λ i. min_of (sym p i).start.low (sym p i).end.low)

pub start_of : (b : Stroke) (s : StrokeEnds) → ends_of b ≡ s → end_of b.start ≡ s.start
start_of b s p = ap (λ (x : StrokeEnds). x.start) p

pub stop_of : (b : Stroke) (s : StrokeEnds) → ends_of b ≡ s → end_of b.end ≡ s.end
stop_of b s p = ap (λ (x : StrokeEnds). x.end) p

-- ---- power price

pub price_is : (d : ℕ) (b : Stroke) (s e r : Float) → s ≡ fx_of b.start → e ≡ fx_of b.end → r ≡ round_to d (abs_of (sub binary64 e s)) → r ≡ power_price d b
unfolding power_price
price_is d b s e r p q h = h ∙ (λ i. round_to d (abs_of (sub binary64 (q i) (p i))))

-- ---- change

pub change-zero : (d : ℕ) (b : Stroke) (s : Float) → s ≡ fx_of b.start → eq s zero_f ≡ true → zero_f ≡ change d b
unfolding change change_if
change-zero d b s p k = sym (ap (λ (x : Bool). change_if x d (fx_of b.start) (fx_of b.end)) (ap (λ (y : Float). eq y zero_f) (sym p) ∙ k))

pub change_else : (d : ℕ) (b : Stroke) (s e r : Float) → s ≡ fx_of b.start → e ≡ fx_of b.end → eq s zero_f ≡ false → r ≡ round_to d (div binary64 (sub binary64 e s) s) → r ≡ change d b
unfolding change change_if
change_else d b s e r p q k h =
    h ∙ ap (λ (x : Bool). change_if x d s e) (sym k)
    ∙ ap (λ (x : Float). change_if (eq x zero_f) d x e) p
    ∙ ap (λ (y : Float). change_if (eq (fx_of b.start) zero_f) d (fx_of b.start) y) q

-- ---- volumes

abbrev vols : List (List Float) → List Float
vols ps = map (λ p. get_or p 4 nan) ps

pub volume-none : (l : List Merged) (ps : List (List Float)) → length ps ≡ 0 → map (λ k. k.bar.vol) l ≡ vols ps → zero_f ≡ volume_of l
unfolding volume_of
volume-none [] ps h e = refl
volume-none (k ∷ l) [] h e = let z : suc (length (map (λ k. k.bar.vol) l)) ≡ 0 = ap length e in absurd (omega arith)
volume-none (k ∷ l) (p ∷ ps) h e = absurd (omega arith)

volume-some : (l : List Merged) (x : Float) (xs : List Float) → map (λ k. k.bar.vol) l ≡ x ∷ xs → foldl plus x xs ≡ volume_of l
unfolding volume_of sum_of
volume-some [] x xs e = let z : 0 ≡ suc (length xs) = ap length e in absurd (omega arith)
volume-some (k ∷ l) x xs e = sym (ap sum_of e)

-- how a sum goes on with a row
abbrev pub with_vol : Float → List Float → Float
with_vol s p = plus s (get_or p 4 nan)

fold_vols : (s : Float) (ps : List (List Float)) → foldl plus s (vols ps) ≡ foldl with_vol s ps
fold_vols s [] = refl
fold_vols s (p ∷ ps) = fold_vols (with_vol s p) ps

-- of the first row and the rest
pub volume-is : (l : List Merged) (p : List Float) (ps qs : List (List Float)) (s : Float) → qs ≡ p ∷ ps → s ≡ foldl with_vol (get_or p 4 nan) ps → map (λ k. k.bar.vol) l ≡ vols qs → s ≡ volume_of l
volume-is l p ps qs s q h e = h ∙ sym (fold_vols (get_or p 4 nan) ps) ∙ volume-some l (get_or p 4 nan) (vols ps) (e ∙ ap vols q)

-- ---- elements, each at its place

pub named-place : (ts : List ℤ) (t : ℤ) → T (rising ts) → T (is_time ts t) → place_of t ts < length ts
unfolding at_place
named-place ts t r h =
    let k : T (ltb (place_of t ts) (length ts) && same_time (get_or ts (place_of t ts) (pos 0)) t) = subst T (sym (place-named ts t r)) h in
    ltb→lt (place_of t ts) (length ts) (and_l (ltb (place_of t ts) (length ts)) (same_time (get_or ts (place_of t ts) (pos 0)) t) k)

pub every-at : {A : Type 0} (p : A → Bool) (l : List A) (i : ℕ) (z : A) → i < length l → T (every p l) → T (p (get_or l i z))
unfolding every
every-at p [] i z h t = absurd (omega arith)
every-at p (a ∷ l) zero z h t = and_l (p a) (every p l) t
every-at p (a ∷ l) (suc i) z h t = every-at p l i z (omega arith) (and_r (p a) (every p l) t)

-- the element j of those in use
module _ (row : List ℤ) (count j : ℕ) (h : j < min count (length row)) where
  read : get_or (take count row) j (pos 0) ≡ get_or row j (pos 0)
  read = get_or-take count row j (pos 0) (omega arith)

  inside : j < length (take count row)
  inside = omega (arith, length-take count row)

  -- a turn of a fold over them
  pub element_turn : {S : Type 0} (f : S → ℤ → S) (s s' e : S) → s' ≡ f s (get_or row j (pos 0)) → foldl f s (drop j (take count row)) ≡ e
      → foldl f s' (drop (j + 1) (take count row)) ≡ e
  element_turn f s s' e q k = fold_turn f (take count row) j (pos 0) s s' e inside (q ∙ ap (f s) (sym read)) k

pub element_end : {S : Type 0} (f : S → ℤ → S) (row : List ℤ) (count j : ℕ) (s e : S) → min count (length row) ≤ j
    → foldl f s (drop j (take count row)) ≡ e → s ≡ e
element_end f row count j s e h k = fold_end f (take count row) j s e (omega (arith, length-take count row)) k

-- ---- the elements of all rows

fold_append : {A S : Type 0} (f : S → A → S) (s : S) (l m : List A) → foldl f s (l ++ m) ≡ foldl f (foldl f s l) m
fold_append f s [] m = refl
fold_append f s (a ∷ l) m = fold_append f (f s a) l m

module _ (cs : List ℕ) (es : List (List ℤ)) (i : ℕ) (q : length cs ≡ length es) (h : i < length cs) where
  row_here : i < length (zip_with take cs es)
  row_here = zip_longer take cs es i h (omega arith)

  row_is : get_or (zip_with take cs es) i [] ≡ take (get_or cs i 0) (get_or es i [])
  row_is = zip-at take i cs es 0 [] [] h (omega arith)

  pub row_named : (ts : List ℤ) → T (named_rows ts cs es) → T (every (is_time ts) (take (get_or cs i 0) (get_or es i [])))
  unfolding named_rows
  row_named ts t = subst (λ (r : List ℤ). T (every (is_time ts) r)) row_is (every-at (every (is_time ts)) (zip_with take cs es) i [] row_here t)

  pub row-turn : {S : Type 0} (f : S → ℤ → S) (s s' e : S) → s' ≡ foldl f s (take (get_or cs i 0) (get_or es i []))
      → foldl f s (join (drop i (zip_with take cs es))) ≡ e → foldl f s' (join (drop (i + 1) (zip_with take cs es))) ≡ e
  unfolding join
  row-turn f s s' e g k =
      let l = zip_with take cs es in
      let c : i + 1 ≡ suc i = omega arith in
      let r = get_or l i [] in
      ap (λ (n : ℕ). foldl f s' (join (drop n l))) c
      ∙ ap (λ (x : _). foldl f x (join (drop (suc i) l))) (g ∙ ap (foldl f s) (sym row_is))
      ∙ sym (fold_append f s r (join (drop (suc i) l)))
      ∙ sym (ap (λ (x : List (List ℤ)). foldl f s (join x)) (drop-cons l i [] row_here))
      ∙ k

pub row-end : {S : Type 0} (f : S → ℤ → S) (cs : List ℕ) (es : List (List ℤ)) (i : ℕ) (s e : S) → length cs ≡ length es → length cs ≤ i
    → foldl f s (join (drop i (zip_with take cs es))) ≡ e → s ≡ e
unfolding join
row-end f cs es i s e q h k =
    let d : drop i (zip_with take cs es) ≡ [] = drop_of_length-le (zip_with take cs es) {i = i} (omega (arith, zip_length take cs es q)) in
    sym (ap (λ (x : List (List ℤ)). foldl f s (join x)) d) ∙ k

pub every_append : {A : Type 0} (f : A → Bool) (l m : List A) → T (every f l) → T (every f m) → T (every f (l ++ m))
unfolding every
every_append f [] m s t = t
every_append f (a ∷ l) m s t = and_i (f a) (every f (l ++ m)) (and_l (f a) (every f l) s) (every_append f l m (and_r (f a) (every f l) s) t)

-- ---- what the sums give of the raw bars rs, whose prices are those at the places of the elements l

pub fold_map : {A B S : Type 0} (g : S → B → S) (f : A → B) (s : S) (l : List A) → foldl (λ x a. g x (f a)) s l ≡ foldl g s (map f l)
fold_map g f s [] = refl
fold_map g f s (a ∷ l) = fold_map g f (g s (f a)) l

-- a part of what a fold carries, which goes on by itself
fold_part : {A S M : Type 0} (g : S → M) (f : S → A → S) (h : M → A → M) → ((s : S) (a : A) → g (f s a) ≡ h (g s) a) → (s : S) (l : List A) → g (foldl f s l) ≡ foldl h (g s) l
fold_part g f h q s [] = refl
fold_part g f h q s (a ∷ l) = fold_part g f h q (f s a) l ∙ ap (λ m. foldl h m l) (q s a)

map_both : {A B C : Type 0} (g : B → C) (f : A → B) (l : List A) → map (λ a. g (f a)) l ≡ map g (map f l)
map_both g f [] = refl
map_both g f (a ∷ l) = ap (λ r. g (f a) ∷ r) (map_both g f l)

-- of an open and a close
abbrev close_of : Float × Float → Float
close_of p = p.1

-- the closes among opens and closes that elements name
pub closes_named : (rt : List ℤ) (rp : List (List Float)) (l : List ℤ) (fs : List Float) → fs ≡ map (close_at rt rp) l → fs ≡ map close_of (map (open_close_at rt rp) l)
closes_named rt rp l fs q = q ∙ map_both close_of (open_close_at rt rp) l

module _ (ps : List (Float × Float)) (rs : List Bar) where
  pub snr_read : (x : Float) → x ≡ snr_end (foldl inner_more inner_start ps).snr → opens_and_closes rs ≡ ps → x ≡ snr rs
  unfolding snr
  snr_read x f q = f ∙ ap snr_end (fold_part (λ (s : InnerSums). s.snr) inner_more snr_more (λ s p. refl) inner_start ps) ∙ snr-is ps ∙ ap snr_of (sym q)

  pub acceleration_read : (x : Float) → x ≡ fit_end (foldl inner_more inner_start ps).fit → closes_of rs ≡ map close_of ps → x ≡ acceleration rs
  unfolding acceleration
  acceleration_read x f q =
      f
      ∙ ap fit_end (fold_part (λ (s : InnerSums). s.fit) inner_more (λ s p. fit_more s (close_of p)) (λ s p. refl) inner_start ps ∙ fold_map fit_more close_of fit_start ps)
      ∙ acceleration-is (map close_of ps)
      ∙ ap acceleration_of (sym q)

first_fits : (ps : List (Float × Float)) → T (every close_fits ps) → T (fits binary64 (get_or (map close_of ps) 0 nan))
unfolding every
first_fits [] h = nan-fits binary64
first_fits (p ∷ ps) h = and_l (fits binary64 p.1) (every close_fits ps) h

module _ (ps : List (Float × Float)) (rs : List Bar) where
  pub slope_read : (x : Float) → T (every close_fits ps) → x ≡ slope_end (foldl slope_with (slope_start (foldl inner_more inner_start ps).mean) ps) → closes_of rs ≡ map close_of ps → x ≡ slope rs
  unfolding slope
  slope_read x k f q =
      let m = fold_part (λ (s : InnerSums). s.mean) inner_more (λ s p. mean_more s (close_of p)) (λ s p. refl) inner_start ps ∙ fold_map mean_more close_of mean_start ps in
      f
      ∙ ap slope_end (ap (λ (z : MeanSums). foldl slope_with (slope_start z) ps) m ∙ fold_map slope_more close_of (slope_start (foldl mean_more mean_start (map close_of ps))) ps)
      ∙ slope-is (map close_of ps) (first_fits ps k)
      ∙ ap slope_of (sym q)

-- what a pass took, and that each close fits, where a fold has both
module _ {S : Type 0} (f : S → Float × Float → S) (r : RawBars) where
  pub taken-sums : (s e : S) (l : List ℤ) → (e, true) ≡ foldl (taken f r) (s, true) l → e ≡ foldl f s (map (open_close r) l)
  taken-sums s e l k = ap (λ (x : S × Bool). x.0) k ∙ fold_part (λ (x : S × Bool). x.0) (taken f r) (λ x t. f x (open_close r t)) (λ x t. refl) (s, true) l ∙ fold_map f (open_close r) s l

  flag : (s : S) (b : Bool) (l : List ℤ) → (foldl (taken f r) (s, b) l).1 ≡ (b && every close_fits (map (open_close r) l))
  unfolding every
  flag s true [] = refl
  flag s false [] = refl
  flag s true (t ∷ l) = flag (f s (open_close r t)) (close_fits (open_close r t)) l
  flag s false (t ∷ l) = flag (f s (open_close r t)) false l

  pub taken_fits : (s e : S) (l : List ℤ) → (e, true) ≡ foldl (taken f r) (s, true) l → T (every close_fits (map (open_close r) l))
  taken_fits s e l k = subst T (ap (λ (x : S × Bool). x.1) k ∙ flag s true l) tt

-- a turn of such a fold
pub taken_turn : {S : Type 0} (f : S → Float × Float → S) (r : RawBars) (s e : S) (t : ℤ) (p : Float × Float) → e ≡ f s p → p ≡ open_close r t → T (close_fits p) → (e, true) ≡ taken f r (s, true) t
taken_turn f r s e t p k q h = (λ i. ((k ∙ ap (f s) q) i, is-true (close_fits p) h i)) ∙ (λ i. (f s (open_close r t), close_fits (q i)))
  where
    is-true : (b : Bool) → T b → true ≡ b
    is-true true h = refl
    is-true false h = absurd h

-- ---- all measures put together

pub put_together : (power ratio : ℕ) (rs : List Bar) (b : Stroke) {h w p v s q c a g : Float} {n : ℕ} → h ≡ high_of b → w ≡ low_of b → p ≡ power_price power b → v ≡ power_volume b → s ≡ snr rs → q ≡ power_snr ratio rs
    → c ≡ change ratio b → a ≡ slope rs → g ≡ acceleration rs → n ≡ length b.bars
    → record { high = h; low = w; power_price = p; power_volume = v; snr = s; power_snr = q; change = c; slope = a; acceleration = g; length = n } ≡ measures_with power ratio rs b
unfolding measures_with
put_together power ratio rs b e1 e2 e3 e4 e5 e6 e7 e8 e9 e10 = λ i. record { high = e1 i; low = e2 i; power_price = e3 i; power_volume = e4 i; snr = e5 i; power_snr = e6 i; change = e7 i; slope = e8 i; acceleration = e9 i; length = e10 i }

-- ---- a stroke's inner merged bars in the stroke store

module _ {A : Type 0} where
  drop-one : (n : ℕ) (l : List A) → drop 1 (take (suc n) l) ≡ take n (drop 1 l)
  drop-one n [] = sym (take-nil n)
  drop-one n (a ∷ l) = refl

  inner_list : (l : List A) (at bars : ℕ) → at + bars ≤ length l → 2 ≤ bars → init (drop 1 (take bars (drop at l))) ≡ take (bars - 2) (drop (at + 1) l)
  inner_list l at bars h g =
      let c : bars ≡ suc (bars - 1) = omega arith in
      let d : bars - 1 - 1 ≡ bars - 2 = omega arith in
      ap (λ (n : ℕ). init (drop 1 (take n (drop at l)))) c
      ∙ ap init (drop-one (bars - 1) (drop at l))
      ∙ ap (λ (m : List A). init (take (bars - 1) m)) (drop-drop 1 at l)
      ∙ init-take (bars - 1) (drop (at + 1) l) (omega arith) (omega (arith, length-drop (at + 1) l))
      ∙ ap (λ (n : ℕ). take n (drop (at + 1) l)) d

map_part : {A B : Type 0} (f : A → B) (n m : ℕ) (l : List A) → map f (take n (drop m l)) ≡ take n (drop m (map f l))
map_part f n m l = map-take f n (drop m l) ∙ ap (take n) (map-drop f m l)

zip-elements : (bs : List Bar) (cs : List ℕ) (es : List (List ℤ)) → length bs ≡ length cs → map (λ k. k.elements) (zip_with (λ f e. f e) (zip_with with_first bs cs) es) ≡ zip_with take cs es
unfolding zip_with with_first
zip-elements [] [] es q = refl
zip-elements [] (c ∷ cs) es q = let w : ⊥ = omega arith in absurd w
zip-elements (b ∷ bs) [] es q = let w : ⊥ = omega arith in absurd w
zip-elements (b ∷ bs) (c ∷ cs) [] q = refl
zip-elements (b ∷ bs) (c ∷ cs) (e ∷ es) q = ap (λ (r : List (List ℤ)). take c e ∷ r) (zip-elements bs cs es (omega arith))

module _ (s : MergedStore) (k at bars : ℕ) (h : SizedMerged s k) (room : at + bars ≤ k) (two : 2 ≤ bars) (b : Stroke) (e : b.bars ≡ take bars (drop at (merged_bars s))) where
  inner_part : inner b ≡ take (bars - 2) (drop (at + 1) (merged_bars s))
  unfolding inner
  inner_part = ap (λ (l : List Merged). init (drop 1 l)) e ∙ inner_list (merged_bars s) at bars (omega (arith, merged-length s k h)) two

  -- what measures_of asks of their rows of prices
  pub inner-vols : map (λ x. x.bar.vol) (inner b) ≡ map (λ p. get_or p 4 nan) (take (bars - 2) (drop (at + 1) s.prices))
  unfolding bar_of
  inner-vols =
      let all : map (λ x. x.bar.vol) (merged_bars s) ≡ map (λ p. get_or p 4 nan) s.prices =
      map_both (λ (y : Bar). y.vol) (λ (x : Merged). x.bar) (merged_bars s) ∙ ap (map (λ (y : Bar). y.vol)) (merged-bars s k h) ∙ raw-prices (λ (y : Bar). y.vol) (λ p. get_or p 4 nan) (λ t i p. refl) (raw_part s) k h.raw in
      ap (map (λ (x : Merged). x.bar.vol)) inner_part
      ∙ map_part (λ (x : Merged). x.bar.vol) (bars - 2) (at + 1) (merged_bars s)
      ∙ ap (λ (l : List Float). take (bars - 2) (drop (at + 1) l)) all
      ∙ sym (map_part (λ p. get_or p 4 nan) (bars - 2) (at + 1) s.prices)

  -- and of their elements
  pub inner-rows : map (λ x. x.elements) (inner b) ≡ zip_with take (take (bars - 2) (drop (at + 1) s.counts)) (take (bars - 2) (drop (at + 1) s.elements))
  unfolding merged_bars
  inner-rows =
      let all : map (λ x. x.elements) (merged_bars s) ≡ zip_with take s.counts s.elements =
      zip-elements (raw_bars (raw_part s)) s.counts s.elements (raw-length (raw_part s) k h.raw ∙ sym h.counts) in
      ap (map (λ (x : Merged). x.elements)) inner_part
      ∙ map_part (λ (x : Merged). x.elements) (bars - 2) (at + 1) (merged_bars s)
      ∙ ap (λ (l : List (List ℤ)). take (bars - 2) (drop (at + 1) l)) all
      ∙ ap (take (bars - 2)) (sym (zip-drop take (at + 1) s.counts s.elements))
      ∙ sym (zip-take take (bars - 2) (drop (at + 1) s.counts) (drop (at + 1) s.elements))

  pub inner-elements : elements_of (inner b) ≡ elements_in (take (bars - 2) (drop (at + 1) s.counts)) (take (bars - 2) (drop (at + 1) s.elements))
  unfolding elements_of
  inner-elements = ap join inner-rows

-- ---- the raw bars that elements name, in the raw store

named-time : (ts : List ℤ) (t : ℤ) → T (rising ts) → T (is_time ts t) → get_or ts (place_of t ts) (pos 0) ≡ t
unfolding at_place same_time
named-time ts t r h =
    let u = get_or ts (place_of t ts) (pos 0) in
    let k : T (ltb (place_of t ts) (length ts) && (le_z u t && le_z t u)) = subst T (sym (place-named ts t r)) h in
    let m = and_r (ltb (place_of t ts) (length ts)) (le_z u t && le_z t u) k in
    le_antisym u t (and_l (le_z u t) (le_z t u) m) (and_r (le_z u t) (le_z t u) m)

module _ (s : RawStore) (n k : ℕ) (h : SizedRaw s k) (room : n ≤ k) (rises : T (rising (take n s.times))) where
  place_inside : (t : ℤ) → T (is_time (take n s.times) t) → place_of t (take n s.times) < n
  place_inside t g = omega (arith, named-place (take n s.times) t rises g, length-take n s.times)

  one-named : (t : ℤ) → T (is_time (take n s.times) t) → keep_if (λ b. le_z b.time t && le_z t b.time) (take n (raw_bars s)) ≡ bar_at s (place_of t (take n s.times)) ∷ []
  unfolding bar_at bar_of
  one-named t g =
      let p = place_of t (take n s.times) in
      let i = place_inside t g in
      let e : get_or s.times p (pos 0) ≡ t = sym (get_or-take n s.times p (pos 0) i) ∙ named-time (take n s.times) t rises g in
      subst (λ (u : ℤ). keep_if (λ b. le_z b.time u && le_z u b.time) (take n (raw_bars s)) ≡ bar_at s p ∷ []) e (kept-named s n k h room rises p i)

  pub at-times : (l : List ℤ) → T (every (is_time (take n s.times)) l) → at_times (take n (raw_bars s)) l ≡ map (λ t. bar_at s (place_of t (take n s.times))) l
  unfolding at_times every
  at-times [] g = refl
  at-times (t ∷ l) g =
      let x = and_l (is_time (take n s.times) t) (every (is_time (take n s.times)) l) g in
      let y = and_r (is_time (take n s.times) t) (every (is_time (take n s.times)) l) g in
      rw (one-named t x, at-times l y)

  -- what is read of a row of prices is read of each of those bars, where its time says
  pub prices_read : {X : Type 0} (f : Bar → X) (r : List Float → X) → ((t i : ℤ) (p : List Float) → f (bar_of t i p) ≡ r p) → (l : List ℤ) → T (every (is_time (take n s.times)) l)
      → map f (at_times (take n (raw_bars s)) l) ≡ map (λ t. r (prices_at (take n s.times) (take n s.prices) t)) l
  unfolding every bar_at
  prices_read f r q l g = ap (map f) (at-times l g) ∙ each l g
    where
      each : (l : List ℤ) → T (every (is_time (take n s.times)) l)
          → map f (map (λ t. bar_at s (place_of t (take n s.times))) l) ≡ map (λ t. r (prices_at (take n s.times) (take n s.prices) t)) l
      each [] g = refl
      each (t ∷ l) g =
          let p = place_of t (take n s.times) in
          let x = and_l (is_time (take n s.times) t) (every (is_time (take n s.times)) l) g in
          let y = and_r (is_time (take n s.times) t) (every (is_time (take n s.times)) l) g in
          let c : f (bar_at s p) ≡ r (get_or (take n s.prices) p []) = q (get_or s.times p (pos 0)) (get_or s.ids p (pos 0)) (get_or s.prices p []) ∙ ap r (sym (get_or-take n s.prices p [] (place_inside t x))) in
          λ i. c i ∷ each l y i
