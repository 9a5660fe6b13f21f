-- Reading the bars that a scan goes over, and that no sum of it wraps.
-- Assumes nothing.
use Prim.Native.Nat.{ℕ, zero, suc, ◌+◌, ◌-◌, ◌≤◌, ◌<◌}
use native.Mathlib.Omega.{arith}
use mathlib.Core.Path.{◌≡◌, refl, ap, sym, ◌∙◌}
use mathlib.Core.Bool.{Bool, true, false, not, ◌&&◌}
use mathlib.Core.List.{List, [], ◌∷◌, ◌++◌, map, map-append}
use lib.ListN.{length, take, drop, get_or, length-append, length-drop, get_or-append}
use lib.Seq.{length-take-le, get_or-take, get_or-append-add, get_or-drop}
use lib.IntN.{ℤ, pos}
use lib.Dec.{leb}
use lib.Ieee.{Float}
use Rattle.std.specs.Prelude.{Option, Some, None, IfSome}
use Rattle.stores.specs.Stores.{zip_with, bar_of, with_first, merged_store, raw_bars, merged_bars}
use Rattle.stores.proofs.KeptBars.{map-take}
use Rattle.check_bi.specs.declared.check_fx.Candle.{Candle}
use Rattle.check_bi.specs.declared.check_fx.Fx.{Fx}
use Rattle.check_bi.specs.declared.scan.Best.{Best}
use Rattle.check_bi.specs.declared.scan.Scan.{Scan}
use Rattle.machine.specs.Fractals.{same_mark, beyond}
use Rattle.machine.specs.Strokes.{best_if}
use Rattle.check_bi.specs.Code.Scan.{candle_of, value_of, cut_with, closes_of, upto_if, grown, best_if_new, best_with, put_of, opened_of, take_on, BestFits, Small, SmallIf}
use Rattle.check_bi.specs.declared.view.View.{View}
use Rattle.check_bi.specs.Code.View.{view, candle_from, candles, times_in, rows_in, places}

-- ---- the view

module _ {A : Type 0} (s t : List A) (n m : ℕ) (hs : n ≤ length s) (ht : m ≤ length t) where
  pub length-view : length (view n s m t) ≡ n + m
  unfolding view
  length-view = length-append (take n s) (take m t) ∙ rw (length-take-le n s hs, length-take-le m t ht)

  pub view-left : (i : ℕ) (z : A) → i < n → get_or (view n s m t) i z ≡ get_or s i z
  unfolding view
  view-left i z h =
      let e : length (take n s) ≡ n = length-take-le n s hs in
      get_or-append (take n s) (take m t) z i (omega arith) ∙ get_or-take n s i z h

  pub view-right : (i : ℕ) (z : A) → n ≤ i → i < n + m → get_or (view n s m t) i z ≡ get_or t (i - n) z
  unfolding view
  view-right i z h k =
      let e : length (take n s) + (i - n) ≡ i = omega (arith, length-take-le n s hs) in
      let q : i - n < m = omega arith in
      ap (λ (j : ℕ). get_or (take n s ++ take m t) j z) (sym e) ∙ get_or-append-add (take n s) (take m t) (i - n) z ∙ get_or-take m t (i - n) z q

-- ---- two columns as one

pub length-zip : {A B C : Type 0} (f : A → B → C) (l : List A) (m : List B) → length l ≡ length m → length (zip_with f l m) ≡ length l
unfolding zip_with
length-zip f [] m h = refl
length-zip f (a ∷ l) [] h = absurd (omega arith)
length-zip f (a ∷ l) (b ∷ m) h = ap suc (length-zip f l m (omega arith))

pub get_d_zip : {A B C : Type 0} (f : A → B → C) (l : List A) (m : List B) (i : ℕ) (a : A) (b : B) (c : C) → length l ≡ length m → i < length l
    → get_or (zip_with f l m) i c ≡ f (get_or l i a) (get_or m i b)
unfolding zip_with
get_d_zip f [] m i a b c h k = absurd (omega arith)
get_d_zip f (x ∷ l) [] i a b c h k = absurd (omega arith)
get_d_zip f (x ∷ l) (y ∷ m) zero a b c h k = refl
get_d_zip f (x ∷ l) (y ∷ m) (suc i) a b c h k = get_d_zip f l m i a b c (omega arith) (omega arith)

abbrev pub no_candle : Candle
no_candle = candle_from (pos 0) []

-- the candle at a place of what is scanned
pub candle_in : (ts : List ℤ) (ps : List (List Float)) (lo i : ℕ) → length ts ≡ length ps → lo + i < length ts
    → get_or (drop lo (candles ts ps)) i no_candle ≡ candle_from (get_or ts (lo + i) (pos 0)) (get_or ps (lo + i) [])
unfolding candles
candle_in ts ps lo i h k = get_or-drop lo (zip_with candle_from ts ps) i no_candle ∙ get_d_zip candle_from ts ps (lo + i) (pos 0) [] no_candle h k

pub length-candles : (ts : List ℤ) (ps : List (List Float)) (lo : ℕ) → length ts ≡ length ps → length (drop lo (candles ts ps)) ≡ length ts - lo
unfolding candles
length-candles ts ps lo h = length-drop lo (zip_with candle_from ts ps) ∙ ap (λ (n : ℕ). n - lo) (length-zip candle_from ts ps h)

-- as many times as rows of prices
pub view-times : (v : View) → length (times_in v) ≡ places v
view-times v = length-append v.times.now v.tail_times.now

pub view-rows : (v : View) → length (rows_in v) ≡ places v
view-rows v = length-append v.prices.now v.tail_prices.now ∙ (λ i. v.even i + v.tail_even i)

-- ---- what was seen stays small

pub best-place : (t : Bool) (f b : Fx) (i : ℕ) → f.place ≤ i → b.place ≤ i → (best_if t f b).place ≤ i
unfolding best_if
best-place true f b i h k = h
best-place false f b i h k = k

cut-place : (a f : Fx) (i : ℕ) → f.place ≤ i → a.place ≤ i → (cut_with a f).place ≤ i
unfolding cut_with
cut-place a f i h k = best-place (same_mark a.mark f.mark && not (beyond a.mark (value_of a) (value_of f))) f a i h k

upto_few : (t : Bool) (u n : ℕ) → u ≤ n → upto_if t u ≤ n + 1
unfolding upto_if
upto_few true u n h = omega arith
upto_few false u n h = omega arith

best_small : (t : Bool) (o : Option Best) (n start : ℕ) (f : Fx) → start ≤ f.place → IfSome o (BestFits n start f.place)
    → IfSome (best_if_new t o (n + 1) f) (BestFits (n + 1) start (f.place + 1))
unfolding best_if_new grown
best_small true o n start f h k = record { within = omega arith; early = h; near = omega arith }
best_small false None n start f h k = tt
best_small false (Some b) n start f h k =
    let q = k.near in
    record { within = upto_few (leb f.place (b.end.place + 1)) b.upto n k.within; early = k.early; near = omega arith }

pub small_take : (s : Option Scan) (f : Fx) → SmallIf s f.place → f.place + 1 < 4294967296 → Small (take_on s f) (f.place + 1)
unfolding take_on opened_of put_of best_with
small_take None f h b = record { few = omega arith; begun = omega arith; cut_in = omega arith; fits = b; best = tt }
small_take (Some s) f h b =
    let q = h.few in
    let r = h.begun in
    record {
      few = omega arith;
      begun = omega arith;
      cut_in = cut-place s.cut f (f.place + 1) (omega arith) (omega (arith, h.cut_in));
      fits = b;
      best = best_small (closes_of s f) s.best s.count s.start.place f r h.best;
    }

best_on : (o : Option Best) (n start i k : ℕ) → i ≤ k → IfSome o (BestFits n start i) → IfSome o (BestFits n start k)
best_on None n start i k l h = tt
best_on (Some b) n start i k l h = record { within = h.within; early = h.early; near = omega (arith, h.near) }

pub small_on : (s : Option Scan) (i k : ℕ) → i ≤ k → k < 4294967296 → SmallIf s i → SmallIf s k
small_on None i k l b h = tt
small_on (Some s) i k l b h =
    record {
      few = omega (arith, h.few);
      begun = omega (arith, h.begun);
      cut_in = omega (arith, h.cut_in);
      fits = b;
      best = best_on s.best s.count s.start.place i k l h.best;
    }

-- ---- the stores' bars

-- what is read of the bars of a store whose columns are equally long
pub candles_are : (ts is : List ℤ) (ps : List (List Float)) (cs : List ℕ) (es : List (List ℤ)) → length is ≡ length ts → length ps ≡ length ts → length cs ≡ length ts
    → length es ≡ length ts → map candle_of (merged_bars (merged_store ts is ps cs es)) ≡ candles ts ps
unfolding merged_bars raw_bars zip_with candles candle_of with_first bar_of candle_from
candles_are [] is ps cs es a b c d = refl
candles_are (t ∷ ts) [] ps cs es a b c d = absurd (omega arith)
candles_are (t ∷ ts) (i ∷ is) [] cs es a b c d = absurd (omega arith)
candles_are (t ∷ ts) (i ∷ is) (p ∷ ps) [] es a b c d = absurd (omega arith)
candles_are (t ∷ ts) (i ∷ is) (p ∷ ps) (k ∷ cs) [] a b c d = absurd (omega arith)
candles_are (t ∷ ts) (i ∷ is) (p ∷ ps) (k ∷ cs) (e ∷ es) a b c d =
    ap (candle_from t p ∷◌) (candles_are ts is ps cs es (omega arith) (omega arith) (omega arith) (omega arith))

take-zip : {A B C : Type 0} (f : A → B → C) (n : ℕ) (l : List A) (m : List B) → zip_with f (take n l) (take n m) ≡ take n (zip_with f l m)
unfolding zip_with
take-zip f zero l m = refl
take-zip f (suc n) [] m = refl
take-zip f (suc n) (a ∷ l) [] = refl
take-zip f (suc n) (a ∷ l) (b ∷ m) = ap (f a b ∷◌) (take-zip f n l m)

append-zip : {A B C : Type 0} (f : A → B → C) (l l' : List A) (m m' : List B) → length l ≡ length m → zip_with f (l ++ l') (m ++ m') ≡ zip_with f l m ++ zip_with f l' m'
unfolding zip_with
append-zip f [] l' [] m' h = refl
append-zip f [] l' (b ∷ m) m' h = absurd (omega arith)
append-zip f (a ∷ l) l' [] m' h = absurd (omega arith)
append-zip f (a ∷ l) l' (b ∷ m) m' h = ap (f a b ∷◌) (append-zip f l l' m m' (omega arith))

-- the candles of the view are the view of the candles
pub candles-view : (ts us : List ℤ) (ps qs : List (List Float)) (n m : ℕ) → n ≤ length ts → n ≤ length ps
    → candles (view n ts m us) (view n ps m qs) ≡ view n (candles ts ps) m (candles us qs)
unfolding candles view
candles-view ts us ps qs n m h k =
    append-zip candle_from (take n ts) (take m us) (take n ps) (take m qs) (length-take-le n ts h ∙ sym (length-take-le n ps k))
    ∙ (λ i. take-zip candle_from n ts ps i ++ take-zip candle_from m us qs i)

pub view-map : {A B : Type 0} (f : A → B) (n : ℕ) (s : List A) (m : ℕ) (t : List A) → map f (view n s m t) ≡ view n (map f s) m (map f t)
unfolding view
view-map f n s m t = map-append f (take n s) (take m t) ∙ (λ i. map-take f n s i ++ map-take f m t i)
