-- The fractals that a stroke store holds: a fractal's rows read back as the fractal, and fractals that are written one after the other are what stands there.
-- Assumes nothing.
use Prim.Native.Nat.{ℕ, suc, ◌+◌, ◌≤◌, ◌<◌}
use native.Mathlib.Omega.{arith}
use mathlib.Core.Path.{◌≡◌, refl, ap, sym, ◌∙◌, subst}
use mathlib.Core.Bool.{Bool, true, false, cond, not}
use mathlib.Core.List.{List, [], ◌∷◌, ◌++◌, map, append-nil}
use mathlib.Core.Option
use Rattle.std.specs.Prelude.{None, Some}
use Rattle.std.specs.Prelude as Std
use Rattle.std.specs.Option.{option_eq}
use mathlib.Core.Option.{Option, none, some, some-injective, none-ne-some}
use lib.ListN.{length, take, drop, set, length-append, length-set, length-map, length-take, length-drop, get_or-map, take-append-drop}
use lib.Seq.{take-suc-set, drop-set-lt, drop-cons, append_snoc, get_or-take, drop-drop, length-take-le}
use lib.IntN.{ℤ}
use mir.Syntax.{w32, w64}
use mir.Val.{SFits, to_z, of_z}
use mir.ValLaws.{to_z-of_z}
use Rattle.bars.specs.declared.Bar.{Bar}
use Rattle.bars.specs.Bars.{Merged, row_of}
use Rattle.bars.specs.Lists.{All}
use Rattle.stores.specs.Stores.{RawStore, zip_with, bar_of, raw_bars}
use Rattle.stores.specs.Code.StoreRows.{RoomRaw, bar_at}
use Rattle.stores.proofs.Columns.{zip-take, zip-drop, zip-append, raw_at, raw_longer}
use Rattle.machine.specs.declared.Mark.{Mark}
use Rattle.machine.specs.declared.Mark.TheVariants.{D, G}
use Rattle.machine.specs.Fractals.{Fractal, same_mark, is_top, is_bottom, check_fx, taken, push_if, pushed, fxs_after, check_fxs, placed_after}
use Rattle.check_bi.specs.declared.check_fx.Candle.{Candle}
use Rattle.check_bi.specs.Code.Scan.{candle_of, top_of, bottom_of, mark_by, mark_of}
use Rattle.strokes.specs.StateRead.{row_bar, fractal_of, row_fractal, stored_fractals, bare_bar, bare_fractal}
use Rattle.strokes.specs.Lent.{FractalStore, fractal_store}
use Rattle.strokes.specs.Code.StrokeSteps.{set_fractal, SizedFractals, plain_bar, fractals_between, last_mark, last_of, Writing, put_if, put_fractal, put_window_if, put_window}
use Rattle.strokes.specs.FractalRows.{stamps_of, prices_of, stamp_row, price_row, pasted, put_fractals}
use Rattle.machine.proofs.Lists.{All-map}
use Rattle.machine.proofs.Places.{fractal, placed_are, placed-stand}
use Rattle.machine.proofs.FewerFractals.{All_read}

-- ---- a fractal's rows read back

-- its three bars show the fractal
abbrev pub Shown : Fractal → Type 0
Shown f = check_fx f.left f.mid f.right ≡ some f

shown_if : (t u : Bool) (a b c : Merged) (f : Fractal)
    → cond t (some (record { mark = G; left = a; mid = b; right = c })) (cond u (some (record { mark = D; left = a; mid = b; right = c })) none) ≡ some f
    → cond t G D ≡ f.mark
shown_if true u a b c f e = ap (λ (z : Fractal). z.mark) (some-injective _ _ e)
shown_if false true a b c f e = ap (λ (z : Fractal). z.mark) (some-injective _ _ e)
shown_if false false a b c f e = absurd (none-ne-some f e)

mark_shown : (f : Fractal) → Shown f → cond (is_top f.left.bar f.mid.bar f.right.bar) G D ≡ f.mark
unfolding check_fx
mark_shown f e = shown_if (is_top f.left.bar f.mid.bar f.right.bar) (is_bottom f.left.bar f.mid.bar f.right.bar) f.left f.mid f.right f e

pub row_back : (f : Fractal) → Shown f → row_fractal (stamp_row f) (price_row f) ≡ bare_fractal f
unfolding row_fractal fractal_of row_bar bar_of stamp_row stamps_of price_row prices_of row_of bare_fractal bare_bar
row_back f e = ap (λ (m : Mark). record { mark = m; left = bare_bar f.left; mid = bare_bar f.mid; right = bare_bar f.right }) (mark_shown f e)

-- each fractal of a list of bars is one that its bars show
pub fxs_shown : (p : Option Mark) (l : List Merged) → All Shown (fxs_after p l)
fxs_shown p l = subst (All Shown) (placed_are p 0 l) (All_read fractal Shown (placed_after p 0 l) (All-map (placed_after p 0 l) (λ f s. s.shown) (placed-stand l p 0 l refl)))

pub rows_back : (fs : List Fractal) → All Shown fs → zip_with row_fractal (map stamp_row fs) (map price_row fs) ≡ map bare_fractal fs
unfolding zip_with
rows_back [] h = refl
rows_back (f ∷ fs) h = λ i. row_back f h.0 i ∷ rows_back fs h.1 i

-- ---- a store after fractals were put into it

pub length-pasted : {A : Type 0} (d : List A) (at : ℕ) (l : List A) → at + length l ≤ length d → length (pasted d at l) ≡ length d
unfolding pasted
length-pasted d at l h =
    let e : length (take at d) ≡ at = length-take-le at d (omega arith) in
    simp (length-append, length-drop) (omega (arith, e))

pub sized_put : (s : FractalStore) (at n : ℕ) (fs : List Fractal) → SizedFractals s n → at + length fs ≤ n → SizedFractals (put_fractals s at fs) n
unfolding put_fractals
sized_put s at n fs h k =
    record {
      stamps = length-pasted s.stamps at (map stamp_row fs) (omega (arith, h.stamps, length-map fs stamp_row)) ∙ h.stamps;
      prices = length-pasted s.prices at (map price_row fs) (omega (arith, h.prices, length-map fs price_row)) ∙ h.prices;
    }

pub stored_put : (s : FractalStore) (at n : ℕ) (fs : List Fractal) → SizedFractals s n → All Shown fs
    → stored_fractals (put_fractals s at fs) ≡ pasted (stored_fractals s) at (map bare_fractal fs)
unfolding stored_fractals put_fractals pasted
stored_put s at n fs h a =
    let ts = s.stamps in
    let ps = s.prices in
    let k = length (map stamp_row fs) in
    let q : length (map stamp_row fs) ≡ length (map price_row fs) = length-map fs stamp_row ∙ sym (length-map fs price_row) in
    let e : length (take at ts) ≡ length (take at ps) = rw (length-take, length-take, h.stamps, h.prices) in
    let j : length (map stamp_row fs) ≡ length (map bare_fractal fs) = length-map fs stamp_row ∙ sym (length-map fs bare_fractal) in
    ap (λ (m : ℕ). zip_with row_fractal (take at ts ++ map stamp_row fs ++ drop (at + k) ts) (take at ps ++ map price_row fs ++ drop (at + m) ps)) (sym q)
    ∙ zip-append row_fractal (take at ts ++ map stamp_row fs) (drop (at + k) ts) (take at ps ++ map price_row fs) (drop (at + k) ps)
    (rw (length-append, length-append, e, q))
    ∙ ap (λ (r : List Fractal). r ++ zip_with row_fractal (drop (at + k) ts) (drop (at + k) ps)) (zip-append row_fractal (take at ts) (map stamp_row fs) (take at ps) (map price_row fs) e)
    ∙ (λ i. zip-take row_fractal at ts ps i ++ rows_back fs a i ++ zip-drop row_fractal (at + j i) ts ps i)

-- ---- elements ride along

bare_if : (t u : Bool) (a b c : Merged)
    → Option.map bare_fractal (cond t (some (record { mark = G; left = a; mid = b; right = c })) (cond u (some (record { mark = D; left = a; mid = b; right = c })) none))
    ≡ cond t (some (record { mark = G; left = bare_bar a; mid = bare_bar b; right = bare_bar c })) (cond u (some (record { mark = D; left = bare_bar a; mid = bare_bar b; right = bare_bar c })) none)
unfolding bare_fractal
bare_if true u a b c = refl
bare_if false true a b c = refl
bare_if false false a b c = refl

bare_fx : (a b c : Merged) → Option.map bare_fractal (check_fx a b c) ≡ check_fx (bare_bar a) (bare_bar b) (bare_bar c)
unfolding check_fx bare_bar
bare_fx a b c = bare_if (is_top a.bar b.bar c.bar) (is_bottom a.bar b.bar c.bar) a b c

bare_push : (t : Bool) (f : Fractal) (p : Option Mark) (rest rest' : Option Mark → List Fractal)
    → ((q : Option Mark) → map bare_fractal (rest q) ≡ rest' q) → map bare_fractal (push_if t f p rest) ≡ push_if t (bare_fractal f) p rest'
unfolding push_if bare_fractal
bare_push true f p rest rest' h = ap (bare_fractal f ∷◌) (h (some f.mark))
bare_push false f p rest rest' h = h p

bare_pushed : (p : Option Mark) (o : Option Fractal) (rest rest' : Option Mark → List Fractal)
    → ((q : Option Mark) → map bare_fractal (rest q) ≡ rest' q) → map bare_fractal (pushed p o rest) ≡ pushed p (Option.map bare_fractal o) rest'
unfolding pushed bare_fractal
bare_pushed p none rest rest' h = h p
bare_pushed p (some f) rest rest' h = bare_push (taken p f.mark) f p rest rest' h

-- the fractals of bars without elements are the fractals without them
pub fxs_bare : (p : Option Mark) (l : List Merged) → map bare_fractal (fxs_after p l) ≡ fxs_after p (map bare_bar l)
unfolding fxs_after
fxs_bare p [] = refl
fxs_bare p (a ∷ []) = refl
fxs_bare p (a ∷ b ∷ []) = refl
fxs_bare p (a ∷ b ∷ c ∷ l) =
    bare_pushed p (check_fx a b c) (λ q. fxs_after q (b ∷ c ∷ l)) (λ q. fxs_after q (bare_bar b ∷ bare_bar c ∷ map bare_bar l)) (λ q. fxs_bare q (b ∷ c ∷ l))
    ∙ ap (λ (o : Option Fractal). pushed p o (λ q. fxs_after q (bare_bar b ∷ bare_bar c ∷ map bare_bar l))) (bare_fx a b c)

-- ---- the loop that writes them

-- an id of 32 bits that is written as a stamp of 64 is read as it was
pub stamp : (x r : ℤ) → SFits w32 x → SFits w64 r → r ≡ to_z w32 (of_z w32 x) → to_z w64 (of_z w64 r) ≡ x
stamp x r h k e = to_z-of_z w64 r k ∙ e ∙ to_z-of_z w32 x h

-- n rows have been written to l, which was d, from place `at` on; those in rest are to follow, and all of them are ans
pub record Filled {A : Type 0} (d l : List A) (at n : ℕ) (rest ans : List A) : Type 0 where
  pub size : length l ≡ length d
  pub front : take (at + n) l ++ rest ≡ take at d ++ ans
  pub back : drop (at + n) l ≡ drop (at + n) d

module _ {A : Type 0} where
  pub filled_start : (d : List A) (at : ℕ) (ans : List A) → Filled d d at 0 ans ans
  filled_start d at ans = let e : at + 0 ≡ at = omega arith in record { size = refl; front = ap (λ (k : ℕ). take k d ++ ans) e; back = refl }

  filled_step : (d l : List A) (at n : ℕ) (r : A) (rest ans : List A) → at + n < length l → Filled d l at n (r ∷ rest) ans → Filled d (set l (at + n) r) at (n + 1) rest ans
  filled_step d l at n r rest ans h f =
      let e : at + (n + 1) ≡ suc (at + n) = omega arith in
      record {
        size = length-set l (at + n) r ∙ f.size;
        front =
            ap (λ (k : ℕ). take k (set l (at + n) r) ++ rest) e
            ∙ ap (λ (x : List A). x ++ rest) (take-suc-set l (at + n) r h)
            ∙ append_snoc (take (at + n) l) r rest
            ∙ f.front;
        back =
            drop-set-lt (at + (n + 1)) l (at + n) r (omega arith)
            ∙ ap (λ (k : ℕ). drop k l) e' ∙ sym (drop-drop 1 (at + n) l) ∙ ap (drop 1) f.back ∙ drop-drop 1 (at + n) d ∙ ap (λ (k : ℕ). drop k d) (sym e');
      }
    where
      e' : at + (n + 1) ≡ at + n + 1
      e' = omega arith

  pub filled_end : (d l : List A) (at n : ℕ) (ans : List A) → n ≡ length ans → Filled d l at n [] ans → l ≡ pasted d at ans
  unfolding pasted
  filled_end d l at n ans e f =
      sym (take-append-drop (at + n) l)
      ∙ (λ i. (sym (append-nil (take (at + n) l)) ∙ f.front) i ++ (f.back ∙ ap (λ (k : ℕ). drop (at + k) d) e) i)

-- the same of both columns: the fractals fs are to follow, and all of them are ans
pub record Going (d : FractalStore) (at : ℕ) (s : Writing) (fs ans : List Fractal) : Type 0 where
  pub counts : s.written.count + length fs ≡ length ans
  pub stamps : Filled d.stamps s.store.stamps at s.written.count (map stamp_row fs) (map stamp_row ans)
  pub prices : Filled d.prices s.store.prices at s.written.count (map price_row fs) (map price_row ans)

pub going_start : (d : FractalStore) (at : ℕ) (ans : List Fractal) → Going d at (record { store = d; written = record { count = 0; last = None } }) ans ans
going_start d at ans = record { counts = omega arith; stamps = filled_start d.stamps at (map stamp_row ans); prices = filled_start d.prices at (map price_row ans) }

-- place k is inside both columns
pub record Inside (s : FractalStore) (k : ℕ) : Type 0 where
  pub stamps : k < length s.stamps
  pub prices : k < length s.prices

put_going : (t : Bool) (d : FractalStore) (at : ℕ) (s : Writing) (m : Mark) (a b c : Bar) (next : Option Mark → List Fractal) (ans : List Fractal)
    → Inside s.store (at + s.written.count)
    → Going d at s (push_if t (record { mark = m; left = plain_bar a; mid = plain_bar b; right = plain_bar c }) (last_of s.written) next) ans
    → Going d at (put_if t s at m a b c) (next (last_of (put_if t s at m a b c).written)) ans
unfolding push_if put_if set_fractal stamp_row price_row plain_bar last_of last_mark
put_going true d at s m a b c next ans h g =
    let n = s.written.count in
    record {
      counts = omega (arith, g.counts);
      stamps = filled_step d.stamps s.store.stamps at n (stamps_of a b c) (map stamp_row (next (some m))) (map stamp_row ans) h.stamps g.stamps;
      prices = filled_step d.prices s.store.prices at n (prices_of a b c) (map price_row (next (some m))) (map price_row ans) h.prices g.prices;
    }
put_going false d at s m a b c next ans h g = g

window_going : (t u : Bool) (d : FractalStore) (at : ℕ) (s : Writing) (a b c : Bar) (next : Option Mark → List Fractal) (ans : List Fractal)
    → Inside s.store (at + s.written.count)
    → Going d at s (pushed (last_of s.written) (cond t (some (record { mark = G; left = plain_bar a; mid = plain_bar b; right = plain_bar c }))
    (cond u (some (record { mark = D; left = plain_bar a; mid = plain_bar b; right = plain_bar c })) none)) next) ans
    → Going d at (put_window_if t u s at a b c) (next (last_of (put_window_if t u s at a b c).written)) ans
unfolding pushed put_window_if put_fractal
window_going true u d at s a b c next ans h g = put_going (taken (last_of s.written) G) d at s G a b c next ans h g
window_going false true d at s a b c next ans h g = put_going (taken (last_of s.written) D) d at s D a b c next ans h g
window_going false false d at s a b c next ans h g = g

put_more : (t : Bool) (at : ℕ) (s : Writing) (m : Mark) (a b c : Bar) → (put_if t s at m a b c).written.count ≤ s.written.count + 1
unfolding put_if
put_more true at s m a b c = omega arith
put_more false at s m a b c = omega arith

window_more : (t u : Bool) (at : ℕ) (s : Writing) (a b c : Bar) → (put_window_if t u s at a b c).written.count ≤ s.written.count + 1
unfolding put_window_if put_fractal
window_more true u at s a b c = put_more (taken (last_of s.written) G) at s G a b c
window_more false true at s a b c = put_more (taken (last_of s.written) D) at s D a b c
window_more false false at s a b c = omega arith

-- a window adds one fractal at most
pub write_more : (at : ℕ) (s s' : Writing) (a b c : Bar) → s' ≡ put_window s at a b c → s'.written.count ≤ s.written.count + 1
unfolding put_window
write_more at s s' a b c e = subst (λ (x : Writing). x.written.count ≤ s.written.count + 1) (sym e) (window_more (is_top a b c) (is_bottom a b c) at s a b c)

take_longer : {A : Type 0} (n : ℕ) (l : List A) (i : ℕ) → i < n → i < length l → i < length (take n l)
take_longer n l i h k = rw length-take (omega arith)

-- the bars before place `end`, without elements
abbrev pub plains : RawStore → ℕ → List Merged
plains s end = take end (map plain_bar (raw_bars s))

pub room-less : (s : RawStore) (n m : ℕ) → RoomRaw s n → m ≤ n → RoomRaw s m
room-less s n m h k = record { times = omega (arith, h.times); ids = omega (arith, h.ids); prices = omega (arith, h.prices) }

pub plain_cons : (s : RawStore) (end i : ℕ) → RoomRaw s end → i < end → drop i (plains s end) ≡ plain_bar (bar_at s i) ∷ drop (suc i) (plains s end)
plain_cons s end i h k =
    let r = room-less s end (i + 1) h (omega arith) in
    let z = bar_at s i in
    let n : i < length (raw_bars s) = raw_longer s i r in
    let m : i < length (map plain_bar (raw_bars s)) = omega (arith, length-map (raw_bars s) plain_bar) in
    drop-cons (plains s end) i (plain_bar z) (take_longer end (map plain_bar (raw_bars s)) i k m)
    ∙ ap (λ (x : Merged). x ∷ drop (suc i) (plains s end))
    (get_or-take end (map plain_bar (raw_bars s)) i (plain_bar z) k ∙ get_or-map plain_bar (raw_bars s) i z ∙ ap plain_bar (raw_at s i z r))

-- one turn: the window at place i, of what the code has read
pub write_turn : (r : RawStore) (d : FractalStore) (at end i : ℕ) (s s' : Writing) (a b c : Bar) (ans : List Fractal)
    → RoomRaw r end
    → i + 2 < end
    → a ≡ bar_at r i
    → b ≡ bar_at r (i + 1)
    → c ≡ bar_at r (i + 2)
    → s' ≡ put_window s at a b c
    → Inside s.store (at + s.written.count)
    → Going d at s (fxs_after (last_of s.written) (drop i (plains r end))) ans
    → Going d at s' (fxs_after (last_of s'.written) (drop (i + 1) (plains r end))) ans
unfolding fxs_after check_fx put_window plain_bar
write_turn r d at end i s s' a b c ans h k ea eb ec es n g =
    let v = plains r end in
    let j : i + 1 ≡ suc i = omega arith in
    let j' : i + 2 ≡ suc (suc i) = omega arith in
    let q : drop (i + 1) v ≡ plain_bar b ∷ plain_bar c ∷ drop (suc (suc (suc i))) v =
    plain_cons r end (i + 1) h (omega arith) ∙ (λ t. plain_bar (sym eb t) ∷ drop (suc (j t)) v)
    ∙ ap (plain_bar b ∷◌) (ap (λ (x : ℕ). drop x v) (sym j') ∙ plain_cons r end (i + 2) h k ∙ (λ t. plain_bar (sym ec t) ∷ drop (suc (j' t)) v)) in
    let o : drop i v ≡ plain_bar a ∷ plain_bar b ∷ plain_bar c ∷ drop (suc (suc (suc i))) v =
    plain_cons r end i h (omega arith) ∙ (λ t. plain_bar (sym ea t) ∷ drop (sym j t) v) ∙ ap (plain_bar a ∷◌) q in
    let w = put_window s at a b c in
    subst (λ (x : Writing). Going d at x (fxs_after (last_of x.written) (drop (i + 1) v)) ans) (sym es)
    (subst (λ (x : List Merged). Going d at w (fxs_after (last_of w.written) x) ans) (sym q)
    (window_going (is_top a b c) (is_bottom a b c) d at s a b c (λ p. fxs_after p (plain_bar b ∷ plain_bar c ∷ drop (suc (suc (suc i))) v)) ans n
    (subst (λ (x : List Merged). Going d at s (fxs_after (last_of s.written) x) ans) o g)))

-- whether a mark is taken, by the equality of marks that the code has
pub is_taken : (E : Mark → Mark → Bool) → ((a b : Mark) → E a b ≡ same_mark a b) → (o : Std.Option Mark) (m : Mark) → taken (last_mark o) m ≡ not (option_eq E o (Std.Some m))
unfolding taken last_mark
is_taken E h Std.None m = refl
is_taken E h (Std.Some k) m = ap not (sym (h k m))

-- tops and bottoms by the candles of bars
pub top_read : {x y z : Candle} (a b c : Bar) {r t : Bool} → x ≡ candle_of (plain_bar a) → y ≡ candle_of (plain_bar b) → z ≡ candle_of (plain_bar c) → r ≡ top_of x y z → r ≡ t → is_top a b c ≡ t
unfolding top_of is_top candle_of plain_bar
top_read a b c ex ey ez e h = sym (λ i. top_of (ex i) (ey i) (ez i)) ∙ sym e ∙ h

pub bottom_read : {x y z : Candle} (a b c : Bar) {r t : Bool} → x ≡ candle_of (plain_bar a) → y ≡ candle_of (plain_bar b) → z ≡ candle_of (plain_bar c) → r ≡ bottom_of x y z → r ≡ t → is_bottom a b c ≡ t
unfolding bottom_of is_bottom candle_of plain_bar
bottom_read a b c ex ey ez e h = sym (λ i. bottom_of (ex i) (ey i) (ez i)) ∙ sym e ∙ h

-- what a window adds, by the mark of its fractal
unfoldable pub put_marked : Std.Option Mark → Writing → ℕ → Bar → Bar → Bar → Writing
put_marked None s at a b c = s
put_marked (Some m) s at a b c = put_fractal s at m a b c

window_cases : (t u : Bool) (s : Writing) (at : ℕ) (a b c : Bar) → put_window_if t u s at a b c ≡ put_marked (mark_by t u) s at a b c
unfolding put_window_if mark_by put_marked
window_cases true u s at a b c = refl
window_cases false true s at a b c = refl
window_cases false false s at a b c = refl

pub window_put : (s : Writing) (at : ℕ) (a b c : Bar) (o : Std.Option Mark) → o ≡ mark_of (candle_of (plain_bar a)) (candle_of (plain_bar b)) (candle_of (plain_bar c)) → put_window s at a b c ≡ put_marked o s at a b c
unfolding mark_of top_of bottom_of is_top is_bottom candle_of plain_bar put_window
window_put s at a b c o e = window_cases (is_top a b c) (is_bottom a b c) s at a b c ∙ ap (λ (x : Std.Option Mark). put_marked x s at a b c) (sym e)

-- before the first window
pub write_start : (r : RawStore) (d : FractalStore) (at first end : ℕ)
    → Going d at (record { store = d; written = record { count = 0; last = None } }) (fxs_after (last_of (record { count = 0; last = None })) (drop first (plains r end))) (fractals_between r first end)
unfolding fractals_between check_fxs last_of last_mark
write_start r d at first end = going_start d at (fxs_after none (drop first (plains r end)))

pub none_left : (p : Option Mark) (l : List Merged) → length l ≤ 2 → fxs_after p l ≡ []
unfolding fxs_after
none_left p [] h = refl
none_left p (a ∷ []) h = refl
none_left p (a ∷ b ∷ []) h = refl
none_left p (a ∷ b ∷ c ∷ l) h = let z : ⊥ = omega arith in absurd z

pub write_end : (r : RawStore) (d : FractalStore) (at end i : ℕ) (s : Writing) (ans : List Fractal)
    → end ≤ i + 2
    → Going d at s (fxs_after (last_of s.written) (drop i (plains r end))) ans
    → (s.written.count ≡ length ans) × (s.store ≡ put_fractals d at ans)
unfolding put_fractals
write_end r d at end i s ans h g =
    let e : length (drop i (plains r end)) ≤ 2 = rw (length-drop, length-take) (omega arith) in
    let q = none_left (last_of s.written) (drop i (plains r end)) e in
    let w : Going d at s [] ans = subst (λ (x : List Fractal). Going d at s x ans) q g in
    let n : s.written.count ≡ length ans = omega (arith, w.counts) in (
      n,
      (λ t. fractal_store (filled_end d.stamps s.store.stamps at s.written.count (map stamp_row ans) (n ∙ sym (length-map ans stamp_row)) w.stamps t)
          (filled_end d.prices s.store.prices at s.written.count (map price_row ans) (n ∙ sym (length-map ans price_row)) w.prices t)),
    )
