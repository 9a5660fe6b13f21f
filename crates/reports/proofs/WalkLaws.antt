-- The fractals of a run of bars window by window, each of those taken handed out once. Assumes nothing.
use Prim.Native.Nat.{ℕ, suc, ◌+◌, ◌≤◌, ◌<◌}
use native.Mathlib.Omega.{arith}
use mathlib.Core.Path.{◌≡◌, refl, ap, sym, ◌∙◌}
use mathlib.Core.Bool.{Bool, true, false, cond}
use mathlib.Core.List.{List, [], ◌∷◌}
use mathlib.Core.Option.{Option, none, some}
use lib.ListN.{length, drop, length-take, length-drop}
use Rattle.std.specs.Prelude as Std
use Rattle.std.proofs.Common.{Some, None}
use Rattle.bars.specs.declared.Bar.{Bar}
use Rattle.bars.specs.Bars.{Merged}
use Rattle.stores.specs.Stores.{RawStore}
use Rattle.stores.specs.Code.StoreRows.{RoomRaw, bar_at}
use Rattle.machine.specs.declared.Mark.{Mark}
use Rattle.machine.specs.declared.Mark.TheVariants.{D, G}
use Rattle.machine.specs.Fractals.{Fractal, is_top, is_bottom, check_fx, taken, push_if, pushed, fxs_after}
use Rattle.check_bi.specs.declared.check_fx.Candle.{Candle}
use Rattle.check_bi.specs.Code.Scan.{candle_of, top_of, bottom_of, mark_by, mark_of}
use Rattle.strokes.specs.Code.StrokeSteps.{plain_bar}
use Rattle.strokes.proofs.StoredFractals.{plains, plain_cons, none_left}
use Rattle.reports.specs.declared.fractal_walk.FractalBars.{FractalBars}
use Rattle.std.specs.Iterator.{MakesProgress, item_count}
use Rattle.reports.specs.Code.FractalWalk.{plain_of, fractal_if, from_place, window_gives, NextFractal}

-- ---- one window

by_marks : (t u : Bool) (a b c : Bar) → cond t (some (plain_of G a b c)) (cond u (some (plain_of D a b c)) none) ≡ fractal_if (mark_by t u) a b c
unfolding fractal_if mark_by
by_marks true u a b c = refl
by_marks false true a b c = refl
by_marks false false a b c = refl

-- by the mark that their candles show
pub mark_is : {x y z : Candle} (o : Std.Option Mark) (a b c : Bar) → x ≡ candle_of (plain_bar a) → y ≡ candle_of (plain_bar b) → z ≡ candle_of (plain_bar c) → o ≡ mark_of x y z
    → check_fx (plain_bar a) (plain_bar b) (plain_bar c) ≡ fractal_if o a b c
unfolding check_fx plain_bar candle_of mark_of top_of bottom_of is_top is_bottom
mark_is o a b c ex ey ez e =
    by_marks (is_top a b c) (is_bottom a b c) a b c
    ∙ ap (λ (m : Std.Option Mark). fractal_if m a b c) (sym (e ∙ (λ i. mark_of (ex i) (ey i) (ez i))))

module _ (p : Option Mark) (a b c : Bar) (l : List Merged) where
  abbrev rest : Option Mark → List Fractal
  rest q = fxs_after q (plain_bar b ∷ plain_bar c ∷ l)

  cons : fxs_after p (plain_bar a ∷ plain_bar b ∷ plain_bar c ∷ l) ≡ pushed p (check_fx (plain_bar a) (plain_bar b) (plain_bar c)) rest
  unfolding fxs_after
  cons = refl

  pub window_none : check_fx (plain_bar a) (plain_bar b) (plain_bar c) ≡ fractal_if None a b c → fxs_after p (plain_bar a ∷ plain_bar b ∷ plain_bar c ∷ l) ≡ window_gives p None rest
  unfolding fractal_if pushed window_gives
  window_none e = cons ∙ ap (λ (o : Option Fractal). pushed p o rest) e

  pub window_passed : (m : Mark) → check_fx (plain_bar a) (plain_bar b) (plain_bar c) ≡ fractal_if (Some m) a b c → taken p m ≡ false
      → fxs_after p (plain_bar a ∷ plain_bar b ∷ plain_bar c ∷ l) ≡ window_gives p None rest
  unfolding fractal_if pushed window_gives push_if
  window_passed m e t = cons ∙ ap (λ (o : Option Fractal). pushed p o rest) e ∙ ap (λ (x : Bool). push_if x (plain_of m a b c) p rest) t

  pub window_taken : (m : Mark) → check_fx (plain_bar a) (plain_bar b) (plain_bar c) ≡ fractal_if (Some m) a b c → taken p m ≡ true
      → fxs_after p (plain_bar a ∷ plain_bar b ∷ plain_bar c ∷ l) ≡ window_gives p (Some (record { mark = m; left = a; mid = b; right = c })) rest
  unfolding fractal_if pushed window_gives push_if
  window_taken m e t = cons ∙ ap (λ (o : Option Fractal). pushed p o rest) e ∙ ap (λ (x : Bool). push_if x (plain_of m a b c) p rest) t

-- ---- window by window

module _ (r : RawStore) (end i : ℕ) (p : Option Mark) (h : RoomRaw r end) (k : i + 2 < end) (a b c : Bar) (ea : a ≡ bar_at r i) (eb : b ≡ bar_at r (i + 1)) (ec : c ≡ bar_at r (i + 2)) (o : Std.Option FractalBars)
    (w : (l : List Merged) → fxs_after p (plain_bar a ∷ plain_bar b ∷ plain_bar c ∷ l) ≡ window_gives p o (λ q. fxs_after q (plain_bar b ∷ plain_bar c ∷ l)))
  where
    window_at : from_place r end p i ≡ window_gives p o (λ q. from_place r end q (i + 1))
    unfolding from_place
    window_at =
        let v = plains r end in
        let j : i + 1 ≡ suc i = omega arith in
        let j' : i + 2 ≡ suc (suc i) = omega arith in
        let q : drop (i + 1) v ≡ plain_bar b ∷ plain_bar c ∷ drop (suc (suc (suc i))) v =
        plain_cons r end (i + 1) h (omega arith) ∙ (λ t. plain_bar (sym eb t) ∷ drop (suc (j t)) v)
        ∙ ap (plain_bar b ∷◌) (ap (λ (x : ℕ). drop x v) (sym j') ∙ plain_cons r end (i + 2) h k ∙ (λ t. plain_bar (sym ec t) ∷ drop (suc (j' t)) v)) in
        let s : drop i v ≡ plain_bar a ∷ plain_bar b ∷ plain_bar c ∷ drop (suc (suc (suc i))) v =
        plain_cons r end i h (omega arith) ∙ (λ t. plain_bar (sym ea t) ∷ drop (sym j t) v) ∙ ap (plain_bar a ∷◌) q in
        ap (fxs_after p) s ∙ w (drop (suc (suc (suc i))) v) ∙ ap (λ (x : List Merged). window_gives p o (λ z. fxs_after z x)) (sym q)

    -- none there: those from the next place on
    pub window_over : (l : List Fractal) → o ≡ None → from_place r end p i ≡ l → from_place r end p (i + 1) ≡ l
    unfolding window_gives
    window_over l e g = sym (window_at ∙ ap (λ (x : Std.Option FractalBars). window_gives p x (λ q. from_place r end q (i + 1))) e) ∙ g

    -- one there
    pub window_here : (l : List Fractal) (f : FractalBars) → o ≡ Some f → from_place r end p i ≡ l → NextFractal r end l (Some (record { behind = i + 1; fractal = f }))
    unfolding window_gives NextFractal
    window_here l f e g = sym g ∙ window_at ∙ ap (λ (x : Std.Option FractalBars). window_gives p x (λ q. from_place r end q (i + 1))) e

pub no_window : (r : RawStore) (end i : ℕ) (p : Option Mark) (l : List Fractal) → end ≤ i + 2 → from_place r end p i ≡ l → l ≡ []
unfolding from_place
no_window r end i p l h g =
    let n : length (drop i (plains r end)) ≤ 2 = rw (length-drop, length-take) (omega arith) in
    sym g ∙ none_left p (drop i (plains r end)) n

-- ---- what an iterator's step leaves, where it gives the first of the list of what is left

module _ {S A B : Type 0} (can : S → Type 0) (rest : S → List B) where
  pub goes_on : (s t : S) (x : A) (b : B) → rest s ≡ b ∷ rest t → can t → MakesProgress can (item_count rest) s (Some x) t
  goes_on s t x b e k =
      let n = ap length e in
      record { on = λ _. (k, tt, omega arith); keeps = k; rests = λ _. tt }

  pub goes_out : (s t : S) → MakesProgress {A = A} can (item_count rest) s None t
  goes_out s t = record { on = λ _. tt; keeps = tt; rests = λ _. tt }
