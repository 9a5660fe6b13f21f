-- The windows that the scan passes over, and those that it takes.
-- Assumes nothing.
use Prim.Native.Nat.{ℕ, zero, suc, ◌+◌, ◌-◌, ◌≤◌, ◌<◌}
use native.Mathlib.Omega.{arith}
use mathlib.Core.Path.{◌≡◌, refl, ap, sym, ◌∙◌, subst}
use mathlib.Core.Bool.{Bool, true, false, ◌&&◌, ◌||◌}
use mathlib.Core.List.{List, [], ◌∷◌, ◌++◌}
use lib.ListN.{length, get_or, take, drop, get_or-append, length-drop}
use lib.Seq.{drop-cons, get_or-take}
use lib.IntN.{ℤ, pos}
use lib.Dec.{ltb}
use lib.Ieee.{Float, nan, inf, fin, lt}
use borrow.Author.Tests.{ltb-true, ltb-false}
use Rattle.std.specs.Prelude.{Option, Some, None, IfSome, max}
use Rattle.std.specs.Option.{MatchOption, unwrap_or}
use Rattle.std.proofs.Math.Nat.{max-eq_left, max-eq_right}
use Rattle.check_bi.specs.declared.check_fx.Candle.{Candle}
use Rattle.check_bi.specs.declared.check_fx.Fx.{Fx}
use Rattle.check_bi.specs.declared.scan.Best.{Best}
use Rattle.check_bi.specs.declared.scan.Scan.{Scan}
use Rattle.machine.specs.declared.Mark.{Mark}
use Rattle.machine.specs.declared.Mark.TheVariants.{D, G}
use Rattle.check_bi.specs.Code.Scan.{top_of, bottom_of, fractal_of, other_of, taken_of, fx_at, take_on, step_of, scan_from, scan_of, last_mark, BestFits, Small, SmallIf, ScanFits}
use Rattle.check_bi.specs.Code.View.{candle_from, candles}
use Rattle.check_bi.specs.Code.Windows.{row_at, bar_at, taken_at, fx_in, NoneBetween, NextWindow, FirstWindow, NextIn, NoFractals}
use Rattle.check_bi.proofs.ScanSteps.{step_passed, step_taken}
use Rattle.check_bi.proofs.ScanViews.{no_candle, candle_in, length-candles, small_take, small_on}

-- ---- one window

-- times are not read
untimed : (last : Option Mark) (t u w : ℤ) (p q r : List Float)
    → taken_of last (candle_from t p) (candle_from u q) (candle_from w r) ≡ taken_of last (candle_from (pos 0) p) (candle_from (pos 0) q) (candle_from (pos 0) r)
unfolding taken_of fractal_of other_of top_of bottom_of candle_from
untimed None t u w p q r = refl
untimed (Some D) t u w p q r = refl
untimed (Some G) t u w p q r = refl

pub taken_timed : (ts : List ℤ) (ps : List (List Float)) (last : Option Mark) (i : ℕ) (a b c : Candle) → a ≡ bar_at ts ps i → b ≡ bar_at ts ps (i + 1) → c ≡ bar_at ts ps (i + 2)
    → taken_of last a b c ≡ taken_at ps last i
unfolding taken_at row_at
taken_timed ts ps last i a b c p q r =
    (λ j. taken_of last (p j) (q j) (r j))
    ∙ untimed last (get_or ts i (pos 0)) (get_or ts (i + 1) (pos 0)) (get_or ts (i + 2) (pos 0)) (get_or ps i []) (get_or ps (i + 1) []) (get_or ps (i + 2) [])

-- ---- the windows up to a row

module _ (t : ℕ → Bool) (n i : ℕ) where
  pub none_yet : NoneBetween t n i i
  none_yet = record { from = omega arith; within = λ h. absurd (omega arith); none = λ j h k. absurd (omega arith) }

  -- what `find` says of the windows from row j on, behind those that were passed
  pub next_found : (j e : ℕ) (o : Option ℕ) → NoneBetween t n i j → e ≡ n - 2
      → MatchOption o ((k : ℕ) → j ≤ k → k < e → t k ≡ false) (λ r. (j ≤ r) × (r < e) × (t r ≡ true) × ((k : ℕ) → j ≤ k → k < r → t k ≡ false))
      → NextIn t n i o
  next_found j e None w q h = λ k a b. by k a b (ltb k j) refl
    where
      by : (k : ℕ) → i ≤ k → k + 2 < n → (b : Bool) → ltb k j ≡ b → t k ≡ false
      by k a b true x = w.none k a (ltb-true k j x)
      by k a b false x = h k (ltb-false k j x) (omega arith)
  next_found j e (Some r) w q h =
      let f = w.from in
      let a = h.0 in
      let b = h.1 in
      record { before = record { from = omega arith; within = λ g. omega arith; none = λ k x y. by k x y (ltb k j) refl }; fits = omega arith; here = h.2 }
    where
      by : (k : ℕ) → i ≤ k → k < r → (b : Bool) → ltb k j ≡ b → t k ≡ false
      by k x y true z = w.none k x (ltb-true k j z)
      by k x y false z = h.3 k (ltb-false k j z) y

  -- the row to go on from
  pub next_from : (r e : ℕ) (o : Option ℕ) → NextIn t n i o → e ≡ n - 2 → r ≡ unwrap_or o (max i e) → NextWindow t n i r
  next_from r e (Some k) h q p = subst (NextWindow t n i) (sym p) (record { before = h.before; here = λ g. h.here })
  next_from r e None h q p = by (ltb i e) refl
    where
      by : (b : Bool) → ltb i e ≡ b → NextWindow t n i r
      by true x =
          let a = ltb-true i e x in
          let m = p ∙ max-eq_right {n = i} {m = e} (omega arith) in
          record { before = record { from = omega arith; within = λ g. omega arith; none = λ k l g. h k l (omega arith) }; here = λ g. absurd (omega arith) }
      by false x =
          let a = ltb-false i e x in
          let m = p ∙ max-eq_left {n = i} {m = e} (omega arith) in
          record { before = record { from = omega arith; within = λ g. absurd (omega arith); none = λ k l g. absurd (omega arith) }; here = λ g. absurd (omega arith) }

-- of no window there is nothing to know
pub clear_none : (ps : List (List Float)) → NoFractals ps 0
clear_none ps j h = absurd (omega arith)

get_or_past : {A : Type 0} (l : List (List A)) (i : ℕ) → length l ≤ i → get_or l i [] ≡ []
get_or_past [] i h = refl
get_or_past (x ∷ l) zero h = absurd (omega arith)
get_or_past (x ∷ l) (suc i) h = get_or_past l i (omega arith)

length-take-most : {A : Type 0} (n : ℕ) (l : List A) → length (take n l) ≤ n
length-take-most zero l = omega arith
length-take-most (suc n) [] = omega arith
length-take-most (suc n) (x ∷ l) = let h = length-take-most n l in omega arith

-- nothing is below what is no number, and it is below nothing
nan-above : (x : Float) → lt x nan ≡ false
unfolding lt
nan-above nan = refl
nan-above (inf s) = refl
nan-above (fin s m e) = refl

and_no : (b : Bool) → (b && false) ≡ false
and_no true = refl
and_no false = refl

-- a window that reaches behind the last row holds no fractal
past : (a b c : Candle) → c.high ≡ nan → c.low ≡ nan → taken_of None a b c ≡ false
unfolding taken_of fractal_of top_of bottom_of
past a b c h l =
    (λ i. ((lt a.high b.high && lt (h i) b.high) && (lt a.low b.low && lt (l i) b.low)) || ((lt b.low a.low && lt b.low (l i)) && (lt b.high a.high && lt b.high (h i))))
    ∙ (λ i. ((lt a.high b.high && nan-below b.high i) && (lt a.low b.low && nan-below b.low i)) || ((lt b.low a.low && nan-above b.low i) && (lt b.high a.high && nan-above b.high i)))
    ∙ (λ i. (and_no (lt a.high b.high) i && and_no (lt a.low b.low) i) || (and_no (lt b.low a.low) i && and_no (lt b.high a.high) i))
  where
    nan-below : (x : Float) → lt nan x ≡ false
    nan-below x = refl

-- what holds of the windows of a store holds of its first rows
pub clear_take : (ps : List (List Float)) (n c : ℕ) → NoFractals ps c → NoFractals (take n ps) c
unfolding taken_at row_at candle_from
clear_take ps n c h j l = by (ltb (j + 2) n) refl
  where
    by : (b : Bool) → ltb (j + 2) n ≡ b → taken_at (take n ps) None j ≡ false
    by true q =
        let k = ltb-true (j + 2) n q in
        (λ i. taken_of None (candle_from (pos 0) (get_or-take n ps j [] (omega arith) i)) (candle_from (pos 0) (get_or-take n ps (j + 1) [] (omega arith) i)) (candle_from (pos 0) (get_or-take n ps (j + 2) [] k i)))
        ∙ h j l
    by false q =
        let e = get_or_past (take n ps) (j + 2) (omega (arith, length-take-most n ps, ltb-false (j + 2) n q)) in
        past (candle_from (pos 0) (get_or (take n ps) j [])) (candle_from (pos 0) (get_or (take n ps) (j + 1) [])) (candle_from (pos 0) (get_or (take n ps) (j + 2) []))
        (ap (λ (r : List Float). get_or r 2 nan) e) (ap (λ (r : List Float). get_or r 3 nan) e)

-- where the first c windows hold no fractal, the scan may begin at row j instead of row i
pub clear_until : (ps : List (List Float)) (c n i j : ℕ) → NoFractals ps c → (i ≤ j) × (i < j → (j ≤ c) × (j + 1 < n)) → NoneBetween (taken_at ps None) n i j
clear_until ps c n i j h w =
    record { from = w.0; within = λ l. (w.1 l).1; none = λ k x y. h k (omega (arith, (w.1 (omega arith)).0)) }

-- the windows that lie in the store are those of the view
module _ (ps qs : List (List Float)) (last : Option Mark) where
  in_store : (p : ℕ) → p + 2 < length ps → taken_at (ps ++ qs) last p ≡ taken_at ps last p
  unfolding taken_at row_at
  in_store p g =
      λ j. taken_of last (candle_from (pos 0) (get_or-append ps qs [] p (omega arith) j)) (candle_from (pos 0) (get_or-append ps qs [] (p + 1) (omega arith) j)) (candle_from (pos 0) (get_or-append ps qs [] (p + 2) g j))

  pub store-none : (N i r : ℕ) → length ps ≤ N → NoneBetween (taken_at ps last) (length ps) i r → NoneBetween (taken_at (ps ++ qs) last) N i r
  store-none N i r l g =
      record {
        from = g.from;
        within = λ k. omega (arith, g.within k);
        none = λ j x y. in_store j (omega (arith, g.within (omega arith))) ∙ g.none j x y;
      }

-- none is left behind row j
pub none_left : (t : ℕ → Bool) (N i j : ℕ) → NoneBetween t N i j → N ≤ j + 2 → NextIn t N i None
none_left t N i j w l k x y = w.none k x (omega arith)

-- ---- the scan of these bars from place lo on

module _ (ts : List ℤ) (ps : List (List Float)) (lo N : ℕ) where
  abbrev scanned : List Candle
  scanned = drop lo (candles ts ps)

  abbrev bar : ℕ → Candle
  bar i = bar_at ts ps i

  -- what holds whenever the scan looks for its next window, at place p
  pub record Standing (s : Option Scan) (p : ℕ) : Type 0 where
    pub from : lo ≤ p
    pub within : lo < p → p + 1 < N
    pub small : SmallIf s (p - lo)
    pub goes : scan_from (p - lo) s (drop (p - lo) scanned) ≡ scan_of scanned

  module _ (lt : length ts ≡ N) (lp : length ps ≡ N) (fit : N < 4294967296) (le : lo ≤ N) where
    long : length scanned ≡ N - lo
    long = length-candles ts ps lo (lt ∙ sym lp) ∙ ap (λ (k : ℕ). k - lo) lt

    at : (p : ℕ) → lo ≤ p → p < N → drop (p - lo) scanned ≡ bar p ∷ drop (p + 1 - lo) scanned
    at p h k =
        let e : lo + (p - lo) ≡ p = omega arith in
        let q : suc (p - lo) ≡ p + 1 - lo = omega arith in
        drop-cons scanned (p - lo) no_candle (omega (arith, long))
        ∙ (λ i. (candle_in ts ps lo (p - lo) (lt ∙ sym lp) (omega (arith, lt)) i) ∷ drop (q i) scanned)
        ∙ ap (λ (j : ℕ). bar j ∷ drop (p + 1 - lo) scanned) e

    three : (p : ℕ) → lo ≤ p → p + 2 < N → drop (p - lo) scanned ≡ bar p ∷ bar (p + 1) ∷ bar (p + 2) ∷ drop (p + 3 - lo) scanned
    three p h k =
        let e : p + 1 + 1 ≡ p + 2 = omega arith in
        let f : p + 2 + 1 ≡ p + 3 = omega arith in
        at p h (omega arith)
        ∙ ap (bar p ∷◌) (at (p + 1) (omega arith) (omega arith) ∙ ap (λ (j : ℕ). bar (p + 1) ∷ drop (j - lo) scanned) e)
        ∙ ap (λ (l : List Candle). bar p ∷ bar (p + 1) ∷ l) (at (p + 2) (omega arith) k ∙ ap (λ (j : ℕ). bar (p + 2) ∷ drop (j - lo) scanned) f)

    turn : (s s' : Option Scan) (p : ℕ) → lo ≤ p → p + 2 < N → s' ≡ step_of s (p - lo) (bar p) (bar (p + 1)) (bar (p + 2))
        → scan_from (p - lo) s (drop (p - lo) scanned) ≡ scan_from (p + 1 - lo) s' (drop (p + 1 - lo) scanned)
    unfolding scan_from
    turn s s' p h k e =
        let q : p - lo + 1 ≡ p + 1 - lo = omega arith in
        let x : p + 1 + 1 ≡ p + 2 = omega arith in
        let y' : p + 2 + 1 ≡ p + 3 = omega arith in
        ap (scan_from (p - lo) s) (three p h k)
        ∙ (λ i. scan_from (q i) (sym e i) (bar (p + 1) ∷ bar (p + 2) ∷ drop (p + 3 - lo) scanned))
        ∙ ap (scan_from (p + 1 - lo) s') (sym (at (p + 1) (omega arith) (omega arith) ∙ ap (bar (p + 1) ∷◌) (ap (λ (j : ℕ). drop (j - lo) scanned) x ∙ at (p + 2) (omega arith) k ∙ ap (λ (j : ℕ). bar (p + 2) ∷ drop (j - lo) scanned) y')))

    on : (s s' : Option Scan) (p : ℕ) → Standing s p → p + 2 < N → s' ≡ step_of s (p - lo) (bar p) (bar (p + 1)) (bar (p + 2)) → SmallIf s' (p + 1 - lo) → Standing s' (p + 1)
    on s s' p w k e h =
        let f = w.from in
        record { from = omega arith; within = λ x. omega arith; small = h; goes = sym (turn s s' p f k e) ∙ w.goes }

    timed : (last : Option Mark) (p : ℕ) → taken_of last (bar p) (bar (p + 1)) (bar (p + 2)) ≡ taken_at ps last p
    timed last p = taken_timed ts ps last p (bar p) (bar (p + 1)) (bar (p + 2)) refl refl refl

    run : (d p r : ℕ) (s : Option Scan) → p + d ≡ r → Standing s p → (p < r → r + 1 < N) → ((j : ℕ) → p ≤ j → j < r → taken_at ps (last_mark s) j ≡ false) → Standing s r
    run zero p r s e w b o = let x : p ≡ r = omega arith in subst (Standing s) x w
    run (suc d) p r s e w b o =
        let l : p < r = omega arith in
        let g = b l in
        let f = w.from in
        run d (p + 1) r s (omega arith)
        (on s s p w (omega arith) (step_passed s (p - lo) (bar p) (bar (p + 1)) (bar (p + 2)) (timed (last_mark s) p ∙ o p (omega arith) l)) (small_on s (p - lo) (p + 1 - lo) (omega arith) (omega arith) w.small))
        (λ v. g) (λ j v u. o j (omega arith) u)

    passed : (s : Option Scan) (p r : ℕ) → Standing s p → NoneBetween (taken_at ps (last_mark s)) N p r → Standing s r
    passed s p r w g = let f = g.from in run (r - p) p r s (omega arith) w g.within g.none

    -- before the first window
    pub begun : (p : ℕ) → NoneBetween (taken_at ps None) N lo p → Standing None p
    unfolding scan_of scan_from
    begun p g =
        let z : lo - lo ≡ 0 = omega arith in
        passed None lo p (record { from = omega arith; within = λ h. absurd (omega arith); small = tt; goes = zero_on (lo - lo) z }) g
      where
        zero_on : (k : ℕ) → k ≡ 0 → scan_from k None (drop k scanned) ≡ scan_of scanned
        zero_on k e = ap (λ (j : ℕ). scan_from j None (drop j scanned)) e

    -- the window at place r, of which nothing is too large
    pub small_here : (s : Option Scan) (p r : ℕ) (f : Fx) → Standing s p → FirstWindow (taken_at ps (last_mark s)) N p r → f ≡ fx_in ts ps lo r → SmallIf s f.place
    unfolding fx_in fx_at
    small_here s p r f w g e = subst (SmallIf s) (sym (ap (λ (x : Fx). x.place) e)) (passed s p r w g.before).small

    -- it is taken
    pub taken_on : (s : Option Scan) (p r : ℕ) (f : Fx) (k : Scan) → Standing s p → FirstWindow (taken_at ps (last_mark s)) N p r → f ≡ fx_in ts ps lo r → k ≡ take_on s f → Standing (Some k) (r + 1)
    unfolding fx_in fx_at
    taken_on s p r f k w g e o =
        let q = passed s p r w g.before in
        let l = q.from in
        let n = g.fits in
        let z : f.place ≡ r - lo = ap (λ (x : Fx). x.place) e in
        let y : f.place + 1 ≡ r + 1 - lo = omega arith in
        let d = step_taken s (r - lo) (bar r) (bar (r + 1)) (bar (r + 2)) (timed (last_mark s) r ∙ g.here) in
        on s (Some k) r q n (ap Some o ∙ ap (λ (x : Fx). Some (take_on s x)) e ∙ d)
        (subst (λ (x : ℕ). Small k x) y (subst (λ (x : Scan). Small x (f.place + 1)) (sym o) (small_take s f (small_here s p r f w g e) (omega arith))))

    near_in : (o : Option Best) (n b i : ℕ) → IfSome o (BestFits n b i) → (0 < i → i + 1 < N - lo) → IfSome o (λ b. b.end.place + 2 < N - lo)
    near_in None n b i h l = tt
    near_in (Some x) n b i h l = let q = h.near in omega (arith, l (omega arith))

    fits : (s : Option Scan) (p : ℕ) → Standing s p → ScanFits s (N - lo)
    fits None p w = tt
    fits (Some s) p w =
        let f = w.from in
        let e = p - lo in
        record { small = upto w.small (omega arith); best = near_in s.best s.count s.start.place (p - lo) w.small.best (λ h. omega (arith, w.within (omega arith))) }
      where
        upto : Small s (p - lo) → p - lo ≤ p - lo → Small s (N - lo)
        upto h q = small_on (Some s) (p - lo) (N - lo) (reach w.from (ltb lo p) refl) (omega arith) h
          where
            reach : lo ≤ p → (b : Bool) → ltb lo p ≡ b → p - lo ≤ N - lo
            reach f true x = omega (arith, w.within (ltb-true lo p x))
            reach f false x = omega (arith, ltb-false lo p x)

    -- no window is left to take
    few : (i : ℕ) (s : Option Scan) (v : List Candle) → length v ≤ 2 → scan_from i s v ≡ s
    unfolding scan_from
    few i s [] h = refl
    few i s (a ∷ []) h = refl
    few i s (a ∷ b ∷ []) h = refl
    few i s (a ∷ b ∷ c ∷ v) h = absurd (omega arith)

    ended : (s : Option Scan) (p : ℕ) → Standing s p → N ≤ p + 2 → (s ≡ scan_of scanned) × ScanFits s (N - lo)
    ended s p w h = let f = w.from in (sym (few (p - lo) s (drop (p - lo) scanned) (omega (arith, rest))) ∙ w.goes, fits s p w)
      where
        rest : length (drop (p - lo) scanned) ≡ N - lo - (p - lo)
        rest = length-drop (p - lo) scanned ∙ ap (λ (k : ℕ). k - (p - lo)) long

    pub all_seen : (s : Option Scan) (p : ℕ) → Standing s p → NextIn (taken_at ps (last_mark s)) N p None → (s ≡ scan_of scanned) × ScanFits s (N - lo)
    all_seen s p w g = by (ltb (p + 2) N) refl
      where
        by : (b : Bool) → ltb (p + 2) N ≡ b → (s ≡ scan_of scanned) × ScanFits s (N - lo)
        by true q =
            let x = ltb-true (p + 2) N q in
            ended s (N - 2) (passed s p (N - 2) w (record { from = omega arith; within = λ h. omega arith; none = λ j h k. g j h (omega arith) })) (omega arith)
        by false q = ended s p w (ltb-false (p + 2) N q)
