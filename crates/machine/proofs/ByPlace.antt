-- With rising times the search by place is the Rust's search by time.
-- Assumes nothing.
use Prim.Native.Nat.{ℕ, suc, ◌+◌, ◌-◌, ◌≤◌}
use native.Mathlib.Omega.{arith}
use mathlib.Core.Path.{◌≡◌, refl, ap, sym, ◌∙◌}
use mathlib.Core.Bool.{Bool, true, false, not, ◌&&◌}
use mathlib.Core.List.{List, [], ◌∷◌, map}
use mathlib.Core.Option
use mathlib.Core.Option.{Option, none, some}
use lib.ListN.{length, take, drop}
use lib.Seq.{drop-drop}
use lib.IntN.{ℤ, pos}
use lib.Signed.{le_z}
use lib.Dec.{T, leb, leb→le, nleb→lt}
use lib.Ieee.{fin}
use Rattle.bars.specs.Bars.{Merged}
use Rattle.bars.specs.Lists.{All, keep_if}
use Rattle.machine.specs.Fractals.{Fractal, Placed, check_fxs, placed_after, placed_fxs}
use Rattle.machine.specs.Strokes.{Stroke, Found, candidate, end_of, start_best, fits_min, stroke_at, made_at, found_to, found_in, check_bi, cut_to, cut}
use Rattle.machine.specs.ByTime.{from, stroke_of, made_if, found_with, found_among, check_bi_by_time, cut_at, cut_by_time}
use Rattle.machine.specs.Rising.{Rising}
use Rattle.machine.specs.SearchByTime.{SearchByTime}
use Rattle.bars.proofs.Times as times
use Rattle.machine.proofs.Lists.{All-zip, All_keep}
use Rattle.machine.proofs.Places.{fractal, placed_are, Stands, Ascend, next, placed-stand, placed_ascend, ascend_from, Holds, end-all, start-all, end_along, start_along, keep_along, keep_same, rising-drop, earlier, not-later, from_place, up_to_place}

abbrev time : Merged → ℤ
time k = k.bar.time

-- ---- a stroke between two places

module _ (l : List Merged) (r : Rising l) (s e : Placed) (S : Stands l s) (E : Stands l e) (first : s.place ≤ e.place) where
  -- the end's third bar
  third : drop (suc (suc e.place)) l ≡ e.fractal.right ∷ E.after
  third =
      next l (suc e.place) e.fractal.mid (e.fractal.right ∷ E.after)
      (next l e.place e.fractal.left (e.fractal.mid ∷ e.fractal.right ∷ E.after) E.is)

  bars-same : take (e.place + 3 - s.place) (drop s.place l) ≡ keep_if (λ k. le_z k.bar.time e.fractal.right.bar.time) (from s.fractal.left.bar.time l)
  bars-same =
      let n : suc (suc e.place + 1 - s.place) ≡ e.place + 3 - s.place = omega arith in
      let m : s.place + (suc e.place + 1 - s.place) ≡ suc (suc e.place) = omega arith in
      let p : Merged → Bool = λ k. le_z k.bar.time e.fractal.right.bar.time in
      ap (λ (k : ℕ). take k (drop s.place l)) (sym n)
      ∙ sym (up_to_place (drop s.place l) (suc e.place + 1 - s.place) e.fractal.right E.after (rising-drop l s.place r)
      (drop-drop (suc e.place + 1 - s.place) s.place l ∙ ap (λ (k : ℕ). drop k l) m ∙ third))
      ∙ ap (keep_if p) (sym (from_place l s.place s.fractal.left (s.fractal.mid ∷ s.fractal.right ∷ S.after) r S.is))

  same_test : (a b c : Bool) → T a → (T c → T b) → (T (not c) → T (not b)) → c ≡ (a && b)
  same_test true true true h k j = refl
  same_test true true false h k j = absurd (j tt)
  same_test true false true h k j = absurd (k tt)
  same_test true false false h k j = refl
  same_test false b c h k j = absurd h

  -- a fractal's time is from the start's first to the end's third bar where it is centred on one of the stroke's bars
  range_same : (f : Placed) → Stands l f → s.place ≤ f.place
      → leb f.place (e.place + 1)
      ≡ (le_z s.fractal.left.bar.time f.fractal.mid.bar.time && le_z f.fractal.mid.bar.time e.fractal.right.bar.time)
  range_same f F h =
      let mid = next l f.place f.fractal.left (f.fractal.mid ∷ f.fractal.right ∷ F.after) F.is in
      same_test (le_z (time s.fractal.left) (time f.fractal.mid)) (le_z (time f.fractal.mid) (time e.fractal.right)) (leb f.place (e.place + 1))
      (not-later l s.place (suc f.place) s.fractal.left f.fractal.mid (s.fractal.mid ∷ s.fractal.right ∷ S.after) (f.fractal.right ∷ F.after) r (omega arith) S.is mid)
      (λ y. not-later l (suc f.place) (suc (suc e.place)) f.fractal.mid e.fractal.right (f.fractal.right ∷ F.after) E.after r
      (omega (arith, leb→le f.place (e.place + 1) y)) mid third)
      (λ n. times.lt_not_le (time f.fractal.mid) (time e.fractal.right)
      (earlier l (suc (suc e.place)) (suc f.place) e.fractal.right f.fractal.mid E.after (f.fractal.right ∷ F.after) r
      (omega (arith, nleb→lt f.place (e.place + 1) n)) third mid))

  pub stroke-same : (fs : List Placed) → All (Stands l) fs → All (λ f. s.place ≤ f.place) fs → stroke_at l fs s e ≡ stroke_of l (map fractal fs) s.fractal e.fractal
  unfolding stroke_at stroke_of
  stroke-same fs a h =
      let p : Fractal → Bool = λ f. le_z s.fractal.left.bar.time f.mid.bar.time && le_z f.mid.bar.time e.fractal.right.bar.time in
      let q = keep_same (λ f. leb f.place (e.place + 1)) (λ f. p f.fractal) fs (All-zip fs (λ f F k. range_same f F k) a h) in
      let k : map fractal (keep_if (λ f. leb f.place (e.place + 1)) fs) ≡ keep_if p (map fractal fs) = ap (map fractal) q ∙ keep_along fractal p fs in
      λ i. record { start = s.fractal; end = e.fractal; fractals = k i; bars = bars-same i }

-- ---- what is found

rest-same : (l : List Merged) → Rising l → (e : Placed) → Stands l e → drop e.place l ≡ from (time e.fractal.left) l
rest-same l r e E = sym (from_place l e.place e.fractal.left (e.fractal.mid ∷ e.fractal.right ∷ E.after) r E.is)

made-same : (t : Bool) (l : List Merged) (e : Placed) (b : Stroke) → drop e.place l ≡ from b.end.left.bar.time l → made_at t l e b ≡ made_if t l b
unfolding made_at made_if
made-same true l e b h = λ i. record { stroke = some b; rest = h i }
made-same false l e b h = refl

found-same : (minimum : ℕ) (l : List Merged) → Rising l → (fs : List Placed) (s : Placed) (o : Option Placed)
    → Holds (λ e. Stands l e × (stroke_at l fs s e ≡ stroke_of l (map fractal fs) s.fractal e.fractal)) o
    → found_to minimum l fs s o ≡ found_with minimum l (map fractal fs) s.fractal (Option.map fractal o)
unfolding found_to found_with stroke_at
found-same minimum l r fs s none h = refl
found-same minimum l r fs s (some e) h =
    made-same (fits_min minimum (stroke_at l fs s e)) l e (stroke_at l fs s e) (rest-same l r e h.0) ∙ ap (λ (b : Stroke). made_if (fits_min minimum b) l b) h.1

among_same : (minimum : ℕ) (l : List Merged) → Rising l → (n : ℕ) (fs : List Placed) → All (Stands l) fs → Ascend 0 n fs → found_in minimum l fs ≡ found_among minimum l (map fractal fs)
unfolding found_in found_among
among_same minimum l r n [] a h = refl
among_same minimum l r n (s ∷ fs) a h =
    let from-s : All (λ f. s.place ≤ f.place) (s ∷ fs) = ascend_from s.place n (s ∷ fs) (omega arith, h.1, h.2) in
    let c : Placed → Bool = λ f. candidate s.fractal f.fractal in
    let P : Placed → Type 0 = λ e. Stands l e × (stroke_at l (s ∷ fs) s e ≡ stroke_of l (map fractal (s ∷ fs)) s.fractal e.fractal) in
    found-same minimum l r (s ∷ fs) s (end_of fractal (keep_if c (s ∷ fs)))
    (end-all P fractal (keep_if c (s ∷ fs)) (All_keep P c (s ∷ fs) (All-zip (s ∷ fs) (λ e E k. (E, stroke-same l r s e a.0 E k (s ∷ fs) a from-s)) a from-s)))
    ∙ ap (found_with minimum l (map fractal (s ∷ fs)) s.fractal) (end_along fractal (keep_if c (s ∷ fs)) ∙ ap (end_of (λ f. f)) (keep_along fractal (candidate s.fractal) (s ∷ fs)))

pub by_place : (minimum : ℕ) (l : List Merged) → Rising l → check_bi minimum l ≡ check_bi_by_time minimum l
unfolding check_bi check_bi_by_time placed_fxs check_fxs
by_place minimum l r =
    among_same minimum l r (length l) (placed_after none 0 l) (placed-stand l none 0 l refl) (placed_ascend l none 0 l refl) ∙ ap (found_among minimum l) (placed_are none 0 l)

-- ---- the cut

cut-same : (l : List Merged) → Rising l → (fs : List Placed) → All (Stands l) fs → cut_to l fs ≡ cut_at l (map fractal fs)
unfolding cut_to cut_at
cut-same l r [] a = refl
cut-same l r (f ∷ fs) a =
    rest-same l r (start_best fractal f fs) (start-all (Stands l) fractal f fs a.0 a.1) ∙ ap (λ (z : Fractal). from (time z.left) l) (start_along fractal f fs)

pub cut_by_place : (l : List Merged) → Rising l → cut l ≡ cut_by_time l
unfolding cut cut_by_time placed_fxs check_fxs
cut_by_place l r = cut-same l r (placed_after none 0 l) (placed-stand l none 0 l refl) ∙ ap (cut_at l) (placed_are none 0 l)

-- the search by place is the Rust's
pub search_by_time : SearchByTime
search_by_time = record { stroke = by_place; cut = cut_by_place }

-- ---- rising times are needed

kline : ℤ → ℕ → ℕ → Merged
kline t h l =
    let x = fin false h (pos 0) in
    let y = fin false l (pos 0) in
    record { bar = record { time = t; id = pos 0; «open» = y; close = x; high = x; low = y; vol = y; amount = y }; elements = [] }

-- document 01's instance 8, its last bar with the time of the third
folded : List Merged
folded =
    kline (pos 1) 12 10 ∷ kline (pos 2) 10 8 ∷ kline (pos 3) 11 9 ∷ kline (pos 4) 13 11 ∷ kline (pos 5) 15 13 ∷ kline (pos 6) 17 15 ∷ kline (pos 3) 16 14 ∷ []

-- by place seven bars make a stroke, by time there are four
by_place-made : length (check_bi 7 folded).rest ≡ 3
unfolding check_bi folded kline
by_place-made = refl

by_time-none : length (check_bi_by_time 7 folded).rest ≡ 7
unfolding check_bi_by_time folded kline
by_time-none = refl

pub rising_needed : ((minimum : ℕ) (l : List Merged) → check_bi minimum l ≡ check_bi_by_time minimum l) → ⊥
rising_needed h = omega (arith, by_place-made, by_time-none, ap (λ (f : Found). length f.rest) (h 7 folded))
