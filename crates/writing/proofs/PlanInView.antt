-- The bars that a plan leaves begin inside the view that it was made of. Assumes nothing.
use Prim.Native.Nat.{ℕ, ◌+◌, ◌≤◌}
use native.Mathlib.Omega.{arith}
use mathlib.Core.Bool.{Bool, true, false, not, ◌&&◌}
use mathlib.Core.List.{List, [], ◌∷◌}
use lib.ListN.{length, drop, length-drop}
use lib.Dec.{leb, ltb}
use Rattle.std.specs.Prelude.{Option, Some, None, IfSome}
use Rattle.machine.specs.declared.Mark.TheVariants.{D, G}
use Rattle.machine.specs.Fractals.{same_mark, beyond}
use Rattle.check_bi.specs.declared.check_fx.Candle.{Candle}
use Rattle.check_bi.specs.declared.check_fx.Fx.{Fx}
use Rattle.check_bi.specs.declared.scan.Best.{Best}
use Rattle.check_bi.specs.declared.scan.Scan.{Scan}
use Rattle.check_bi.specs.declared.scan.FoundBi.{FoundBi}
use Rattle.check_bi.specs.Code.Scan.{value_of, fx_at, cut_with, closes_of, grown, best_if_new, best_with, put_of, opened_of, take_if, take_of, top_of, bottom_of, step_if, step_of, scan_from, scan_of, cut_place, holds_of, bars_to, found_if, found_by, found_of, found_on, found_from}
use Rattle.check_bi.proofs.ScanViews.{best-place}
use Rattle.asking.specs.declared.plan.Last.{Last}
use Rattle.asking.specs.Code.FeedPlan.{cut_of, end_in, breaks_of, last_with, kept_of, broken_if, broken_of, join_of, times_of, last_candle, plan_first, plan_later, plan_if, plan_of}
use Rattle.writing.specs.Code.WriteSteps.{rest_of}

-- ---- what a scan keeps lies among the windows that it has seen

abbrev EndBy : ℕ → Option Best → Type 0
EndBy i o = IfSome o (λ b. b.end.place ≤ i)

record Within (i : ℕ) (s : Scan) : Type 0 where
  best_in : EndBy i s.best
  cut_in : s.cut.place ≤ i

new-in : (t : Bool) (o : Option Best) (n i : ℕ) (f : Fx) → f.place ≤ i → EndBy i o → EndBy i (best_if_new t o n f)
unfolding best_if_new grown
new-in true o n i f h k = h
new-in false None n i f h k = tt
new-in false (Some b) n i f h k = k

put_in : (s : Scan) (f : Fx) (i : ℕ) → f.place ≤ i → Within i s → Within i (put_of s f)
unfolding put_of best_with cut_with
put_in s f i h w =
    record {
      best_in = new-in (closes_of s f) s.best (s.count + 1) i f h w.best_in;
      cut_in = best-place (same_mark s.cut.mark f.mark && not (beyond s.cut.mark (value_of s.cut) (value_of f))) f s.cut i h w.cut_in;
    }

mark_in : (t : Bool) (s : Scan) (f : Fx) (i : ℕ) → f.place ≤ i → Within i s → Within i (take_if t s f)
unfolding take_if
mark_in true s f i h w = w
mark_in false s f i h w = put_in s f i h w

take_in : (s : Option Scan) (f : Fx) (i : ℕ) → f.place ≤ i → IfSome s (Within i) → IfSome (take_of s f) (Within i)
unfolding take_of opened_of
take_in None f i h w = record { best_in = tt; cut_in = h }
take_in (Some s) f i h w = mark_in (same_mark s.last f.mark) s f i h w

step_in : (t u : Bool) (s : Option Scan) (i : ℕ) (b : Candle) → IfSome s (Within i) → IfSome (step_if t u s i b) (Within i)
unfolding step_if fx_at
step_in true u s i b w = take_in s (fx_at i G b) i (omega arith) w
step_in false true s i b w = take_in s (fx_at i D b) i (omega arith) w
step_in false false s i b w = w

best-wider : (o : Option Best) (i j : ℕ) → i ≤ j → EndBy i o → EndBy j o
best-wider None i j h w = tt
best-wider (Some b) i j h w = omega (arith, w)

wider : (s : Option Scan) (i j : ℕ) → i ≤ j → IfSome s (Within i) → IfSome s (Within j)
wider None i j h w = tt
wider (Some s) i j h w = record { best_in = best-wider s.best i j h w.best_in; cut_in = omega (arith, w.cut_in) }

scan_in : (l : List Candle) (i : ℕ) (s : Option Scan) → IfSome s (Within i) → IfSome (scan_from i s l) (Within (i + length l))
unfolding scan_from step_of
scan_in [] i s w = wider s i (i + 0) (omega arith) w
scan_in (a ∷ []) i s w = wider s i (i + length (a ∷ [])) (omega arith) w
scan_in (a ∷ b ∷ []) i s w = wider s i (i + length (a ∷ b ∷ [])) (omega arith) w
scan_in (a ∷ b ∷ c ∷ l) i s w =
    let r = step_if (top_of a b c) (bottom_of a b c) s i b in
    wider (scan_from (i + 1) r (b ∷ c ∷ l)) (i + 1 + length (b ∷ c ∷ l)) (i + length (a ∷ b ∷ c ∷ l)) (omega arith)
    (scan_in (b ∷ c ∷ l) (i + 1) r (wider r i (i + 1) (omega arith) (step_in (top_of a b c) (bottom_of a b c) s i b w)))

scan_within : (v : List Candle) → IfSome (scan_of v) (Within (length v))
unfolding scan_of
scan_within v = wider (scan_from 0 None v) (0 + length v) (length v) (omega arith) (scan_in v 0 None tt)

-- ---- the plan

cut_within : (s : Option Scan) (n : ℕ) → IfSome s (Within n) → cut_place s ≤ n
unfolding cut_place
cut_within None n w = omega arith
cut_within (Some s) n w = w.cut_in

found_if_lem : (t : Bool) (s : Scan) (b : Best) (n : ℕ) → b.end.place ≤ n → end_in (found_if t s b) ≤ n
unfolding found_if end_in
found_if_lem true s b n h = h
found_if_lem false s b n h = omega arith

found_by_lem : (minimum : ℕ) (s : Scan) (o : Option Best) (n : ℕ) → EndBy n o → end_in (found_by minimum s o) ≤ n
unfolding found_by end_in
found_by_lem minimum s None n h = omega arith
found_by_lem minimum s (Some b) n h = found_if_lem (leb minimum (bars_to s b.end) && not (holds_of s.start b.end)) s b n h

found_on_lem : (minimum : ℕ) (s : Option Scan) (n : ℕ) → IfSome s (Within n) → end_in (found_on minimum s) ≤ n
unfolding found_on found_of end_in
found_on_lem minimum None n w = omega arith
found_on_lem minimum (Some s) n w = found_by_lem minimum s s.best n w.best_in

found_in_lem : (minimum lo : ℕ) (v : List Candle) → end_in (found_from minimum lo v) ≤ length (drop lo v)
unfolding found_from
found_in_lem minimum lo v = found_on_lem minimum (scan_of (drop lo v)) (length (drop lo v)) (scan_within (drop lo v))

broken-rest : (t : Bool) (o : Option FoundBi) (b : Last) (j n total : ℕ) → end_in o ≤ n → rest_of (broken_if t o b j total) ≤ n
unfolding broken_if kept_of rest_of
broken-rest true o b j n total h = omega arith
broken-rest false o b j n total h = omega arith

plan_by : (few : Bool) (minimum : ℕ) (z : Option Last) (v : List Candle) → rest_of (plan_if few minimum z v (length v)) ≤ length v
unfolding plan_if plan_first plan_later kept_of end_in rest_of cut_of broken_of
plan_by true minimum z v = omega arith
plan_by false minimum None v =
    let c = cut_place (scan_of v) in
    let a = cut_within (scan_of v) (length v) (scan_within v) in
    let b = found_in_lem minimum c v in
    omega (arith, length-drop c v)
plan_by false minimum (Some z) v =
    let f = found_from minimum 0 v in
    let w = last_with f z in
    broken-rest (breaks_of w (last_candle v (length v))) f w (join_of f w (times_of v)) (length v) (length v) (found_in_lem minimum 0 v)

pub rest_in-view : (minimum : ℕ) (z : Option Last) (v : List Candle) → rest_of (plan_of minimum z v) ≤ length v
unfolding plan_of
rest_in-view minimum z v = plan_by (ltb (length v) 3) minimum z v
