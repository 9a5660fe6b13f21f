-- The search for a stroke in one pass over the bars, which keeps the fractals that matter by their places and what is asked of them. That it is check_bi
-- and the first stroke's cut is a theorem of proofs/. Definitions only.
use Rattle.std.specs.Prelude.{ℕ, ◌+◌, ◌-◌, ◌≤◌, ◌<◌, Bool, true, false, not, ◌&&◌, ◌||◌, List, [], ◌∷◌, drop, leb, Float, Option, Some, None, IfSome}
use Rattle.std.specs.Int.Signed.{lt_z}
use Rattle.std.specs.Float.Ieee.{lt}
use Rattle.bars.specs.Bars.{Merged}
use Rattle.machine.specs.declared.Mark.{Mark}
use Rattle.machine.specs.declared.Mark.TheVariants.{D, G}
use Rattle.check_bi.specs.declared.check_fx.Candle.{Candle}
use Rattle.check_bi.specs.declared.check_fx.Fx.{Fx}
use Rattle.check_bi.specs.declared.scan.Best.{Best}
use Rattle.check_bi.specs.declared.scan.Scan.{Scan}
use Rattle.check_bi.specs.declared.scan.FoundBi.{FoundBi}
use Rattle.machine.specs.Fractals.{Placed, same_mark, beyond}
use Rattle.machine.specs.Strokes.{best_if}

-- ---- what is read of bars and of fractals

unfoldable pub candle_of : Merged → Candle
candle_of k = record { time = k.bar.time; high = k.bar.high; low = k.bar.low }

-- the fractal of mark m whose first bar is at place i and whose middle bar is b
unfoldable pub fx_at : ℕ → Mark → Candle → Fx
fx_at i m b = record { place = i; mark = m; time = b.time; high = b.high; low = b.low }

unfoldable pub fx_placed : Placed → Fx
unfolding fx_at candle_of
fx_placed f = fx_at f.place f.fractal.mark (candle_of f.fractal.mid)

-- fx: a top's high, a bottom's low
unfoldable pub value_in : Mark → Float → Float → Float
value_in D h l = l
value_in G h l = h

unfoldable pub value_of : Fx → Float
unfolding value_in
value_of f = value_in f.mark f.high f.low

-- ---- a window

unfoldable pub top_of : Candle → Candle → Candle → Bool
unfolding lt
top_of a b c = (lt a.high b.high && lt c.high b.high) && (lt a.low b.low && lt c.low b.low)

unfoldable pub bottom_of : Candle → Candle → Candle → Bool
unfolding lt
bottom_of a b c = (lt b.low a.low && lt b.low c.low) && (lt b.high a.high && lt b.high c.high)

unfoldable pub fractal_of : Candle → Candle → Candle → Bool
unfolding top_of bottom_of
fractal_of a b c = top_of a b c || bottom_of a b c

-- a fractal's mark, by whether it is a top
unfoldable pub mark_if : Bool → Mark
mark_if true = G
mark_if false = D

-- whether it is a fractal of the other mark than m
unfoldable pub other_of : Mark → Candle → Candle → Candle → Bool
unfolding top_of bottom_of
other_of D a b c = top_of a b c
other_of G a b c = bottom_of a b c

-- the mark of the fractal that they form, if they form one: by whether it is a top, and whether it is a bottom
unfoldable pub mark_by : Bool → Bool → Option Mark
mark_by true u = Some G
mark_by false true = Some D
mark_by false false = None

unfoldable pub mark_of : Candle → Candle → Candle → Option Mark
unfolding mark_by top_of bottom_of
mark_of a b c = mark_by (top_of a b c) (bottom_of a b c)

-- whether a scan takes it: any fractal if it has taken none, or else one of the other mark than the last one's
unfoldable pub taken_of : Option Mark → Candle → Candle → Candle → Bool
unfolding fractal_of other_of
taken_of None a b c = fractal_of a b c
taken_of (Some k) a b c = other_of k a b c

-- ---- a fractal that is taken

-- it has the other mark than the start, a later time, and is strictly beyond it
unfoldable pub candidate_of : Fx → Fx → Bool
unfolding same_mark beyond value_of
candidate_of s f = not (same_mark s.mark f.mark) && (lt_z s.time f.time && beyond f.mark (value_of f) (value_of s))

-- the most extreme of the first one's mark, the last if tied
unfoldable pub cut_with : Fx → Fx → Fx
unfolding best_if same_mark beyond value_of
cut_with a f = best_if (same_mark a.mark f.mark && not (beyond a.mark (value_of a) (value_of f))) f a

-- whether it becomes the end: by whether it is a candidate, and whether it is beyond the end so far, if there is one
unfoldable pub closes_if : Bool → Option Best → Fx → Bool
unfolding beyond value_of
closes_if true (Some b) f = beyond f.mark (value_of f) (value_of b.end)
closes_if true None f = true
closes_if false o f = false

unfoldable pub closes_of : Scan → Fx → Bool
unfolding closes_if candidate_of
closes_of s f = closes_if (candidate_of s.start f) s.best f

-- how many fractals the stroke so far has, with one that does not become its end: by whether that lies within
unfoldable pub upto_if : Bool → ℕ → ℕ
upto_if true u = u + 1
upto_if false u = u

-- the stroke so far, with a fractal at place i that does not become its end
unfoldable pub grown : Best → ℕ → Best
unfolding upto_if
grown b i = record { end = b.end; upto = upto_if (leb i (b.end.place + 1)) b.upto }

-- by whether the n-th fractal, f, becomes the end
unfoldable pub best_if_new : Bool → Option Best → ℕ → Fx → Option Best
unfolding grown
best_if_new true o n f = Some (record { end = f; upto = n })
best_if_new false None n f = None
best_if_new false (Some b) n f = Some (grown b f.place)

unfoldable pub best_with : Scan → Fx → Option Best
unfolding best_if_new closes_of
best_with s f = best_if_new (closes_of s f) s.best (s.count + 1) f

unfoldable pub put_of : Scan → Fx → Scan
unfolding cut_with best_with
put_of s f = record { count = s.count + 1; last = f.mark; start = s.start; cut = cut_with s.cut f; best = best_with s f }

-- ---- the scan: none before the first fractal

-- the first fractal is taken
unfoldable pub opened_of : Fx → Scan
opened_of f = record { count = 1; last = f.mark; start = f; cut = f; best = None }

unfoldable pub take_on : Option Scan → Fx → Scan
unfolding opened_of put_of
take_on None f = opened_of f
take_on (Some s) f = put_of s f

-- by whether it has the mark of the last one taken
unfoldable pub take_if : Bool → Scan → Fx → Scan
unfolding put_of
take_if true s f = s
take_if false s f = put_of s f

unfoldable pub take_of : Option Scan → Fx → Option Scan
unfolding opened_of take_if same_mark
take_of None f = Some (opened_of f)
take_of (Some s) f = Some (take_if (same_mark s.last f.mark) s f)

-- the window at place i with the middle bar b: by whether it is a top, and whether it is a bottom
unfoldable pub step_if : Bool → Bool → Option Scan → ℕ → Candle → Option Scan
unfolding take_of fx_at
step_if true u s i b = take_of s (fx_at i G b)
step_if false true s i b = take_of s (fx_at i D b)
step_if false false s i b = s

unfoldable pub step_of : Option Scan → ℕ → Candle → Candle → Candle → Option Scan
unfolding step_if top_of bottom_of
step_of s i a b c = step_if (top_of a b c) (bottom_of a b c) s i b

-- the windows of these bars, of which the first stands at place i
unfoldable pub scan_from : ℕ → Option Scan → List Candle → Option Scan
unfolding step_of
scan_from i s [] = s
scan_from i s (a ∷ []) = s
scan_from i s (a ∷ b ∷ []) = s
scan_from i s (a ∷ b ∷ c ∷ l) = scan_from (i + 1) (step_of s i a b c) (b ∷ c ∷ l)

unfoldable pub scan_of : List Candle → Option Scan
unfolding scan_from
scan_of v = scan_from 0 None v

-- the mark of the last fractal that was taken
abbrev pub last_mark : Option Scan → Option Mark
last_mark None = None
last_mark (Some s) = Some s.last

-- how many fractals were taken
unfoldable pub count_of : Option Scan → ℕ
count_of None = 0
count_of (Some s) = s.count

-- the place that the first stroke's cut begins at: nothing is cut off where no fractal was taken
unfoldable pub cut_place : Option Scan → ℕ
cut_place None = 0
cut_place (Some s) = s.cut.place

-- ---- no sum of the scan wraps

-- the best candidate's place is before i, and it has no more fractals than were taken
pub record BestFits (count start i : ℕ) (b : Best) : Type 0 where
  pub within : b.upto ≤ count
  pub early : start ≤ b.end.place
  pub near : b.end.place < i

-- what was seen before place i is smaller than it
pub record Small (s : Scan) (i : ℕ) : Type 0 where
  pub few : s.count ≤ i
  pub begun : s.start.place ≤ i
  pub cut_in : s.cut.place ≤ i
  pub fits : i < 4294967296
  pub best : IfSome s.best (BestFits s.count s.start.place i)

abbrev pub SmallIf : Option Scan → ℕ → Type 0
SmallIf o i = IfSome o (λ s. Small s i)

-- a scan of so many bars: its windows lie among them
pub record ScanIn (total : ℕ) (s : Scan) : Type 0 where
  pub small : Small s total
  pub best : IfSome s.best (λ b. b.end.place + 2 < total)

abbrev pub ScanFits : Option Scan → ℕ → Type 0
ScanFits o total = IfSome o (ScanIn total)

-- ---- what is found

-- one range strictly holds the other's on both sides
unfoldable pub holds_of : Fx → Fx → Bool
unfolding lt
holds_of a b = (lt b.high a.high && lt a.low b.low) || (lt a.high b.high && lt b.low a.low)

unfoldable pub bars_to : Scan → Fx → ℕ
bars_to s e = e.place + 3 - s.start.place

unfoldable pub found_if : Bool → Scan → Best → Option FoundBi
unfolding bars_to
found_if true s b = Some (record { start = s.start; end = b.end; bars = bars_to s b.end; fractals = b.upto })
found_if false s b = None

unfoldable pub found_by : ℕ → Scan → Option Best → Option FoundBi
unfolding found_if bars_to holds_of
found_by minimum s None = None
found_by minimum s (Some b) = found_if (leb minimum (bars_to s b.end) && not (holds_of s.start b.end)) s b

unfoldable pub found_of : ℕ → Scan → Option FoundBi
unfolding found_by
found_of minimum s = found_by minimum s s.best

unfoldable pub found_on : ℕ → Option Scan → Option FoundBi
unfolding found_of
found_on minimum None = None
found_on minimum (Some s) = found_of minimum s

-- check_bi from place lo on; its places are counted from there
unfoldable pub found_from : ℕ → ℕ → List Candle → Option FoundBi
unfolding scan_of found_on
found_from minimum lo v = found_on minimum (scan_of (drop lo v))

-- a best candidate from which a stroke of fewer than 2^32 bars is made
pub record EndFits (start : ℕ) (b : Best) : Type 0 where
  pub early : start ≤ b.end.place
  pub fits : b.end.place < 4294967296

-- what was found lies in the view
pub record FoundIn (total : ℕ) (f : FoundBi) : Type 0 where
  pub rest_in : f.end.place ≤ total
  pub bars_in : f.bars ≤ total
  pub enough : 2 ≤ f.bars

abbrev pub FoundFits : Option FoundBi → ℕ → Type 0
FoundFits o total = IfSome o (FoundIn total)
