-- The traps of document 01 around strokes, each with a short run on which the wrong step shows. Bars are time, high, low; a stroke is told by the times of its
-- start and its end; then come the times of the unfinished bars. Computed.
use Rattle.std.specs.Prelude.{ℕ, ◌≡◌, refl, List, [], ◌∷◌, map, ℤ, pos}
use Rattle.bars.specs.declared.Bar.{Bar}
use Rattle.machine.specs.Fractals.{time_of}
use Rattle.machine.specs.Calls.{calls}
use Rattle.machine.specs.Unsound.{bar}

pub record Told : Type 0 where
  pub events : ℕ × ℕ × ℕ
  pub strokes : List (ℤ × ℤ)
  pub unfinished : List ℤ

-- what the calls leave, with this minimum and this most
unfoldable pub told : ℕ → ℕ → List Bar → Told
unfolding calls time_of
told minimum most bs =
    let s = calls (record { minimum = minimum; most = most; raw_room = 64; unfinished_room = 64; stroke_room = 64; power_places = 2; ratio_places = 4 }) bs in
    record {
      events = (s.events.made, s.events.broken, s.events.shed);
      strokes = map (λ b. (time_of b.start, time_of b.end)) s.state.strokes;
      unfinished = map (λ k. k.bar.time) s.state.unfinished;
    }

pub record Traps : Type 0 where
  -- The first of tied extremes is the end: the stroke from 2 to 3 is too short, and the one from 2 to 5 is not looked at.
  pub first-end : told 5 50 (bar 1 4 2 ∷ bar 2 9 6 ∷ bar 3 3 1 ∷ bar 4 5 3 ∷ bar 5 4 1 ∷ bar 6 8 6 ∷ [])
      ≡ record { events = (0, 0, 0); strokes = []; unfinished = pos 1 ∷ pos 2 ∷ pos 3 ∷ pos 4 ∷ pos 5 ∷ pos 6 ∷ [] }
  -- The last of tied extremes is the start: the bars are cut to begin before 4, and the cut stays though no stroke is made.
  pub last-start : told 5 50 (bar 1 4 3 ∷ bar 2 2 1 ∷ bar 3 3 3 ∷ bar 4 2 1 ∷ bar 5 5 3 ∷ []) ≡ record { events = (0, 0, 0); strokes = []; unfinished = pos 3 ∷ pos 4 ∷ pos 5 ∷ [] }
  -- Fewer than 3 unfinished bars: nothing, though the last is below the stroke's low.
  pub fewer_than_3 : told 1 50 (bar 1 7 3 ∷ bar 2 12 10 ∷ bar 3 4 3 ∷ bar 4 11 7 ∷ bar 4 4 1 ∷ [])
      ≡ record { events = (1, 0, 0); strokes = (pos 2, pos 3) ∷ []; unfinished = pos 2 ∷ pos 4 ∷ [] }
  -- The last unfinished bar breaks the stroke.
  pub last-breaks : told 5 50 (bar 1 7 5 ∷ bar 2 1 1 ∷ bar 3 6 4 ∷ bar 4 8 6 ∷ bar 5 5 2 ∷ bar 6 9 6 ∷ [])
      ≡ record { events = (1, 1, 0); strokes = []; unfinished = pos 1 ∷ pos 2 ∷ pos 3 ∷ pos 4 ∷ pos 5 ∷ pos 6 ∷ [] }
  -- No other unfinished bar does: that of time 7 is below the low of the stroke from 2 to 4.
  pub others_do_not : told 5 50 (bar 1 11 7 ∷ bar 2 14 10 ∷ bar 3 11 9 ∷ bar 4 9 6 ∷ bar 5 10 9 ∷ bar 6 4 1 ∷ bar 7 2 1 ∷ bar 8 12 9 ∷ [])
      ≡ record { events = (2, 1, 0); strokes = (pos 2, pos 4) ∷ []; unfinished = pos 3 ∷ pos 4 ∷ pos 5 ∷ pos 7 ∷ pos 8 ∷ [] }
  -- No break test follows where no stroke was kept: the bar of time 7 makes the stroke from 2 to 4 and is above its high.
  pub first-stroke : told 5 50 (bar 1 7 3 ∷ bar 2 4 1 ∷ bar 3 6 6 ∷ bar 4 11 9 ∷ bar 5 2 2 ∷ bar 6 13 10 ∷ bar 7 13 8 ∷ [])
      ≡ record { events = (2, 1, 0); strokes = (pos 2, pos 4) ∷ []; unfinished = pos 3 ∷ pos 4 ∷ pos 5 ∷ pos 7 ∷ [] }
  -- With a replaced bar neighbours need not meet: the first stroke ends at 3, the bar that comes again at 4 is lower, and the next starts there.
  pub need_not-meet : told 1 50 (bar 1 3 1 ∷ bar 2 5 4 ∷ bar 3 2 2 ∷ bar 4 8 7 ∷ bar 4 5 1 ∷ bar 5 6 5 ∷ bar 6 2 1 ∷ [])
      ≡ record { events = (2, 0, 0); strokes = (pos 2, pos 3) ∷ (pos 4, pos 5) ∷ []; unfinished = pos 4 ∷ pos 5 ∷ pos 6 ∷ [] }
  -- The oldest stroke beyond the most is shed.
  pub oldest_shed : told 1 1 (bar 1 9 7 ∷ bar 2 5 3 ∷ bar 3 12 10 ∷ bar 4 6 4 ∷ bar 5 14 12 ∷ [])
      ≡ record { events = (2, 0, 1); strokes = (pos 3, pos 4) ∷ []; unfinished = pos 3 ∷ pos 4 ∷ pos 5 ∷ [] }

pub traps : Traps
unfolding told bar
traps = record { first-end = refl; last-start = refl; fewer_than_3 = refl; last-breaks = refl; others_do_not = refl; first-stroke = refl; need_not-meet = refl; oldest_shed = refl }
