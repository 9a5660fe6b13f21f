-- Marked instances 8, 9 and 11 with the same number taken from every price, so that they lie below zero, across it, and on it: computed, as Marked is. The Rust answers the
-- same (oracle/marked).
use Rattle.std.specs.Prelude.{ℕ, ◌≡◌, refl, List, [], ◌∷◌, ◌++◌, map, pos, Float}
use Rattle.std.specs.Float.{binary64}
use Rattle.std.specs.Float.Ieee.{neg, sub}
use Rattle.bars.specs.declared.Bar.{Bar}
use Rattle.bars.specs.Bars.{own}
use Rattle.machine.specs.declared.Mark.{Mark}
use Rattle.machine.specs.declared.Mark.TheVariants.{D, G}
use Rattle.machine.specs.declared.Direction.TheVariants.{Up}
use Rattle.machine.specs.Fractals.{Fractal}
use Rattle.machine.specs.Feed.{Step}
use Rattle.reports.specs.Measures.{change, measures_of}
use Rattle.zones.specs.declared.Summary.{Summary}
use Rattle.zones.specs.Zones.{get_zs_seq}
use Rattle.instances.specs.Marked.{num, ratio, candle, bar, between, first, fed, events, ways, sizes, ranges, edges}

-- ---- how the instances are moved

unfoldable pub taken : ℕ → Float → Float
unfolding sub num
taken k x = sub binary64 x (num k)

unfoldable pub lowered : ℕ → Bar → Bar
unfolding taken
lowered k b =
    record {
      time = b.time;
      id = b.id;
      «open» = taken k b.«open»;
      close = taken k b.close;
      high = taken k b.high;
      low = taken k b.low;
      vol = b.vol;
      amount = b.amount;
    }

unfoldable pub lowered_range : ℕ → Summary → Summary
unfolding taken
lowered_range k s = record { direction = s.direction; high = taken k s.high; low = taken k s.low; began = s.began; ended = s.ended }

-- instance 8, and with one more bar, minimum 7, with k taken from every price
unfoldable pub eight_less : ℕ → Step
unfolding lowered first fed
eight_less k = fed 7 (map (lowered k) first)

unfoldable pub nine_less : ℕ → Bar → Step
unfolding lowered first fed
nine_less k b = fed 7 (map (lowered k) (first ++ b ∷ []))

-- high and low of each kept stroke
unfoldable pub reach : Step → List (Float × Float)
unfolding measures_of
reach s = map (λ b. let m = measures_of 2 4 s.state.raw b in (m.high, m.low)) s.state.strokes

-- a fractal of one price
unfoldable pub fractal_at : Mark → Float → Fractal
unfolding own candle
fractal_at m x = record { mark = m; left = own (candle 1 x x); mid = own (candle 1 x x); right = own (candle 1 x x) }

-- ---- the table

pub record MovedMarked : Type 0 where
  -- 20 taken, below zero: the same stroke, from -12 to -3; its change is 9 / -12
  pub below : events (eight_less 20) ≡ (1, 0, 0)
  pub below-stroke : ways (eight_less 20) ≡ (Up, pos 2, pos 6) ∷ []
  pub below-reach : reach (eight_less 20) ≡ (neg (num 3), neg (num 12)) ∷ []
  pub below-sizes : sizes (eight_less 20) ≡ (7, num 9, neg (ratio 3 4), num 5, ratio 9 10) ∷ []
  -- 12 taken, across zero: from -4 to 5; its change is 9 / -4
  pub across : ways (eight_less 12) ≡ (Up, pos 2, pos 6) ∷ []
  pub across-reach : reach (eight_less 12) ≡ (num 5, neg (num 4)) ∷ []
  pub across-sizes : sizes (eight_less 12) ≡ (7, num 9, neg (ratio 9 4), num 5, ratio 9 10) ∷ []
  -- 8 taken, from zero: its change is 0.0
  pub from_zero_lem : ways (eight_less 8) ≡ (Up, pos 2, pos 6) ∷ []
  pub from-zero-reach : reach (eight_less 8) ≡ (num 9, num 0) ∷ []
  pub from-zero-sizes : sizes (eight_less 8) ≡ (7, num 9, num 0, num 5, ratio 9 10) ∷ []
  -- instance 9: 18/16 breaks the stroke, 17/16 does not
  pub below-broken : events (nine_less 20 (bar 8 18 16)) ≡ (1, 1, 0)
  pub below-kept : events (nine_less 20 (bar 8 17 16)) ≡ (1, 0, 0)
  pub across-broken : events (nine_less 12 (bar 8 18 16)) ≡ (1, 1, 0)
  pub across-kept : events (nine_less 12 (bar 8 17 16)) ≡ (1, 0, 0)
  -- up from -10 to -5: -0.5; down from -5 to -10: 1.0
  pub rise-below : change 4 (between (fractal_at D (neg (num 10))) (fractal_at G (neg (num 5)))) ≡ neg (ratio 1 2)
  pub fall_below : change 4 (between (fractal_at G (neg (num 5))) (fractal_at D (neg (num 10)))) ≡ num 1
  -- instance 11 with 13 and with 20 taken: zg, zd and zz
  pub zone-across : edges (get_zs_seq (map (lowered_range 13) ranges)) ≡ (num 2, neg (num 1), ratio 1 2) ∷ []
  pub zone-below : edges (get_zs_seq (map (lowered_range 20) ranges)) ≡ (neg (num 5), neg (num 8), neg (ratio 13 2)) ∷ []

pub moved_marked : MovedMarked
unfolding taken lowered lowered_range eight_less nine_less reach fractal_at num ratio candle bar between first fed events ways sizes ranges edges own neg sub change measures_of get_zs_seq
moved_marked =
    record {
      below = refl;
      below-stroke = refl;
      below-reach = refl;
      below-sizes = refl;
      across = refl;
      across-reach = refl;
      across-sizes = refl;
      from_zero_lem = refl;
      from-zero-reach = refl;
      from-zero-sizes = refl;
      below-broken = refl;
      below-kept = refl;
      across-broken = refl;
      across-kept = refl;
      rise-below = refl;
      fall_below = refl;
      zone-across = refl;
      zone-below = refl;
    }
