-- Document 01's zones: get_zs_seq, and ZS::new and is_valid of the source. Definitions only.
use Rattle.std.specs.Prelude.{Bool, true, false, not, ◌&&◌, ◌||◌, List, [], ◌∷◌, ◌++◌, map, take, ℤ, pos, negsuc, Float}
use Rattle.std.specs.Float.{inf, fin, binary64}
use Rattle.std.specs.Float.Ieee.{lt, le, add, sub, mul}
use Rattle.bars.specs.Lists.{every}
use Rattle.machine.specs.declared.Direction.{Direction}
use Rattle.machine.specs.declared.Direction.TheVariants.{Up, Down}
use Rattle.machine.specs.Fractals.{time_of}
use Rattle.machine.specs.Strokes.{Stroke, direction_of}
use Rattle.named.specs.Folds.{greatest, least}
use Rattle.machine.specs.Break.{high_of, low_of}
use Rattle.zones.specs.declared.Summary.{Summary}

-- what a zone reads of a stroke
unfoldable pub summary : Stroke → Summary
unfolding direction_of high_of low_of time_of
summary b =
    record {
      direction = direction_of b.start.mark;
      high = high_of b;
      low = low_of b;
      began = time_of b.start;
      ended = time_of b.end;
    }

-- ---- the edges of a zone, over the summaries of its strokes

unfoldable pub highs : List Summary → List Float
highs z = map (λ b. b.high) z

unfoldable pub lows : List Summary → List Float
lows z = map (λ b. b.low) z

-- zg is the least high and zd the greatest low of the first three strokes
unfoldable pub zg : List Summary → Float
unfolding least highs
zg z = least (highs (take 3 z))

unfoldable pub zd : List Summary → Float
unfolding greatest lows
zd z = greatest (lows (take 3 z))

-- zz = zd + (zg - zd) times 0.5
unfoldable pub zz : List Summary → Float
unfolding zd zg add sub mul
zz z = add binary64 (zd z) (mul binary64 (sub binary64 (zg z) (zd z)) (fin false 1 (negsuc 0)))

-- gg and dd span all
unfoldable pub gg : List Summary → Float
unfolding greatest highs
gg z = greatest (highs z)

unfoldable pub dd : List Summary → Float
unfolding least lows
dd z = least (lows z)

-- ---- the zones of a list of strokes

-- a stroke opens a new zone if it goes up with high < zd or down with low > zg
unfoldable pub outside : Direction → List Summary → Summary → Bool
unfolding lt zd zg
outside Up z b = lt b.high (zd z)
outside Down z b = lt (zg z) b.low

unfoldable pub opens : List Summary → Summary → Bool
unfolding outside
opens z b = outside b.direction z b

-- the zone z is finished, and b opens the next; or b joins z
unfoldable pub placed : Bool → List Summary → Summary → (List Summary → List (List Summary)) → List (List Summary)
placed true z b rest = z ∷ rest (b ∷ [])
placed false z b rest = rest (z ++ b ∷ [])

-- the zones of the strokes z and of those that follow, where z is the zone under construction
unfoldable pub grow : List Summary → List Summary → List (List Summary)
unfolding placed opens
grow z [] = z ∷ []
grow z (b ∷ bs) = placed (opens z b) z b (λ z'. grow z' bs)

-- the strokes of each zone. No strokes, no zones.
unfoldable pub zones : List Summary → List (List Summary)
unfolding grow
zones [] = []
zones (b ∷ bs) = grow (b ∷ []) bs

-- ---- is_valid

unfoldable pub within : Float → Float → Float → Bool
unfolding le
within g d x = le x g && le d x

-- the stroke's high or its low lies from zd to zg, or the stroke spans from zd to zg
unfoldable pub meets_range : Float → Float → Summary → Bool
unfolding le within
meets_range g d b = (within g d b.high || within g d b.low) || (le g b.high && le b.low d)

-- zg is not below zd, and each stroke meets the range from zd to zg
unfoldable pub is_valid : List Summary → Bool
unfolding lt zg zd every meets_range
is_valid z = not (lt (zg z) (zd z)) && every (meets_range (zg z) (zd z)) z

-- ---- a zone as it is answered

-- ZS of the source: start and end time and direction, the edges, the answer of is_valid, and the strokes by their summaries
pub record Zone : Type 0 where
  pub sdt : ℤ
  pub edt : ℤ
  pub sdir : Direction
  pub edir : Direction
  pub zg : Float
  pub zd : Float
  pub zz : Float
  pub gg : Float
  pub dd : Float
  pub valid : Bool
  pub strokes : List Summary

-- the zone of the strokes z, of which a is the first and b the last
unfoldable pub zone_with : List Summary → Summary → Summary → Zone
unfolding zg zd zz gg dd is_valid
zone_with z a b =
    record {
      sdt = a.began;
      edt = b.ended;
      sdir = a.direction;
      edir = b.direction;
      zg = zg z;
      zd = zd z;
      zz = zz z;
      gg = gg z;
      dd = dd z;
      valid = is_valid z;
      strokes = z;
    }

-- the last of a list that follows b
unfoldable pub last_from : Summary → List Summary → Summary
last_from b [] = b
last_from b (c ∷ l) = last_from c l

-- what stands for the first and the last of no strokes, which is no zone
unfoldable pub no_stroke : Summary
no_stroke = record { direction = Up; high = inf true; low = inf false; began = pos 0; ended = pos 0 }

-- ZS::new
unfoldable pub zone_of : List Summary → Zone
unfolding zone_with last_from no_stroke
zone_of [] = zone_with [] no_stroke no_stroke
zone_of (b ∷ bs) = zone_with (b ∷ bs) b (last_from b bs)

-- get_zs_seq
unfoldable pub get_zs_seq : List Summary → List Zone
unfolding zones zone_of
get_zs_seq l = map zone_of (zones l)
