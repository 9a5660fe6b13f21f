-- The zone under construction: what ZS::new and is_valid read of its strokes, kept up as each stroke joins. That a zone so grown is ZS::new of all its
-- strokes is `zone-grown` of proofs/ZoneFolds. Definitions only.
use Rattle.std.specs.Prelude.{Bool, true, false, not, ◌&&◌, Option, Some, None, negsuc, Float}
use mathlib.Core.List.{List, foldl}
use Rattle.std.specs.Float.{inf, fin, binary64}
use Rattle.std.specs.Float.Ieee.{lt, add, sub, mul}
use Rattle.arith.specs.Order.{max_of, min_of}
use Rattle.machine.specs.declared.Direction.{Direction}
use Rattle.machine.specs.declared.Direction.TheVariants.{Up, Down}
use Rattle.zones.specs.declared.Summary.{Summary}
use Rattle.zones.specs.declared.zone_building.GrowingZone.{GrowingZone}
use Rattle.zones.specs.Zones.{Zone, meets_range}

-- one stroke: each edge is a fold from an infinity
unfoldable pub started : Summary → GrowingZone
unfolding max_of min_of
started s =
    record {
      first = s;
      second = None;
      third = None;
      last = s;
      zg = min_of (inf false) s.high;
      zd = max_of (inf true) s.low;
      gg = max_of (inf true) s.high;
      dd = min_of (inf false) s.low;
      later = true;
    }

-- with s as the second or the third stroke: all four edges take it in
unfoldable pub joined_early : GrowingZone → Option Summary → Option Summary → Summary → GrowingZone
unfolding max_of min_of
joined_early z b c s =
    record {
      first = z.first;
      second = b;
      third = c;
      last = s;
      zg = min_of z.zg s.high;
      zd = max_of z.zd s.low;
      gg = max_of z.gg s.high;
      dd = min_of z.dd s.low;
      later = z.later;
    }

-- with s as a later stroke: zg and zd stay, and s is asked whether it meets the range
unfoldable pub joined_later : GrowingZone → Summary → GrowingZone
unfolding max_of min_of meets_range
joined_later z s =
    record {
      first = z.first;
      second = z.second;
      third = z.third;
      last = s;
      zg = z.zg;
      zd = z.zd;
      gg = max_of z.gg s.high;
      dd = min_of z.dd s.low;
      later = z.later && meets_range z.zg z.zd s;
    }

-- by the second stroke and the third, so far as they are there
unfoldable pub joined_if : Option Summary → Option Summary → GrowingZone → Summary → GrowingZone
unfolding joined_early joined_later
joined_if None c z s = joined_early z (Some s) None s
joined_if (Some b) None z s = joined_early z (Some b) (Some s) s
joined_if (Some b) (Some c) z s = joined_later z s

unfoldable pub joined_of : GrowingZone → Summary → GrowingZone
unfolding joined_if
joined_of z s = joined_if z.second z.third z s

-- the zone of the stroke a and of those of the list after it
unfoldable pub grown : Summary → List Summary → GrowingZone
unfolding started joined_of
grown a l = foldl joined_of (started a) l

-- a stroke opens a new zone if it goes up with high < zd or down with low > zg
unfoldable pub outside_of : Direction → GrowingZone → Summary → Bool
unfolding lt
outside_of Up z s = lt s.high z.zd
outside_of Down z s = lt z.zg s.low

unfoldable pub opens_of : GrowingZone → Summary → Bool
unfolding outside_of
opens_of z s = outside_of s.direction z s

-- zz = zd + (zg - zd) times 0.5
unfoldable pub zz_of : GrowingZone → Float
unfolding add sub mul
zz_of z = add binary64 z.zd (mul binary64 (sub binary64 z.zg z.zd) (fin false 1 (negsuc 0)))

-- a stroke that is not there is not asked
unfoldable pub meets_if : Float → Float → Option Summary → Bool
unfolding meets_range
meets_if g d None = true
meets_if g d (Some s) = meets_range g d s

-- the first three strokes meet the range
unfoldable pub first_meet : GrowingZone → Bool
unfolding meets_range meets_if
first_meet z = meets_range z.zg z.zd z.first && (meets_if z.zg z.zd z.second && meets_if z.zg z.zd z.third)

-- is_valid
unfoldable pub valid_of : GrowingZone → Bool
unfolding lt first_meet
valid_of z = not (lt z.zg z.zd) && (first_meet z && z.later)

-- the zone as it is answered, with its strokes l
unfoldable pub zone_from : GrowingZone → List Summary → Zone
unfolding zz_of valid_of
zone_from z l =
    record {
      sdt = z.first.began;
      edt = z.last.ended;
      sdir = z.first.direction;
      edir = z.last.direction;
      zg = z.zg;
      zd = z.zd;
      zz = zz_of z;
      gg = z.gg;
      dd = z.dd;
      valid = valid_of z;
      strokes = l;
    }
