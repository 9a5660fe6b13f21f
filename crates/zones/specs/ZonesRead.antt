-- Zones read back from the rows that a call has written: n rows of zones, and k rows of strokes, zone after zone. Definitions only.
use Rattle.std.specs.Prelude.{ℕ, zero, suc, Bool, true, false, List, [], ◌∷◌, take, drop, get_or, ℤ, pos, Float}
use Rattle.std.specs.Float.{nan}
use Rattle.stores.specs.Stores.{zip_with}
use Rattle.machine.specs.declared.Direction.{Direction}
use Rattle.machine.specs.declared.Direction.TheVariants.{Up, Down}
use Rattle.zones.specs.declared.Summary.{Summary}
use Rattle.zones.specs.Zones.{Zone}
use Rattle.zones.specs.ZoneRows.{ZoneColumns, StrokeColumns}

unfoldable pub direction_from : ℕ → Direction
direction_from zero = Up
direction_from (suc n) = Down

unfoldable pub flag_from : ℕ → Bool
flag_from zero = false
flag_from (suc n) = true

-- a stroke's summary, of its rows
unfoldable pub stroke_from : List ℤ → List Float → ℕ → Summary
unfolding direction_from
stroke_from t p d = record { direction = direction_from d; high = get_or p 0 nan; low = get_or p 1 nan; began = get_or t 0 (pos 0); ended = get_or t 1 (pos 0) }

unfoldable pub strokes_read : ℕ → StrokeColumns → List Summary
unfolding zip_with stroke_from
strokes_read k e = zip_with (λ g d. g d) (zip_with stroke_from (take k e.times) (take k e.prices)) (take k e.codes)

-- a zone, of its rows; the first so many of the strokes are its own
unfoldable pub zone_read : List ℤ → List Float → List ℕ → List Summary → Zone
unfolding direction_from flag_from
zone_read t p n bs =
    record {
      sdt = get_or t 0 (pos 0);
      edt = get_or t 1 (pos 0);
      sdir = direction_from (get_or n 0 0);
      edir = direction_from (get_or n 1 0);
      zg = get_or p 0 nan;
      zd = get_or p 1 nan;
      zz = get_or p 2 nan;
      gg = get_or p 3 nan;
      dd = get_or p 4 nan;
      valid = flag_from (get_or n 2 0);
      strokes = take (get_or n 3 0) bs;
    }

unfoldable pub zones_from : List (List ℤ) → List (List Float) → List (List ℕ) → List Summary → List Zone
unfolding zone_read
zones_from [] ps ns bs = []
zones_from (t ∷ ts) [] ns bs = []
zones_from (t ∷ ts) (p ∷ ps) [] bs = []
zones_from (t ∷ ts) (p ∷ ps) (n ∷ ns) bs = zone_read t p n bs ∷ zones_from ts ps ns (drop (get_or n 3 0) bs)

-- the zones of the first n rows, with the strokes of the first k
unfoldable pub zones_read : ℕ → ℕ → ZoneColumns → StrokeColumns → List Zone
unfolding zones_from strokes_read
zones_read n k d e = zones_from (take n d.times) (take n d.prices) (take n d.numbers) (strokes_read k e)
