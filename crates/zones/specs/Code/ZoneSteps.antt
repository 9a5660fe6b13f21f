-- Zones built stroke by stroke, and written as they are built. Definitions only.
use Rattle.std.specs.Prelude.{ℕ, zero, suc, ◌+◌, ◌≤◌, ◌<◌, Bool, true, false, List, [], ◌∷◌, length, set, get_or, eqb}
use Rattle.zones.specs.declared.Summary.{Summary}
use Rattle.zones.specs.declared.lent_zone.Building.{Building}
use Rattle.zones.specs.Code.GrowingZone.{started, joined_of, opens_of, zz_of, valid_of}
use Rattle.zones.specs.Zones.{no_stroke, get_zs_seq}
use Rattle.zones.specs.FakeRows.{direction_code}
use Rattle.zones.specs.ZoneRows.{flag, ZoneColumns, zone_columns, StrokeColumns}
use Rattle.zones.specs.ListedZones.{ZonesCall, zones_fit, strokes_fit, zones_if}

-- every column has n places and more
pub record RoomZones (d : ZoneColumns) (n : ℕ) : Type 0 where
  pub times : n ≤ length d.times
  pub prices : n ≤ length d.prices
  pub numbers : n ≤ length d.numbers

-- before the first stroke: no zone, so that nothing is read of what stands there
unfoldable pub no_zone : Building
unfolding started no_stroke
no_zone = record { zone = started no_stroke; size = 0; done = 0 }

-- with s, by whether there is no zone yet and whether s opens a new one: then the one so far is done
unfoldable pub next_if : Bool → Bool → Building → Summary → Building
unfolding started joined_of
next_if true t b s = record { zone = started s; size = 1; done = b.done }
next_if false true b s = record { zone = started s; size = 1; done = b.done + 1 }
next_if false false b s = record { zone = joined_of b.zone s; size = b.size + 1; done = b.done }

unfoldable pub next_of : Building → Summary → Building
unfolding next_if opens_of
next_of b s = next_if (eqb b.size 0) (opens_of b.zone s) b s

-- after each stroke of a list
unfoldable pub states_of : Building → List Summary → List Building
unfolding next_of
states_of b [] = []
states_of b (s ∷ l) = next_of b s ∷ states_of (next_of b s) l

-- how many zones the first n of these have
unfoldable pub zone_count : List Building → ℕ → ℕ
unfolding no_zone
zone_count bs zero = 0
zone_count bs (suc n) = (get_or bs n no_zone).done + 1

-- n states at most 64, none with more zones done than that
pub record FewZones (bs : List Building) (n : ℕ) : Type 0 where
  pub short : n ≤ 64
  pub small : (j : ℕ) → j < n → (get_or bs j no_zone).done ≤ 64

-- each of them has its place in every column
pub record RoomBuilt (bs : List Building) (n : ℕ) (d : ZoneColumns) : Type 0 where
  pub short : n ≤ 64
  pub each : (j : ℕ) → j < n → RoomZones d ((get_or bs j no_zone).done + 1)

-- the columns with the zone under construction at the place after those that are done
unfoldable pub set_zone : ZoneColumns → Building → ZoneColumns
unfolding direction_code flag zz_of valid_of
set_zone d b =
    let z = b.zone in
    zone_columns (set d.times b.done (z.first.began ∷ z.last.ended ∷ []))
    (set d.prices b.done (z.zg ∷ z.zd ∷ zz_of z ∷ z.gg ∷ z.dd ∷ []))
    (set d.numbers b.done (direction_code z.first.direction ∷ direction_code z.last.direction ∷ flag (valid_of z) ∷ b.size ∷ []))

-- question 14, then the zones and the strokes of a run that is read, in the output columns d and e
abbrev pub zones_read_if : ZoneColumns → StrokeColumns → List Summary → ZonesCall
zones_read_if d e l = zones_if (zones_fit d (get_zs_seq l)) (strokes_fit e l) d e l
