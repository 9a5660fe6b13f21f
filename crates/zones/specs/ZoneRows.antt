-- Zones and the summaries of their strokes as the rows that lent outputs take. Definitions only.
use Rattle.std.specs.Prelude.{ℕ, Bool, true, false, List, [], ◌∷◌, map, length, ℤ, Float}
use Rattle.strokes.specs.FractalRows.{pasted}
use Rattle.zones.specs.declared.Summary.{Summary}
use Rattle.zones.specs.Zones.{Zone}
use Rattle.zones.specs.FakeRows.{direction_code}

-- ---- the rows of a zone

-- 1 for yes, 0 for no
unfoldable pub flag : Bool → ℕ
flag true = 1
flag false = 0

unfoldable pub zone_times : Zone → List ℤ
zone_times z = z.sdt ∷ z.edt ∷ []

unfoldable pub zone_prices : Zone → List Float
zone_prices z = z.zg ∷ z.zd ∷ z.zz ∷ z.gg ∷ z.dd ∷ []

-- both directions, whether it is valid, and how many strokes it has
unfoldable pub zone_numbers : Zone → List ℕ
unfolding direction_code flag
zone_numbers z = direction_code z.sdir ∷ direction_code z.edir ∷ flag z.valid ∷ length z.strokes ∷ []

pub record ZoneColumns : Type 0 where
  pub times : List (List ℤ)
  pub prices : List (List Float)
  pub numbers : List (List ℕ)

abbrev pub zone_columns : List (List ℤ) → List (List Float) → List (List ℕ) → ZoneColumns
zone_columns ts ps ns = record { times = ts; prices = ps; numbers = ns }

-- the columns with these zones from place 0 on; places beyond them stay
unfoldable pub put_zones : ZoneColumns → List Zone → ZoneColumns
unfolding pasted zone_times zone_prices zone_numbers
put_zones d l = zone_columns (pasted d.times 0 (map zone_times l)) (pasted d.prices 0 (map zone_prices l)) (pasted d.numbers 0 (map zone_numbers l))

-- ---- the rows of a stroke's summary

unfoldable pub stroke_times : Summary → List ℤ
stroke_times b = b.began ∷ b.ended ∷ []

unfoldable pub stroke_prices : Summary → List Float
stroke_prices b = b.high ∷ b.low ∷ []

unfoldable pub stroke_code : Summary → ℕ
unfolding direction_code
stroke_code b = direction_code b.direction

pub record StrokeColumns : Type 0 where
  pub times : List (List ℤ)
  pub prices : List (List Float)
  pub codes : List ℕ

abbrev pub stroke_columns : List (List ℤ) → List (List Float) → List ℕ → StrokeColumns
stroke_columns ts ps ds = record { times = ts; prices = ps; codes = ds }

unfoldable pub put_strokes : StrokeColumns → List Summary → StrokeColumns
unfolding pasted stroke_times stroke_prices stroke_code
put_strokes d l = stroke_columns (pasted d.times 0 (map stroke_times l)) (pasted d.prices 0 (map stroke_prices l)) (pasted d.codes 0 (map stroke_code l))
