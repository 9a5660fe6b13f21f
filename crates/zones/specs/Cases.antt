-- Instances of zones and of runs of strokes, computed, with the Rust's answers, and rows read back. Fed bars never gave a zone that is not valid, so these are given directly.
use Rattle.std.specs.Prelude.{ℕ, ◌≡◌, refl, Bool, true, false, List, [], ◌∷◌, ◌++◌, map, length, ℤ, pos, Float}
use Rattle.std.specs.Float.{binary64}
use Rattle.std.specs.Float.Ieee.{of_int}
use Rattle.machine.specs.declared.Direction.{Direction}
use Rattle.machine.specs.declared.Direction.TheVariants.{Up, Down}
use Rattle.zones.specs.declared.Summary.{Summary}
use Rattle.zones.specs.declared.FakeStroke.{FakeStroke}
use Rattle.zones.specs.Zones.{Zone, get_zs_seq}
use Rattle.zones.specs.BisUpDown.{is_bis_up, is_bis_down}
use Rattle.zones.specs.FakeRows.{fake_columns}
use Rattle.zones.specs.FakesRead.{fakes_read}
use Rattle.zones.specs.ZoneRows.{zone_columns, stroke_columns}
use Rattle.zones.specs.ZonesRead.{zones_read}

-- a stroke from the time s to the time e, of this high and low
unfoldable stroke : Direction → ℕ → ℕ → ℕ → ℕ → Summary
unfolding of_int
stroke d h l s e = record { direction = d; high = of_int binary64 (pos h); low = of_int binary64 (pos l); began = pos s; ended = pos e }

-- zg, zd, gg, dd, validity, and the number of strokes
unfoldable told : Zone → Float × Float × Float × Float × Bool × ℕ
told z = (z.zg, z.zd, z.gg, z.dd, z.valid, length z.strokes)

unfoldable is : ℕ → ℕ → ℕ → ℕ → Bool → ℕ → Float × Float × Float × Float × Bool × ℕ
unfolding of_int
is zg zd gg dd v n = (of_int binary64 (pos zg), of_int binary64 (pos zd), of_int binary64 (pos gg), of_int binary64 (pos dd), v, n)

unfoldable zones_told : List Summary → List (Float × Float × Float × Float × Bool × ℕ)
unfolding told get_zs_seq
zones_told l = map told (get_zs_seq l)

-- the strokes of marked instance 11
unfoldable three : List Summary
unfolding stroke
three = stroke Up 15 10 1 4 ∷ stroke Down 15 12 4 7 ∷ stroke Up 18 12 7 9 ∷ []

-- ---- zones

no_zone_lem : zones_told [] ≡ []
unfolding zones_told
no_zone_lem = refl

-- a zone of one or two strokes takes zg and zd over those it has
one-stroke : zones_told (stroke Up 15 10 1 4 ∷ []) ≡ is 15 10 15 10 true 1 ∷ []
unfolding zones_told stroke is
one-stroke = refl

two-strokes : zones_told (stroke Up 15 10 1 4 ∷ stroke Down 15 12 4 7 ∷ []) ≡ is 15 12 15 10 true 2 ∷ []
unfolding zones_told stroke is
two-strokes = refl

-- the fourth and later strokes leave zg and zd as they are
five-strokes : zones_told (three ++ stroke Down 18 14 9 12 ∷ stroke Up 16 14 12 14 ∷ []) ≡ is 15 12 18 10 true 5 ∷ []
unfolding zones_told three stroke is
five-strokes = refl

-- wholly below, going up: a new zone. On the edge: none
below : zones_told (three ++ stroke Up 11 9 9 12 ∷ []) ≡ is 15 12 18 10 true 3 ∷ is 11 9 11 9 true 1 ∷ []
unfolding zones_told three stroke is
below = refl

on_the_lower_edge : zones_told (three ++ stroke Up 12 9 9 12 ∷ []) ≡ is 15 12 18 9 true 4 ∷ []
unfolding zones_told three stroke is
on_the_lower_edge = refl

on_the_upper_edge : zones_told (three ++ stroke Down 18 15 9 12 ∷ []) ≡ is 15 12 18 10 true 4 ∷ []
unfolding zones_told three stroke is
on_the_upper_edge = refl

-- wholly above, but going up: it joins, and the zone is not valid
above_going_up : zones_told (three ++ stroke Up 20 16 9 12 ∷ []) ≡ is 15 12 20 10 false 4 ∷ []
unfolding zones_told three stroke is
above_going_up = refl

-- zg below zd: not valid
crossed : zones_told (stroke Down 4 2 1 3 ∷ stroke Up 5 5 3 5 ∷ stroke Down 2 1 5 8 ∷ []) ≡ is 2 5 5 1 false 3 ∷ []
unfolding zones_told stroke is
crossed = refl

-- ---- is_bis_up and is_bis_down

unfoldable ways : List Summary → Bool × Bool
unfolding is_bis_up is_bis_down
ways l = (is_bis_up l, is_bis_down l)

up : ways three ≡ (true, false)
unfolding ways three
up = refl

-- tied with an earlier high
up-tied : ways (stroke Up 15 10 1 4 ∷ stroke Down 15 12 4 7 ∷ stroke Up 15 12 7 9 ∷ []) ≡ (true, false)
unfolding ways stroke
up-tied = refl

down : ways (stroke Down 18 12 1 4 ∷ stroke Up 16 12 4 7 ∷ stroke Down 16 10 7 9 ∷ []) ≡ (false, true)
unfolding ways stroke
down = refl

-- the end times do not rise
not_in_order : ways (stroke Up 15 10 1 4 ∷ stroke Down 15 12 4 4 ∷ stroke Up 18 12 7 9 ∷ []) ≡ (false, false)
unfolding ways stroke
not_in_order = refl

-- the first has not the least low
not_the_least : ways (stroke Up 15 10 1 4 ∷ stroke Down 15 9 4 7 ∷ stroke Up 18 9 7 9 ∷ []) ≡ (false, false)
unfolding ways stroke
not_the_least = refl

one : ways (stroke Up 15 10 1 4 ∷ []) ≡ (false, false)
unfolding ways stroke
one = refl

two : ways (stroke Up 15 10 1 4 ∷ stroke Down 15 12 4 7 ∷ []) ≡ (false, false)
unfolding ways stroke
two = refl

-- ---- rows read back

unfoldable times : ℕ → ℕ → List ℤ
times s e = pos s ∷ pos e ∷ []

unfoldable price : ℕ → Float
unfolding of_int
price n = of_int binary64 (pos n)

unfoldable fake : Direction → ℕ → ℕ → ℕ → ℕ → ℕ → FakeStroke
unfolding price
fake d s e h l p = record { direction = d; sdt = pos s; edt = pos e; high = price h; low = price l; power = price p }

-- the first two rows of three: the third stays unread
two-fakes :
    fakes_read 2
    (fake_columns (times 1 4 ∷ times 4 7 ∷ times 7 9 ∷ [])
    ((price 15 ∷ price 10 ∷ price 5 ∷ []) ∷ (price 15 ∷ price 12 ∷ price 3 ∷ []) ∷ (price 18 ∷ price 12 ∷ price 6 ∷ []) ∷ []) (0 ∷ 1 ∷ 0 ∷ []))
    ≡ fake Up 1 4 15 10 5 ∷ fake Down 4 7 15 12 3 ∷ []
unfolding fakes_read times price fake
two-fakes = refl

-- two zones with the first stroke and with the next two: the last number of a zone's row says how many
unfoldable zones_in : List Zone
unfolding zones_read times price
zones_in =
    zones_read 2 3
    (zone_columns (times 1 4 ∷ times 4 9 ∷ []) ((price 1 ∷ price 2 ∷ price 3 ∷ price 4 ∷ price 5 ∷ []) ∷ (price 6 ∷ price 7 ∷ price 8 ∷ price 9 ∷ price 10 ∷ []) ∷ [])
    ((0 ∷ 0 ∷ 1 ∷ 1 ∷ []) ∷ (1 ∷ 0 ∷ 0 ∷ 2 ∷ []) ∷ []))
    (stroke_columns (times 1 4 ∷ times 4 7 ∷ times 7 9 ∷ []) ((price 15 ∷ price 10 ∷ []) ∷ (price 15 ∷ price 12 ∷ []) ∷ (price 18 ∷ price 12 ∷ []) ∷ []) (0 ∷ 1 ∷ 0 ∷ []))

zones-told : map told zones_in ≡ is 1 2 4 5 true 1 ∷ is 6 7 9 10 false 2 ∷ []
unfolding zones_in told is price
zones-told = refl

zones-strokes : map (λ z. z.strokes) zones_in ≡ (stroke Up 15 10 1 4 ∷ []) ∷ (stroke Down 15 12 4 7 ∷ stroke Up 18 12 7 9 ∷ []) ∷ []
unfolding zones_in stroke price
zones-strokes = refl
