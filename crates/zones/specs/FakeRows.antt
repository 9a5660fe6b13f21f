-- Fake strokes as the rows that a lent output takes, and the answer to a call: questions 4, 13 and 14, the number of fake strokes, and what the output columns
-- hold afterwards. Definitions only.
use Rattle.std.specs.Prelude.{ℕ, List, [], ◌∷◌, map, ℤ, Float}
use Rattle.machine.specs.declared.Direction.{Direction}
use Rattle.machine.specs.declared.Direction.TheVariants.{Up, Down}
use Rattle.strokes.specs.FractalRows.{pasted}
use Rattle.zones.specs.declared.FakeStroke.{FakeStroke}

-- ---- the rows of a fake stroke

-- 0 for up, 1 for down
unfoldable pub direction_code : Direction → ℕ
direction_code Up = 0
direction_code Down = 1

unfoldable pub fake_times : FakeStroke → List ℤ
fake_times k = k.sdt ∷ k.edt ∷ []

unfoldable pub fake_prices : FakeStroke → List Float
fake_prices k = k.high ∷ k.low ∷ k.power ∷ []

unfoldable pub fake_code : FakeStroke → ℕ
unfolding direction_code
fake_code k = direction_code k.direction

-- ---- as they are read off the fractals' rows

-- the output columns: times, prices and directions
pub record FakeColumns : Type 0 where
  pub times : List (List ℤ)
  pub prices : List (List Float)
  pub codes : List ℕ

abbrev pub fake_columns : List (List ℤ) → List (List Float) → List ℕ → FakeColumns
fake_columns ts ps ds = record { times = ts; prices = ps; codes = ds }

-- the columns with these fake strokes from place 0 on; places beyond them stay
unfoldable pub put_fakes : FakeColumns → List FakeStroke → FakeColumns
unfolding pasted fake_times fake_prices fake_code
put_fakes d l = fake_columns (pasted d.times 0 (map fake_times l)) (pasted d.prices 0 (map fake_prices l)) (pasted d.codes 0 (map fake_code l))
