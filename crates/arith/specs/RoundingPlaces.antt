-- What rounding to d places comes to, of document 02's request two: one meaning for all seven numbers of places, 0 to 6. Nothing nicer holds: the product
-- rounds first, so that 0.85 to 1 place is 0.9, and a result rounded again may change (Cases has both). The proof is `seven-places` of
-- proofs/RoundingPlaces. Definitions only.
use Rattle.std.specs.Prelude.{◌≡◌, ℕ, ◌^◌, ◌<◌, ◌≤◌, Bool, false, Float}
use Rattle.std.specs.Float.Ieee as I
use Rattle.std.specs.Float.{binary64}
use Rattle.std.specs.Float.Ieee.Exact.{HasValue}
use Rattle.arith.specs.Rounding.{half_up, ten_to, round_to}
use Rattle.arith.specs.RoundingParts.{IsNotFinite}

-- v times 10 ^ d, as floats multiply
abbrev pub scaled : ℕ → Float → Float
scaled d v = I.mul binary64 v (ten_to d)

pub record SevenPlaces : Type 0 where
  -- 10 ^ d is a float exactly
  pub exact : (d : ℕ) → d ≤ 6 → HasValue (ten_to d) false (10 ^ d) 1
  -- where the product is finite, of the sign s and in size a / c, the result is the float nearest h / 10 ^ d with that sign, where h is a / c to a whole
  -- number, halves away from zero
  pub nearest : (d : ℕ) → d ≤ 6 → (v : Float) (s : Bool) (a c : ℕ) → 0 < c → HasValue (scaled d v) s a c → round_to d v ≡ I.round binary64 s (half_up a c) (10 ^ d)
  -- a product that is NaN or an infinity is the result
  pub not_finite : (d : ℕ) → d ≤ 6 → (v : Float) → IsNotFinite (scaled d v) → round_to d v ≡ scaled d v
