-- Document 01's fake strokes: create_fake_bis. d is the number of places for power (document 02, request two). Definitions only.
use Rattle.std.specs.Prelude.{ℕ, ◌%◌, ◌≡◌, not, List, [], ◌∷◌, map, length, T, Float}
use Rattle.std.specs.Float.{binary64}
use Rattle.std.specs.Float.Ieee.{sub}
use Rattle.arith.specs.Rounding.{round_to}
use Rattle.machine.specs.declared.Mark.{Mark}
use Rattle.machine.specs.declared.Mark.TheVariants.{D, G}
use Rattle.machine.specs.declared.Direction.{Direction}
use Rattle.machine.specs.Fractals.{Fractal, time_of, same_mark}
use Rattle.machine.specs.Strokes.{direction_of}
use Rattle.zones.specs.declared.FakeStroke.{FakeStroke}

-- the two fractals of a fake stroke
pub record Fake : Type 0 where
  pub first : Fractal
  pub second : Fractal

-- an odd list loses its last
unfoldable pub even_part : {A : Type 0} → List A → List A
even_part [] = []
even_part (a ∷ []) = []
even_part (a ∷ b ∷ l) = a ∷ b ∷ even_part l

-- each neighbouring pair
unfoldable pub pairs : List Fractal → List Fake
pairs [] = []
pairs (a ∷ []) = []
pairs (a ∷ b ∷ l) = record { first = a; second = b } ∷ pairs (b ∷ l)

unfoldable pub fakes : List Fractal → List Fake
unfolding even_part pairs
fakes l = pairs (even_part l)

-- up from a bottom, down from a top
unfoldable pub fake_direction : Fake → Direction
unfolding direction_of
fake_direction f = direction_of f.first.mark

-- of this high and low: power is high minus low, rounded to d places
unfoldable pub fake_with : ℕ → Fake → Float → Float → FakeStroke
unfolding fake_direction time_of round_to sub
fake_with d f h l =
    record {
      direction = fake_direction f;
      sdt = time_of f.first;
      edt = time_of f.second;
      high = h;
      low = l;
      power = round_to d (sub binary64 h l);
    }

-- by the mark of the first fractal: up has the second's high and the first's low, down the first's high and the second's low
unfoldable pub fake_from : ℕ → Mark → Fake → FakeStroke
unfolding fake_with
fake_from d D f = fake_with d f f.second.mid.bar.high f.first.mid.bar.low
fake_from d G f = fake_with d f f.first.mid.bar.high f.second.mid.bar.low

unfoldable pub fake_of : ℕ → Fake → FakeStroke
unfolding fake_from
fake_of d f = fake_from d f.first.mark f

-- create_fake_bis
unfoldable pub create_fake_bis : ℕ → List Fractal → List FakeStroke
unfolding fakes fake_of
create_fake_bis d l = map (fake_of d) (fakes l)

-- ---- what demand 3 says of them

-- they run from a to z: each begins where the one before ends, and goes the other way, since the mark changes within each
abbrev pub Runs : Fractal → List Fake → Fractal → Type 0
Runs a [] z = a ≡ z
Runs a (f ∷ l) z = (f.first ≡ a) × T (not (same_mark f.first.mark f.second.mark)) × Runs f.second l z

-- odd in number, from a to b
pub record FakesOf (a b : Fractal) (l : List Fake) : Type 0 where
  pub odd : length l % 2 ≡ 1
  pub runs : Runs a l b
