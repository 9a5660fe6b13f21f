-- Fake strokes from what is read of their fractals, and how many there are. That these are create_fake_bis of specs/FakeStrokes is `fake_of-two` and
-- `fake-count` of proofs/FakesOfTwo. Definitions only.
use Rattle.std.specs.Prelude.{ℕ, ◌*◌, ◌/◌, ◌-◌}
use Rattle.std.specs.Float.{binary64}
use Rattle.std.specs.Float.Ieee.{sub}
use Rattle.arith.specs.Rounding.{round_to}
use Rattle.machine.specs.declared.Mark.{Mark}
use Rattle.machine.specs.declared.Mark.TheVariants.{D, G}
use Rattle.check_bi.specs.declared.check_fx.Candle.{Candle}
use Rattle.machine.specs.declared.Direction.TheVariants.{Up, Down}
use Rattle.zones.specs.declared.FakeStroke.{FakeStroke}

-- from a fractal of the mark to the next, with the middle bar of each: up has the second's high and the first's low, down the first's high and the
-- second's low; power is high minus low, rounded to d places
unfoldable pub fake_of_two : ℕ → Mark → Candle → Candle → FakeStroke
unfolding round_to sub
fake_of_two d D a b = record { direction = Up; sdt = a.time; edt = b.time; high = b.high; low = a.low; power = round_to d (sub binary64 b.high a.low) }
fake_of_two d G a b = record { direction = Down; sdt = a.time; edt = b.time; high = a.high; low = b.low; power = round_to d (sub binary64 a.high b.low) }

-- an odd list loses its last; then each neighbouring pair. Below 2 fractals the difference is 0.
unfoldable pub fake_count : ℕ → ℕ
fake_count n = n / 2 * 2 - 1
