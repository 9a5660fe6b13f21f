-- The rows of fake strokes, read back, are the fake strokes.
-- Assumes nothing.
use mathlib.Core.Path.{◌≡◌, refl, ◌∙◌}
use mathlib.Core.List.{List}
use lib.ListN.{length}
use Rattle.stores.specs.Stores.{zip_with}
use Rattle.zones.specs.declared.FakeStroke.{FakeStroke}
use Rattle.zones.specs.FakeRows.{fake_times, fake_prices, fake_code, FakeColumns, put_fakes}
use Rattle.zones.specs.FakesRead.{fake_read, fakes_read}
use Rattle.zones.proofs.ZonesReadBack.{direction-back, front_back, rows_back}

fake-back : (k : FakeStroke) → fake_read (fake_times k) (fake_prices k) (fake_code k) ≡ k
unfolding fake_read fake_times fake_prices fake_code
fake-back k = λ i. record { direction = direction-back k.direction i; sdt = k.sdt; edt = k.edt; high = k.high; low = k.low; power = k.power }

-- what a call has written for the fake strokes l is read back as these
pub fakes_read_lem : (d : FakeColumns) (l : List FakeStroke) → fakes_read (length l) (put_fakes d l) ≡ l
unfolding fakes_read put_fakes
fakes_read_lem d l =
    (λ i. zip_with (λ g c. g c) (zip_with fake_read (front_back fake_times d.times l (length l) refl i) (front_back fake_prices d.prices l (length l) refl i)) (front_back fake_code d.codes l (length l) refl i))
    ∙ rows_back fake_read fake_times fake_prices fake_code fake-back l
