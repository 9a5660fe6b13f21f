-- Fake strokes read back from the rows that a call has written. Definitions only.
use Rattle.std.specs.Prelude.{ℕ, List, take, get_or, ℤ, pos, Float}
use Rattle.std.specs.Float.{nan}
use Rattle.stores.specs.Stores.{zip_with}
use Rattle.zones.specs.declared.FakeStroke.{FakeStroke}
use Rattle.zones.specs.FakeRows.{FakeColumns}
use Rattle.zones.specs.ZonesRead.{direction_from}

-- a fake stroke, of its rows
unfoldable pub fake_read : List ℤ → List Float → ℕ → FakeStroke
unfolding direction_from
fake_read t p d =
    record {
      direction = direction_from d;
      sdt = get_or t 0 (pos 0);
      edt = get_or t 1 (pos 0);
      high = get_or p 0 nan;
      low = get_or p 1 nan;
      power = get_or p 2 nan;
    }

-- the fake strokes of the first n rows
unfoldable pub fakes_read : ℕ → FakeColumns → List FakeStroke
unfolding zip_with fake_read
fakes_read n d = zip_with (λ g c. g c) (zip_with fake_read (take n d.times) (take n d.prices)) (take n d.codes)
