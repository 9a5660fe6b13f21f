-- The fake strokes of a kept stroke, read off the rows of its fractals one after the other. Definitions only.
use Rattle.std.specs.Prelude.{ℕ, ◌+◌, List}
use Rattle.strokes.specs.declared.Stand.{Stand}
use Rattle.strokes.specs.Lent.{FractalStore}
use Rattle.zones.specs.declared.FakeStroke.{FakeStroke}
use Rattle.zones.specs.Code.FakeOfTwo.{fake_of_two, fake_count}
use Rattle.zones.specs.Code.StrokesRead.{stroke_place, fractal_number, items_from}
use Rattle.named.specs.Code.NamedRows.{mark_at, middle_at}

-- from the fractal in row p to the next, its power to d places
unfoldable pub fake_at : ℕ → FractalStore → ℕ → FakeStroke
unfolding fake_of_two mark_at middle_at
fake_at d f p = fake_of_two d (mark_at f p) (middle_at f p) (middle_at f (p + 1))

-- those of the stroke at place i
unfoldable pub read_fakes : Stand → FractalStore → ℕ → List FakeStroke
unfolding items_from fake_at stroke_place fake_count fractal_number
read_fakes s f i = items_from (fake_at s.power_places f) (stroke_place s i) (fake_count (fractal_number s i))
