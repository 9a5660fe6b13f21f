-- A run of kept strokes as a function takes it in one value, and the strokes that it has. Definitions only.
use Rattle.std.specs.Prelude.{ℕ, ◌≡◌, List}
use Rattle.strokes.specs.declared.Stand.{Stand}
use Rattle.strokes.specs.Lent.{FractalStore}
use Rattle.strokes.specs.Columns.{fractals_in}
use Rattle.zones.specs.declared.Summary.{Summary}
use Rattle.zones.specs.declared.kept_run.Run.{Run}
use Rattle.zones.specs.Code.StrokesRead.{read_run}

abbrev pub strokes_in : Run → List Summary
strokes_in r = read_run r.stand (fractals_in r.fractals) r.first r.count

-- the run that begins at place i, with n strokes
pub record IsRun (r : Run) (s : Stand) (f : FractalStore) (i n : ℕ) : Type 0 where
  pub stand : r.stand ≡ s
  pub fractals : fractals_in r.fractals ≡ f
  pub first : r.first ≡ i
  pub count : r.count ≡ n
