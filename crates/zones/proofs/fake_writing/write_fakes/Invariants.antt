use mathlib.Core.Path.{◌≡◌}
use Rattle.strokes.specs.Columns.{fractals_in}
use Rattle.zones.specs.Columns.{fakes_of, SameRows}
use Rattle.zones.specs.FakeRows.{put_fakes}
use Rattle.zones.specs.Code.FakeSteps.{fake_at}
use Rattle.zones.specs.Code.StrokesRead.{items_from}
use Rattle.zones.proofs.fake_writing.write_fakes.Given as goal

abbrev pub invariant-loop-j : goal.invariant-loop-j
invariant-loop-j l = (fakes_of l.to ≡ put_fakes (fakes_of l.initial.to) (items_from (fake_at l.places (fractals_in l.fractals)) l.p l.j)) × SameRows l.initial.to l.to
