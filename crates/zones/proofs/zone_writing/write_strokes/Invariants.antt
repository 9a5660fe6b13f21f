use mathlib.Core.Path.{◌≡◌}
use lib.ListN.{take}
use Rattle.zones.specs.Columns.{strokes_of, SameRows}
use Rattle.zones.specs.ZoneRows.{put_strokes}
use Rattle.zones.proofs.zone_writing.write_strokes.Given as goal

abbrev pub invariant-loop-j : goal.invariant-loop-j
invariant-loop-j l = (strokes_of l.to ≡ put_strokes (strokes_of l.initial.to) (take l.j l.run)) × SameRows l.initial.to l.to
