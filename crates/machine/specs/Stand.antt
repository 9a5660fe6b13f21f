-- Document 01's stand, as the plain machine has it: the settings, with the number of bars that each store takes, and the state, with the bars and the
-- strokes that are held. Every list is oldest first. Definitions only.
use Rattle.std.specs.Prelude.{ℕ, List, []}
use Rattle.bars.specs.declared.Bar.{Bar}
use Rattle.bars.specs.Bars.{Merged}
use Rattle.machine.specs.Strokes.{Stroke}

-- the minimum length of a stroke, the most strokes, the room of the three stores: raw bars, unfinished merged bars, bars of strokes; and how many decimal
-- places power and ratios are rounded to. The places are only for the reports: no step looks at them.
pub record Settings : Type 0 where
  pub minimum : ℕ
  pub most : ℕ
  pub raw_room : ℕ
  pub unfinished_room : ℕ
  pub stroke_room : ℕ
  pub power_places : ℕ
  pub ratio_places : ℕ

-- raw bars kept, unfinished merged bars, strokes kept
pub record State : Type 0 where
  pub raw : List Bar
  pub unfinished : List Merged
  pub strokes : List Stroke

-- a fresh analyzer holds nothing
unfoldable pub fresh : State
fresh = record { raw = []; unfinished = []; strokes = [] }
