-- Directions and marks as the programs write them, a direction of its number in the columns of zones, and the mark that it begins on. Definitions only.
use Rattle.std.specs.Prelude.{ℕ, zero, suc, List, codes}
use Rattle.machine.specs.declared.Mark.{Mark}
use Rattle.machine.specs.declared.Mark.TheVariants.{D, G}
use Rattle.machine.specs.declared.Direction.{Direction}
use Rattle.machine.specs.declared.Direction.TheVariants.{Up, Down}

abbrev pub mark_letter : Mark → List ℕ
mark_letter D = codes "D"
mark_letter G = codes "G"

abbrev pub direction_word : Direction → List ℕ
direction_word Up = codes "up"
direction_word Down = codes "down"

-- the mark of the fractal that a stroke of this direction starts on
abbrev pub starting_mark : Direction → Mark
starting_mark Up = D
starting_mark Down = G

-- of its number: 0 is up
abbrev pub direction_numbered : ℕ → Direction
direction_numbered zero = Up
direction_numbered (suc n) = Down
