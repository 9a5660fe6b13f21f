-- The codes of a row's last column: what the casts of a direction and of a test are.
-- Assumes nothing.
use denote.Enum.Enum.{tag}
use denote.Enum.Declared.{intoss}
use denote.Struct.Field.{rows}
use mathlib.Core.Path.{◌≡◌, refl}
use mathlib.Core.Bool.{Bool, true, false}
use mathlib.Core.List.{[], ◌∷◌}
use mir.Val.{bool_byte}
use Rattle.machine.specs.declared.Direction.{Direction}
use Rattle.machine.specs.declared.Direction.TheVariants.{Up, Down}
use Rattle.machine.specs.contracts.Direction as D
use Rattle.zones.specs.FakeRows.{direction_code}
use Rattle.zones.specs.ZoneRows.{flag}

pub code_is : (d : Direction) → tag (rows [] ∷ rows [] ∷ []) (intoss ([] ∷ [] ∷ []) (D.as_values d)) ≡ direction_code d
unfolding direction_code
code_is Up = refl
code_is Down = refl

pub flag_is : (b : Bool) → bool_byte b ≡ flag b
unfolding flag
flag_is true = refl
flag_is false = refl
