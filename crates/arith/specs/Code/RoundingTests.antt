-- What whole rounding finds out of an operand before it falls to a part of specs/RoundingParts.antt. Definitions only.
use Rattle.std.specs.Prelude.{◌*◌, ◌%◌, false, Float}
use Rattle.std.specs.Float.{nan, inf, fin}
use Rattle.std.specs.Float.Ieee.{up, down}
use Rattle.std.specs.Float.Ieee.Exact.{HasValue}

-- r is what the size of x has behind the point, exactly; where x is not finite nothing is said
abbrev pub IsFraction : Float → Float → Type 0
IsFraction nan r = Unit {0}
IsFraction (inf s) r = Unit {0}
IsFraction (fin s m e) r = HasValue r false (m * up e % down e) (down e)
