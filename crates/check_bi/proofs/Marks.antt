-- Marks compared by `==`. Assumes nothing.
use denote.Enum.Bare.{sameb}
use mathlib.Core.Path.{◌≡◌, refl}
use Rattle.machine.specs.contracts.Mark.{the_type}
use Rattle.machine.specs.declared.Mark.{Mark}
use Rattle.machine.specs.declared.Mark.TheVariants.{D, G}
use Rattle.machine.specs.Fractals.{same_mark}

pub same_is : (a b : Mark) → sameb the_type a b ≡ same_mark a b
unfolding same_mark
same_is D D = refl
same_is D G = refl
same_is G D = refl
same_is G G = refl
