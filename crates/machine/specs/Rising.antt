-- Soundness of document 01 asks that times rise strictly in each list of bars. Definitions only.
use Rattle.std.specs.Prelude.{List, [], ◌∷◌, T}
use Rattle.std.specs.Int.Signed.{lt_z}
use Rattle.bars.specs.Bars.{Merged}
use Rattle.bars.specs.Lists.{All}

-- each bar's time is before those of all later ones
abbrev pub Rising : List Merged → Type 0
Rising [] = Unit {0}
Rising (x ∷ l) = All (λ y. T (lt_z x.bar.time y.bar.time)) l × Rising l
