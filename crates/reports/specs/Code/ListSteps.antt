-- How many strokes are finished, and whether rows of prices reach beyond a stroke. Definitions only.
use Rattle.std.specs.Prelude.{ℕ, ◌-◌, Bool, cond, List, map, get_or, ltb, Float}
use Rattle.std.specs.Float.{nan}
use Rattle.std.specs.Float.Ieee.{lt}
use Rattle.machine.specs.declared.Direction.{Direction}
use Rattle.machine.specs.declared.Direction.TheVariants.{Up, Down}
use Rattle.named.specs.Folds.{greatest, least}

-- of k strokes, with n unfinished bars
unfoldable pub finished_count : ℕ → ℕ → ℕ
finished_count k n = cond (ltb n 5) (k - 1) k

-- whether bars with these rows of prices reach beyond a stroke of this direction, high and low; high stands at 2 of a row, low at 3
unfoldable pub reaches : Direction → Float → Float → List (List Float) → Bool
unfolding lt greatest least
reaches Up high low ps = lt high (greatest (map (λ p. get_or p 2 nan) ps))
reaches Down high low ps = lt (least (map (λ p. get_or p 3 nan) ps)) low
