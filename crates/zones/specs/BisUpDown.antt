-- Runs of strokes that go up or down as a whole: is_bis_up and is_bis_down, over the summaries of the run. Definitions only.
use Rattle.std.specs.Prelude.{◌%◌, Bool, true, false, ◌&&◌, List, [], ◌∷◌, length, leb, eqb}
use Rattle.std.specs.Int.Signed.{lt_z}
use Rattle.std.specs.Float.Ieee.{eq}
use Rattle.machine.specs.declared.Direction.{Direction}
use Rattle.machine.specs.declared.Direction.TheVariants.{Up, Down}
use Rattle.zones.specs.declared.Summary.{Summary}
use Rattle.zones.specs.Zones.{gg, dd, last_from}

-- the end times rise strictly (bis_are_chronological)
unfoldable pub chronological : List Summary → Bool
chronological [] = true
chronological (a ∷ []) = true
chronological (a ∷ b ∷ l) = lt_z a.ended b.ended && chronological (b ∷ l)

-- an odd number of strokes, at least 3, whose end times rise strictly
unfoldable pub is_run : List Summary → Bool
unfolding chronological
is_run l = (leb 3 (length l) && eqb (length l % 2) 1) && chronological l

unfoldable pub goes_up : Direction → Bool
goes_up Up = true
goes_up Down = false

unfoldable pub goes_down : Direction → Bool
goes_down Up = false
goes_down Down = true

-- the last stroke goes up and has the greatest high of all, and the first has the least low
unfoldable pub up_from : Summary → Summary → List Summary → Bool
unfolding goes_up eq gg dd
up_from a z l = goes_up z.direction && (eq z.high (gg l) && eq a.low (dd l))

-- the last stroke goes down and has the least low of all, and the first has the greatest high
unfoldable pub down_from : Summary → Summary → List Summary → Bool
unfolding goes_down eq gg dd
down_from a z l = goes_down z.direction && (eq a.high (gg l) && eq z.low (dd l))

-- is_bis_up
unfoldable pub is_bis_up : List Summary → Bool
unfolding is_run up_from last_from
is_bis_up [] = false
is_bis_up (a ∷ l) = is_run (a ∷ l) && up_from a (last_from a l) (a ∷ l)

-- is_bis_down
unfoldable pub is_bis_down : List Summary → Bool
unfolding is_run down_from last_from
is_bis_down [] = false
is_bis_down (a ∷ l) = is_run (a ∷ l) && down_from a (last_from a l) (a ∷ l)

-- either, by the way that is asked
unfoldable pub goes : Direction → List Summary → Bool
unfolding is_bis_up is_bis_down
goes Up l = is_bis_up l
goes Down l = is_bis_down l
