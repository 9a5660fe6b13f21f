-- How many of the first windows of the unfinished bars hold no fractal, from feed to feed. Definitions only.
use Rattle.std.specs.Prelude.{None, ℕ, ◌+◌, ◌-◌, ◌≤◌, ◌<◌, ◌≡◌, true, List, Float}
use Rattle.machine.specs.declared.Mark.TheVariants.{D}
use Rattle.check_bi.specs.Code.Windows.{taken_at, NoneBetween, NoFractals}
use Rattle.strokes.specs.declared.Stand.{Stand}
use Rattle.strokes.specs.Lent.{Stores}

-- the first c windows of the unfinished bars' rows hold no fractal, and all of these lie before the last of the bars
pub record Clear (s : Stand) (m : Stores) (c : ℕ) : Type 0 where
  pub none : NoFractals m.unfinished.prices c
  pub within : 0 < c → c + 2 ≤ s.unfinished

-- r after a feed, where c windows were known before it: those known yet, and those that were then looked at. By the strokes kept before it, those it made, the raw bars before and after it, and the unfinished ones
pub record ClearAfter (ps : List (List Float)) (strokes made raw raw' u u' c r : ℕ) : Type 0 where
  pub known : ℕ
  pub kept : 0 < known → (strokes ≡ 0) × (made ≡ 0) × (0 < c) × (raw' ≡ raw + 1) × (known ≡ c + u' - (u + 1))
  pub looked : NoneBetween (taken_at ps None) u' known r
