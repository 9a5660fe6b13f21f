-- Soundness of a stand and its lent stores: the stores have their recorded lengths, the counts fit them, and the state that is read off them is sound.
-- Definitions only.
use Rattle.std.specs.Prelude.{Bool, ◌&&◌, T}
use Rattle.machine.specs.Soundness.{sound}
use Rattle.strokes.specs.declared.Stand.{Stand}
use Rattle.strokes.specs.StateRead.{state_of, settings_of, sized}
use Rattle.strokes.specs.Lent.{Stores}

unfoldable pub stores_sound : Stand → Stores → Bool
unfolding sized sound settings_of state_of
stores_sound s m = sized s m && sound (settings_of s) (state_of s m)

-- the same as what every step may count on
pub record IsSound (s : Stand) (m : Stores) : Type 0 where
  pub sizes : T (sized s m)
  pub state : T (sound (settings_of s) (state_of s m))
