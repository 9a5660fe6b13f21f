-- Question 4 of document 01, as every call asks it first: is the stand sound, with the stores that are lent? Definitions only.
use Rattle.std.specs.Prelude.{Bool}
use Rattle.strokes.specs.declared.Stand.{Stand}
use Rattle.strokes.specs.Lent.{Stores}
use Rattle.sound.specs.StandSound.{stores_sound}

unfoldable pub question4 : Stand → Stores → Bool
unfolding stores_sound
question4 s m = stores_sound s m
