-- What demand 3 says of kept strokes: the fractals inside one, and neighbours. Definitions only.
use Rattle.std.specs.Prelude.{◌≡◌, not, List, [], ◌∷◌, ◌⊎◌, T}
use Rattle.std.specs.Int.Signed.{lt_z}
use Rattle.std.specs.Float.Ieee.{eq}
use Rattle.machine.specs.Fractals.{Fractal, time_of, fx_of, same_mark, beyond}
use Rattle.machine.specs.Strokes.{Stroke}

-- if x has the mark of the end e, it is e, or less extreme, or equally extreme and later; a higher fx is more extreme for tops, a lower one for bottoms
pub record LessExtreme (e x : Fractal) : Type 0 where
  pub less : T (same_mark e.mark x.mark) → (x ≡ e) ⊎ (T (beyond e.mark (fx_of e) (fx_of x)) ⊎ (T (eq (fx_of e) (fx_of x)) × T (lt_z (time_of e) (time_of x))))

-- two strokes meet on one fractal if its time, mark, high, low and fx agree in both: f is the end of the one, g the start of the other
pub record Meets (f g : Fractal) : Type 0 where
  pub time : time_of g ≡ time_of f
  pub mark : g.mark ≡ f.mark
  pub high : g.mid.bar.high ≡ f.mid.bar.high
  pub low : g.mid.bar.low ≡ f.mid.bar.low
  pub fx : fx_of g ≡ fx_of f

-- each stroke meets the next on one fractal, and the next goes the other way, since it starts on the other mark
abbrev pub MeetAll : List Stroke → Type 0
MeetAll [] = Unit {0}
MeetAll (b ∷ []) = Unit {0}
MeetAll (b ∷ b' ∷ bs) = Meets b.end b'.start × T (not (same_mark b.start.mark b'.start.mark)) × MeetAll (b' ∷ bs)
