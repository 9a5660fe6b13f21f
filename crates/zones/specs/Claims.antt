-- Demand 3: one claim on every list of feed calls, refused ones included, from a fresh analyzer of any settings and store lengths. `calls` is the plain machine,
-- questions included; the kept strokes are those of its last state, oldest first. The proof is `demand3` of proofs/Demand3.
use Rattle.std.specs.Prelude.{ℕ, ◌+◌, ◌%◌, ◌≡◌, List, [], ◌∷◌, map, length, ℤ}
use Rattle.bars.specs.declared.Bar.{Bar}
use Rattle.bars.specs.Lists.{All, join}
use Rattle.machine.specs.declared.Direction.{Direction}
use Rattle.machine.specs.Fractals.{time_of}
use Rattle.machine.specs.Strokes.{Stroke, direction_of, turned}
use Rattle.machine.specs.Stand.{Settings}
use Rattle.machine.specs.Calls.{calls}
use Rattle.machine.specs.KeptStrokes.{LessExtreme, MeetAll}
use Rattle.machine.specs.Reached.{Later}
use Rattle.zones.specs.declared.FakeStroke.{FakeStroke}
use Rattle.zones.specs.FakeStrokes.{FakesOf, fakes, create_fake_bis}
use Rattle.zones.specs.Zones.{summary, get_zs_seq}

-- the strokes of the last state. That they are those made and neither broken nor shed is a claim of its own (feed, PortClaims: `left`)
unfoldable pub kept : Settings → List Bar → List Stroke
unfolding calls
kept c bs = (calls c bs).state.strokes

-- answered fake strokes, the first from time t in the direction d: each begins at the time at which the one before ends and goes the other way, and the last ends at u
abbrev pub FakeChain : ℤ → Direction → List FakeStroke → ℤ → Type 0
FakeChain t d [] u = t ≡ u
FakeChain t d (f ∷ l) u = (f.sdt ≡ t) × (f.direction ≡ d) × FakeChain f.edt (turned d) l u

-- of one kept stroke
pub record Inside (b : Stroke) : Type 0 where
  -- its fake strokes are odd in number, begin on its start, each where the one before ends and the other way, and end on its end
  pub fake : FakesOf b.start b.end (fakes b.fractals)
  -- the same of the fake strokes as they are answered, whatever the places for power: an odd number, from the start's time in the stroke's direction to the end's time
  pub count : (d : ℕ) → length (create_fake_bis d b.fractals) % 2 ≡ 1
  pub told : (d : ℕ) → FakeChain (time_of b.start) (direction_of b.start.mark) (create_fake_bis d b.fractals) (time_of b.end)
  -- every other fractal of the end's mark inside it is less extreme, or equally extreme and later
  pub extreme : All (LessExtreme b.end) b.fractals

pub record Demand3 : Type 0 where
  -- over all answers, strokes made = kept + broken + shed
  pub sums : (c : Settings) (bs : List Bar) → (calls c bs).events.made ≡ length (kept c bs) + (calls c bs).events.broken + (calls c bs).events.shed
  -- the strokes of the zones, zone after zone, are the kept strokes
  pub zoned : (c : Settings) (bs : List Bar) → join (map (λ z. z.strokes) (get_zs_seq (map summary (kept c bs)))) ≡ map summary (kept c bs)
  -- each kept stroke: its fake strokes and its end
  pub inside : (c : Settings) (bs : List Bar) → All Inside (kept c bs)
  -- if every accepted bar was later than the one before, neighbours meet on one fractal (time, mark, high, low, fx) and go opposite ways
  pub meet : (c : Settings) (bs : List Bar) → Later c bs → MeetAll (kept c bs)
