-- Document 01's fresh analyzer, with document 02's request two: questions 1, 2, 17 and 3, in this order, and the stand that it begins with. Definitions only.
use Rattle.std.specs.Prelude.{ℕ, zero, suc, Bool, ◌&&◌, cond, length, replicate, leb, eqb}
use Rattle.strokes.specs.declared.Rooms.{Rooms}
use Rattle.strokes.specs.declared.Stand.{Stand}
use Rattle.strokes.specs.Lent.{Stores}
use Rattle.strokes.specs.StateRead.{raw_sized, merged_sized, fractal_sized}
use Rattle.machine.specs.FeedQuestions.{or_else}
use Rattle.machine.specs.Soundness.{is_room, is_places}

-- ---- questions 1 and 2

-- is the minimum length, or the most strokes, 0 to 64?
unfoldable pub is_asked : ℕ → Bool
is_asked n = leb n 64

-- 0 means the default: 6 for the minimum length, 50 for the most strokes
unfoldable pub or_default : ℕ → ℕ → ℕ
or_default n d = cond (eqb n 0) d n

-- ---- question 17

-- are the places for power and the places for ratios each 0 to 6? 0 means none, and no default.
unfoldable pub question17 : ℕ → ℕ → Bool
unfolding is_places
question17 power ratio = is_places power && is_places ratio

-- ---- question 3

-- how many bars the lent stores hold, by their columns of times
unfoldable pub rooms_of : Stores → Rooms
rooms_of m = record { raw = length m.raw.times; unfinished = length m.unfinished.times; strokes = length m.strokes.times }

-- every column of a store has that length: columns of different lengths hold no number of bars
unfoldable pub columns_agree : Rooms → Stores → Bool
unfolding raw_sized merged_sized fractal_sized
columns_agree r m =
    (raw_sized r.raw m.raw && merged_sized r.unfinished m.unfinished) && (merged_sized r.strokes m.strokes && fractal_sized r.strokes m.fractals)

-- each store takes 16 to 65,536 bars
unfoldable pub rooms_fit : Rooms → Bool
unfolding is_room
rooms_fit r = is_room r.raw && (is_room r.unfinished && is_room r.strokes)

unfoldable pub question3 : Stores → Bool
unfolding columns_agree rooms_fit rooms_of
question3 m = columns_agree (rooms_of m) m && rooms_fit (rooms_of m)

-- ---- the answer

-- the first of these questions that is answered "no", or 0
unfoldable pub fresh_failed : ℕ → ℕ → ℕ → ℕ → Stores → ℕ
unfolding or_else is_asked question17 question3
fresh_failed minimum most power ratio m =
    or_else (is_asked minimum) 1 (or_else (is_asked most) 2 (or_else (question17 power ratio) 17 (or_else (question3 m) 3 0)))

-- a stand that holds nothing
unfoldable pub empty_stand : ℕ → ℕ → ℕ → ℕ → Rooms → Stand
empty_stand minimum most power ratio rooms =
    record {
      minimum = minimum;
      most = most;
      rooms = rooms;
      raw = 0;
      unfinished = 0;
      strokes = 0;
      bars = replicate 65 0;
      fractals = replicate 65 0;
      power_places = power;
      ratio_places = ratio;
    }

-- a fresh analyzer for the stores that are lent: their lengths are recorded
unfoldable pub first_stand : ℕ → ℕ → ℕ → ℕ → Stores → Stand
unfolding empty_stand or_default rooms_of
first_stand minimum most power ratio m = empty_stand (or_default minimum 6) (or_default most 50) power ratio (rooms_of m)

-- what a refusal hands back beside its number: settings of 0, which no later call takes for sound
unfoldable pub no_stand : Stand
unfolding empty_stand
no_stand = empty_stand 0 0 0 0 (record { raw = 0; unfinished = 0; strokes = 0 })

-- the number of the question that was answered "no", or 0, and the stand
pub record FreshAnswer : Type 0 where
  pub refused : ℕ
  pub stand : Stand

-- by the first question that failed
unfoldable pub fresh_by : ℕ → ℕ → ℕ → ℕ → ℕ → Stores → FreshAnswer
unfolding first_stand no_stand
fresh_by zero minimum most power ratio m = record { refused = 0; stand = first_stand minimum most power ratio m }
fresh_by (suc n) minimum most power ratio m = record { refused = suc n; stand = no_stand }

unfoldable pub fresh_of : ℕ → ℕ → ℕ → ℕ → Stores → FreshAnswer
unfolding fresh_by fresh_failed
fresh_of minimum most power ratio m = fresh_by (fresh_failed minimum most power ratio m) minimum most power ratio m
