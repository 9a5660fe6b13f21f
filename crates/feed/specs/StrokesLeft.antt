-- The strokes themselves that each call of the plain machine makes, breaks and sheds, where Events only counts them, and what is left of those made when the others
-- are taken away. Definitions only.
use Rattle.std.specs.Prelude.{ℕ, zero, suc, ◌≡◌, List, [], ◌∷◌, ◌++◌, length, take, drop, ltb}
use Rattle.bars.specs.declared.Bar.{Bar}
use Rattle.bars.specs.Lists.{last}
use Rattle.machine.specs.Strokes.{Stroke}
use Rattle.machine.specs.Stand.{Settings, State}
use Rattle.machine.specs.Feed.{is_later, merged_with, make, move, shed_count, Events}
use Rattle.machine.specs.FeedQuestions.{failed}
use Rattle.machine.specs.Calls.{feed, none_yet}
use Rattle.feed.specs.PortCalls.{added}

-- ---- one call

-- the strokes that a call makes, breaks and sheds, each list oldest first
pub record EventStrokes : Type 0 where
  pub made : List Stroke
  pub broken : List Stroke
  pub shed : List Stroke

-- how many they are
abbrev pub counts_of : EventStrokes → Events
counts_of e = record { made = length e.made; broken = length e.broken; shed = length e.shed }

unfoldable pub no_strokes : EventStrokes
no_strokes = record { made = []; broken = []; shed = [] }

-- By the strokes kept before a step, those once the found one is put on, and those once the last is taken off if it breaks: made are those behind the ones
-- kept before, broken those behind the ones that stay, and shed is the first where they are more than the most.
unfoldable pub by_kept : ℕ → List Stroke → List Stroke → List Stroke → EventStrokes
unfolding shed_count
by_kept most before put stay =
    record {
      made = drop (length before) put;
      broken = drop (length stay) put;
      shed = take (shed_count (ltb most (length stay))) stay;
    }

-- the values are those of the machine's step
unfoldable pub step_strokes : Settings → State → Bar → EventStrokes
unfolding by_kept make move merged_with is_later last
step_strokes c s b =
    let l = merged_with (is_later (last s.raw) b) s b in
    by_kept c.most s.strokes (make c.minimum l s.strokes).kept (move c.minimum l s.strokes).kept

-- by the first question that failed: a refused call makes, breaks and sheds nothing
unfoldable pub call_strokes : ℕ → Settings → State → Bar → EventStrokes
unfolding step_strokes no_strokes
call_strokes zero c s b = step_strokes c s b
call_strokes (suc n) c s b = no_strokes

-- ---- a list of calls

-- call by call, oldest first; the state goes from call to call as in `run`
unfoldable pub strokes_of : Settings → State → List Bar → List EventStrokes
unfolding call_strokes failed feed
strokes_of c s [] = []
strokes_of c s (b ∷ bs) = call_strokes (failed c s b) c s b ∷ strokes_of c (feed c s b).state bs

-- how many they are over all calls
unfoldable pub counted : List EventStrokes → Events
unfolding none_yet added
counted [] = none_yet
counted (e ∷ es) = added (counts_of e) (counted es)

-- ---- what is left

-- From the strokes kept before some calls to those kept after them. In each call the strokes kept before it, with those that it makes behind them, are in order those
-- that it sheds, those kept after it and those that it breaks. So what is kept at the end of calls that begin with none is, oldest first, exactly what was made
-- and neither broken nor shed.
pub data Left : List Stroke → List EventStrokes → List Stroke → Type 0 where
  none : {k : List Stroke} → Left k [] k
  call : {k k' l : List Stroke} {e : EventStrokes} {es : List EventStrokes} → k ++ e.made ≡ e.shed ++ k' ++ e.broken → Left k' es l → Left k (e ∷ es) l
