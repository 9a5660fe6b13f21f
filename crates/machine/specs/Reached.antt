-- What is claimed of the states that are reached from a fresh analyzer, refused calls and bars that repeat the last time included. The proof is
-- `reached_sound` of proofs/ReachedSound.
use Rattle.std.specs.Prelude.{◌≤◌, ◌≡◌, false, List, [], ◌∷◌, ◌++◌, length, T}
use Rattle.std.proofs.Math.Option.{none}
use Rattle.bars.specs.declared.Bar.{Bar}
use Rattle.bars.specs.Lists.{All}
use Rattle.machine.specs.Stand.{Settings, State, fresh}
use Rattle.machine.specs.Feed.{Events, step}
use Rattle.machine.specs.Soundness.{settings_sound, sound_but, newest_last, sound}
use Rattle.machine.specs.Calls.{FeedAnswer, feed, calls, accepted, each_later}
use Rattle.machine.specs.NewestOnly.{calls_newest}
use Rattle.machine.specs.Unsound.{five, deep, tipping}

-- each of made, broken and shed is 0 or 1
pub record OneEach (e : Events) : Type 0 where
  pub made : e.made ≤ 1
  pub broken : e.broken ≤ 1
  pub shed : e.shed ≤ 1

-- no unfinished bar of a state before a call has more than 100 elements: merging never leaves an element out
abbrev pub Shallow : Settings → State → List Bar → Type 0
Shallow c s [] = Unit {0}
Shallow c s (b ∷ bs) = All (λ k. length k.elements ≤ 100) s.unfinished × Shallow c (feed c s b).state bs

-- every bar that is accepted is later than the one accepted before it
abbrev pub Later : Settings → List Bar → Type 0
Later c bs = T (each_later none (accepted c fresh bs))

pub record ReachedSound : Type 0 where
  -- every clause of soundness but the one on the newest raw bar
  pub every : (c : Settings) → T (settings_sound c) → (bs : List Bar) → T (sound_but c (calls c bs).state)
  -- every clause, where no accepted bar repeats a time
  pub later : (c : Settings) → T (settings_sound c) → (bs : List Bar) → Later c bs → T (sound c (calls c bs).state)
  -- every clause, where no element is left out
  pub shallow : (c : Settings) → T (settings_sound c) → (bs : List Bar) → Shallow c fresh bs → T (sound c (calls c bs).state)
  -- not always: after these 211 bars the newest raw bar is no element of an unfinished bar
  pub not_always : newest_last (calls five (deep ++ tipping ∷ [])).state ≡ false
  -- .. and from there on every feed is answered 4, and leaves the state as it is
  pub stuck : (b : Bar) → feed five (calls five (deep ++ tipping ∷ [])).state b ≡ record { answer = FeedAnswer.Refused 4; state = (calls five (deep ++ tipping ∷ [])).state }
  -- where no accepted bar repeats a time, no feed is answered 4
  pub never_4 : (c : Settings) → T (settings_sound c) → (bs : List Bar) → Later c bs → (b : Bar) → (feed c (calls c bs).state b).answer ≡ FeedAnswer.Refused 4 → ⊥
  -- it is enough to ask the clause on the newest raw bar
  pub newest-only : (c : Settings) → T (settings_sound c) → (bs : List Bar) → calls c bs ≡ calls_newest c bs
  -- a step from any state makes at most one stroke, breaks at most one and sheds at most one
  pub one_each : (c : Settings) (s : State) (b : Bar) → OneEach (step c s b).events
