-- A call of the port's feed, and a list of such calls, each handed the stand and the stores that the one before left. `feed` ensures FeedIs; the rest is said of
-- every function that does. Definitions only.
use Rattle.std.specs.Prelude.{ℕ, zero, suc, ◌+◌, ◌≡◌, List, [], ◌∷◌, T}
use Rattle.bars.specs.declared.Bar.{Bar}
use Rattle.machine.specs.Feed.{Events, step}
use Rattle.machine.specs.FeedQuestions.{or_else, failed_after4}
use Rattle.machine.specs.Calls.{none_yet}
use Rattle.strokes.specs.declared.Stand.{Stand}
use Rattle.strokes.specs.StateRead.{settings_of, state_of, sized, bare_state}
use Rattle.strokes.specs.Lent.{Stores}
use Rattle.sound.specs.FreshStand.{fresh_of}
use Rattle.question4.specs.Question4.{question4}

-- ---- one call

-- the first of questions 4 to 12 that is answered "no", or 0: question 4 is asked of the stores too
unfoldable pub failed_by : Stand → Stores → Bar → ℕ
unfolding or_else question4 failed_after4 settings_of state_of
failed_by s m b = or_else (question4 s m) 4 (failed_after4 (settings_of s) (state_of s m) b)

-- A feed of the bar b to the stand s and the stores m answers these numbers and leaves the stand s' and the stores m'. A refusal leaves both as they were. An
-- answer is the plain machine's step, but for the elements of fractals' bars, which are not stored and are no part of any answer.
pub record FeedIs (s : Stand) (m : Stores) (b : Bar) (failed made broken shed : ℕ) (s' : Stand) (m' : Stores) : Type 0 where
  pub failed-is : failed ≡ failed_by s m b
  pub refused : (failed ≡ 0 → ⊥) → (s' ≡ s) × (m' ≡ m) × (made ≡ 0) × (broken ≡ 0) × (shed ≡ 0)
  pub accepted :
      failed ≡ 0
      → (state_of s' m' ≡ bare_state (step (settings_of s) (state_of s m) b).state)
      × (◌≡◌ {A = Events} (record { made = made; broken = broken; shed = shed }) (step (settings_of s) (state_of s m) b).events)
      × (settings_of s' ≡ settings_of s)
      × T (sized s' m')

-- ---- a list of calls

unfoldable pub added : Events → Events → Events
added e f = record { made = e.made + f.made; broken = e.broken + f.broken; shed = e.shed + f.shed }

-- from a stand and stores to others: the bars fed, oldest first, and the answers added up
pub data PortCalls : Stand → Stores → List Bar → Events → Stand → Stores → Type 0 where
  none : {s : Stand} {m : Stores} → PortCalls s m [] none_yet s m
  call : {s s' t : Stand} {m m' k : Stores} {b : Bar} {bs : List Bar} {failed made broken shed : ℕ} {e : Events}
      → FeedIs s m b failed made broken shed s' m'
      → PortCalls s' m' bs e t k
      → PortCalls s m (b ∷ bs) (added (record { made = made; broken = broken; shed = shed }) e) t k

-- by the number answered: a bar is accepted where it is 0
unfoldable pub accepted_if : ℕ → Bar → List Bar → List Bar
accepted_if zero b l = b ∷ l
accepted_if (suc n) b l = l

-- the bars that are accepted, oldest first
unfoldable pub accepted_of : {s t : Stand} {m k : Stores} {bs : List Bar} {e : Events} → PortCalls s m bs e t k → List Bar
unfolding accepted_if
accepted_of none = []
accepted_of (call {b = b} {failed = failed} f p) = accepted_if failed b (accepted_of p)

-- ---- from a fresh analyzer

-- A list of calls that begins with what `fresh` hands back, whether it answered or refused, for the stores that are then lent: of any lengths, whatever they hold.
pub record FreshCalls : Type 0 where
  pub minimum : ℕ
  pub most : ℕ
  pub power : ℕ
  pub ratio : ℕ
  pub lent : Stores
  pub bars : List Bar
  pub sums : Events
  pub stand : Stand
  pub stores : Stores
  pub calls : PortCalls (fresh_of minimum most power ratio lent).stand lent bars sums stand stores

-- the number that the fresh analyzer is refused with, or 0, and the stand that it begins with
abbrev pub refused_with : FreshCalls → ℕ
refused_with r = (fresh_of r.minimum r.most r.power r.ratio r.lent).refused

abbrev pub begun : FreshCalls → Stand
begun r = (fresh_of r.minimum r.most r.power r.ratio r.lent).stand
