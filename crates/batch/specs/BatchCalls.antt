-- The batch call: a list of bars fed to a fresh analyzer, one by one, up to the first that is refused. It is a list of feed calls that were all accepted, and
-- its answers are theirs, added up. Definitions only.
use Rattle.std.specs.Prelude.{ℕ, ◌<◌, ◌≡◌, List, ◌∷◌, length, take, drop, Option, Some, None, Result, IsOkAnd}
use Rattle.bars.specs.declared.Bar.{Bar}
use Rattle.bars.specs.declared.refusals.Question.{Question}
use Rattle.bars.specs.Refusals.{number, asked}
use Rattle.machine.specs.Feed.{Events}
use Rattle.strokes.specs.declared.Stand.{Stand}
use Rattle.strokes.specs.Lent.{Stores}
use Rattle.sound.specs.FreshStand.{fresh_of}
use Rattle.batch.specs.declared.batch.BatchAnswer.{BatchAnswer}
use Rattle.feed.specs.Answers.{events_in}
use Rattle.feed.specs.PortCalls.{failed_by, PortCalls, accepted_of, FreshCalls}

-- a list of feed calls, none of which is refused
pub record AllAccepted (s : Stand) (m : Stores) (bs : List Bar) (e : Events) (t : Stand) (k : Stores) : Type 0 where
  pub calls : PortCalls s m bs e t k
  pub taken : accepted_of calls ≡ bs

-- the answers added up
abbrev pub sums_of : BatchAnswer → Events
sums_of r = events_in r.events

-- the number of the question that the next bar was refused with, and 0 where none was
abbrev pub number_if : Option Question → ℕ
number_if None = 0
number_if (Some q) = number q

abbrev pub failed_of : BatchAnswer → ℕ
failed_of r = number_if r.refused

-- the fresh analyzer is refused with the number n: no bar is fed
pub record BatchRefused (n : ℕ) (m : Stores) (r : Result BatchAnswer Question) (m' : Stores) : Type 0 where
  pub failed : asked r ≡ n
  pub stores : m' ≡ m

-- from the fresh stand s: the first `fed` bars are accepted, and these are all of them, or the next one is refused with the number `failed_of`
pub record BatchFed (s : Stand) (m : Stores) (bars : List Bar) (r : BatchAnswer) (m' : Stores) : Type 0 where
  pub fed : AllAccepted s m (take r.fed bars) (sums_of r) r.stand m'
  pub all : failed_of r ≡ 0 → r.fed ≡ length bars
  pub stopped : (failed_of r ≡ 0 → ⊥) → r.fed < length bars
  pub number : (b : Bar) (l : List Bar) → drop r.fed bars ≡ b ∷ l → failed_of r ≡ failed_by r.stand m' b

-- the batch call with stores m answers r and leaves the stores m'
pub record BatchIs (minimum most power ratio : ℕ) (m : Stores) (bars : List Bar) (r : Result BatchAnswer Question) (m' : Stores) : Type 0 where
  pub refused : ((fresh_of minimum most power ratio m).refused ≡ 0 → ⊥) → BatchRefused (fresh_of minimum most power ratio m).refused m r m'
  pub answered : (fresh_of minimum most power ratio m).refused ≡ 0 → IsOkAnd r (λ a. BatchFed (fresh_of minimum most power ratio m).stand m bars a m')

-- the list of feed calls that it is: the claims of PortClaims are claims on it
unfoldable pub calls_of : (minimum most power ratio : ℕ) {m m' : Stores} {bars : List Bar} {r : BatchAnswer}
    → BatchFed (fresh_of minimum most power ratio m).stand m bars r m' → FreshCalls
calls_of minimum most power ratio {m = m} {m' = m'} {bars = bars} {r = r} f =
    record {
      minimum = minimum;
      most = most;
      power = power;
      ratio = ratio;
      lent = m;
      bars = take r.fed bars;
      sums = sums_of r;
      stand = r.stand;
      stores = m';
      calls = f.fed.calls;
    }
