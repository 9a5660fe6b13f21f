-- Feeding what is read of a text, of document 02's request four: questions 4, 18, 19, then 5 to 12; and a list of such calls. Definitions only.
use Rattle.std.specs.Prelude.{ℕ, zero, suc, ◌≡◌, List, [], ◌∷◌}
use Rattle.bars.specs.declared.Bar.{Bar}
use Rattle.csv_text.specs.Records.{Import, Read, Refused}
use Rattle.machine.specs.Feed.{Events}
use Rattle.machine.specs.FeedQuestions.{or_else}
use Rattle.machine.specs.Calls.{none_yet}
use Rattle.strokes.specs.declared.Stand.{Stand}
use Rattle.strokes.specs.Lent.{Stores}
use Rattle.question4.specs.Question4.{question4}
use Rattle.feed.specs.PortCalls.{FeedIs, PortCalls, added}

-- ---- one call

-- the record's length where the bar was accepted, and 0 where it was refused
unfoldable pub bytes_if : ℕ → ℕ → ℕ
bytes_if zero n = n
bytes_if (suc k) n = 0

-- a text that 18 or 19 refuses, by the number k: 4 is asked before it, and nothing changes
pub record NotFed (s : Stand) (m : Stores) (k failed made broken shed bytes : ℕ) (s' : Stand) (m' : Stores) : Type 0 where
  pub failed-is : failed ≡ or_else (question4 s m) 4 k
  pub stand-stays : s' ≡ s
  pub stores_stay : m' ≡ m
  pub none_made : made ≡ 0
  pub none-broken : broken ≡ 0
  pub none-shed : shed ≡ 0
  pub no_bytes : bytes ≡ 0

-- What a call answers and leaves, by what is read of its text. A bar that is read is fed: 4, then 5 to 12.
abbrev pub RecordFed : Stand → Stores → Import → ℕ → ℕ → ℕ → ℕ → ℕ → Stand → Stores → Type 0
RecordFed s m (Read b n) failed made broken shed bytes s' m' = FeedIs s m b failed made broken shed s' m' × (bytes ≡ bytes_if failed n)
RecordFed s m (Refused k) failed made broken shed bytes s' m' = NotFed s m k failed made broken shed bytes s' m'

-- ---- a list of calls

-- from a stand and stores to others: what is read of the texts, oldest first, and the answers added up
pub data RecordCalls : Stand → Stores → List Import → Events → Stand → Stores → Type 0 where
  none : {s : Stand} {m : Stores} → RecordCalls s m [] none_yet s m
  call : {s s' t : Stand} {m m' k : Stores} {is : List Import} {e : Events} (i : Import) (failed made broken shed bytes : ℕ)
      → RecordFed s m i failed made broken shed bytes s' m'
      → RecordCalls s' m' is e t k
      → RecordCalls s m (i ∷ is) (added (record { made = made; broken = broken; shed = shed }) e) t k

-- the bars that are read
unfoldable pub bars_read : List Import → List Bar
bars_read [] = []
bars_read (Read b n ∷ is) = b ∷ bars_read is
bars_read (Refused k ∷ is) = bars_read is

-- Every list of such calls is one of feed calls, of the bars that are read, with the same answers added up: so demand 3 holds of it, from a fresh analyzer, as `PortDemand3` of feed says it of those.
pub record RecordsFeed : Type 0 where
  pub feeds : {s t : Stand} {m k : Stores} {is : List Import} {e : Events} → RecordCalls s m is e t k → PortCalls s m (bars_read is) e t k
