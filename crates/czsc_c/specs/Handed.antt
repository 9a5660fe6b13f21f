-- What the calls under C names hand over. Between two calls a stand lies packed in the first row of `numbers` and the first two of `counts` (strokes, Packed); what a feed made, broke and
-- shed goes to the first row of `events`, and the sums of a list of bars, with the number of bars accepted, to the first row of `sums`. All other rows stay. A fresh
-- analyzer and a feed that are refused write nothing, nor does a list of bars that fails questions 1, 2, 17, 3 or 14. Definitions only.
use Rattle.std.specs.Prelude.{ℕ, zero, suc, ◌≡◌, Bool, true, false, ◌&&◌, List, [], ◌∷◌, leb, length, set, ℤ, Float, Result, Ok}
use Rattle.bars.specs.declared.Bar.{Bar}
use Rattle.bars.specs.declared.refusals.Question.{Question}
use Rattle.bars.specs.Refusals.{asked}
use Rattle.machine.specs.FeedQuestions.{or_else}
use Rattle.strokes.specs.declared.Stand.{Stand}
use Rattle.strokes.specs.Lent.{Stores}
use Rattle.strokes.specs.Packed.{packed, numbers_with, counts_with, rows_there}
use Rattle.sound.specs.FreshStand.{FreshAnswer, fresh_of}
use Rattle.question4.specs.Question4.{question4}
use Rattle.feed.specs.declared.events.Events.{Events}
use Rattle.feed.specs.Answers.{events_of}
use Rattle.feed.specs.PortCalls.{FeedIs}
use Rattle.batch.specs.declared.batch.BatchAnswer.{BatchAnswer}
use Rattle.batch.specs.BatchCalls.{failed_of, BatchIs}
use Rattle.czsc_c.specs.declared.handed.StandRows.{StandRows}

abbrev pub bar_with : ℤ → ℤ → Float → Float → Float → Float → Float → Float → Bar
bar_with t i o c h l v a = record { time = t; id = i; «open» = o; close = c; high = h; low = l; vol = v; amount = a }

-- the caller's own rows are there yet, as many as before
pub record SameRows (a b : StandRows) : Type 0 where
  pub numbers : b.numbers.ghost_name ≡ a.numbers.ghost_name
  pub counts : b.counts.ghost_name ≡ a.counts.ghost_name
  pub numbers_room : length b.numbers.now ≡ length a.numbers.now
  pub counts_room : length b.counts.now ≡ length a.counts.now

-- a number, and the rows of a stand then
pub record StandHanded : Type 0 where
  pub number : ℕ
  pub numbers : List (List ℕ)
  pub counts : List (List ℕ)

abbrev pub stand_handed : ℕ → List (List ℕ) → List (List ℕ) → StandHanded
stand_handed f ns cs = record { number = f; numbers = ns; counts = cs }

-- ---- a fresh analyzer: questions 1, 2, 17 and 3, then 14, whether its stand has a place

unfoldable pub fresh_handed_if : ℕ → Bool → Stand → List (List ℕ) → List (List ℕ) → StandHanded
unfolding numbers_with counts_with
fresh_handed_if zero true s ns cs = stand_handed 0 (numbers_with s ns) (counts_with s cs)
fresh_handed_if zero false s ns cs = stand_handed 14 ns cs
fresh_handed_if (suc n) t s ns cs = stand_handed (suc n) ns cs

unfoldable pub fresh_handed : FreshAnswer → List (List ℕ) → List (List ℕ) → StandHanded
unfolding fresh_handed_if rows_there
fresh_handed a ns cs = fresh_handed_if a.refused (rows_there ns cs) a.stand ns cs

-- ---- a feed: 4, where no stand is there or it is not sound, then 14, whether its answer has a place, then questions 5 to 12

unfoldable pub failed_before : List (List ℕ) → List (List ℕ) → List (List ℕ) → Stores → ℕ
unfolding or_else rows_there question4 packed
failed_before ns cs es m = or_else (rows_there ns cs) 4 (or_else (question4 (packed ns cs) m) 4 (or_else (leb 1 (length es)) 14 0))

-- the answer r of a feed, whose number is f, and the stand s after it are handed over: a refusal leaves the rows as they were
pub record HandedOver (s : Stand) (r : Result Events Question) (ns cs es : List (List ℕ)) (f : ℕ) (ns' cs' es' : List (List ℕ)) : Type 0 where
  pub number : f ≡ asked r
  pub refused : (asked r ≡ 0 → ⊥) → (ns' ≡ ns) × (cs' ≡ cs) × (es' ≡ es)
  pub answered : asked r ≡ 0 → (ns' ≡ numbers_with s ns) × (cs' ≡ counts_with s cs) × (es' ≡ set es 0 ((events_of r).made ∷ (events_of r).broken ∷ (events_of r).shed ∷ []))

-- the feed of the bar b to the packed stand answers f: a refusal leaves the rows, and an answer hands over the stand and what was made, broken and shed
pub record FedHanded (ns cs es : List (List ℕ)) (m : Stores) (b : Bar) (f : ℕ) (ns' cs' es' : List (List ℕ)) (m' : Stores) : Type 0 where
  pub made : ℕ
  pub broken : ℕ
  pub shed : ℕ
  pub stand : Stand
  pub feed : FeedIs (packed ns cs) m b f made broken shed stand m'
  pub refused : (f ≡ 0 → ⊥) → (ns' ≡ ns) × (cs' ≡ cs) × (es' ≡ es)
  pub answered : f ≡ 0 → (ns' ≡ numbers_with stand ns) × (cs' ≡ counts_with stand cs) × (es' ≡ set es 0 (made ∷ broken ∷ shed ∷ []))

pub record UpdateHanded (ns cs es : List (List ℕ)) (m : Stores) (b : Bar) (f : ℕ) (ns' cs' es' : List (List ℕ)) (m' : Stores) : Type 0 where
  pub before : (failed_before ns cs es m ≡ 0 → ⊥) → (f ≡ failed_before ns cs es m) × (ns' ≡ ns) × (cs' ≡ cs) × (es' ≡ es) × (m' ≡ m)
  pub fed : failed_before ns cs es m ≡ 0 → FedHanded ns cs es m b f ns' cs' es' m'

-- ---- a list of bars: questions 1, 2, 17 and 3, then 14, whether stand and sums have a place, then what the batch call answers

unfoldable pub failed_first_if : ℕ → Bool → ℕ
failed_first_if zero true = 0
failed_first_if zero false = 14
failed_first_if (suc n) t = suc n

unfoldable pub failed_first : FreshAnswer → List (List ℕ) → List (List ℕ) → List (List ℕ) → ℕ
unfolding failed_first_if rows_there
failed_first a ns cs ss = failed_first_if a.refused (rows_there ns cs && leb 1 (length ss))

-- the answer r of the batch call, whose number is f, is handed over
pub record SumsHanded (minimum most power ratio : ℕ) (ns cs ss : List (List ℕ)) (m : Stores) (bars : List Bar) (f : ℕ) (ns' cs' ss' : List (List ℕ)) (m' : Stores) : Type 0 where
  pub answer : BatchAnswer
  pub batch : BatchIs minimum most power ratio m bars (Ok answer) m'
  pub number : f ≡ failed_of answer
  pub numbers : ns' ≡ numbers_with answer.stand ns
  pub counts : cs' ≡ counts_with answer.stand cs
  pub sums : ss' ≡ set ss 0 (answer.events.made ∷ answer.events.broken ∷ answer.events.shed ∷ answer.fed ∷ [])

pub record BatchHanded (minimum most power ratio : ℕ) (ns cs ss : List (List ℕ)) (m : Stores) (bars : List Bar) (f : ℕ) (ns' cs' ss' : List (List ℕ)) (m' : Stores) : Type 0 where
  pub before : (failed_first (fresh_of minimum most power ratio m) ns cs ss ≡ 0 → ⊥)
      → (f ≡ failed_first (fresh_of minimum most power ratio m) ns cs ss) × (ns' ≡ ns) × (cs' ≡ cs) × (ss' ≡ ss) × (m' ≡ m)
  pub fed : failed_first (fresh_of minimum most power ratio m) ns cs ss ≡ 0 → SumsHanded minimum most power ratio ns cs ss m bars f ns' cs' ss' m'
