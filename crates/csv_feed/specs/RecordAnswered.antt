-- What the call answers, in the words of RecordCalls. Definitions only.
use Rattle.std.specs.Prelude.{ℕ, Result, Ok, Err}
use Rattle.bars.specs.declared.refusals.Question.{Question}
use Rattle.bars.specs.Refusals.{asked}
use Rattle.csv_text.specs.Records.{Import}
use Rattle.machine.specs.Feed.{Events}
use Rattle.strokes.specs.declared.Stand.{Stand}
use Rattle.strokes.specs.Lent.{Stores}
use Rattle.feed.specs.Answers.{events_in}
use Rattle.csv_feed.specs.declared.FedRecord.{FedRecord}
use Rattle.csv_feed.specs.RecordCalls.{RecordFed}

-- strokes made, broken and shed: none where the call was refused
abbrev pub events_of : Result FedRecord Question → Events
events_of (Ok x) = events_in x.events
events_of (Err q) = record { made = 0; broken = 0; shed = 0 }

-- the record's length, and 0 where the call was refused
abbrev pub length_of : Result FedRecord Question → ℕ
length_of (Ok x) = x.length
length_of (Err q) = 0

abbrev pub RecordAnswers : Stand → Stores → Import → Result FedRecord Question → Stand → Stores → Type 0
RecordAnswers s m i r s' m' = RecordFed s m i (asked r) (events_of r).made (events_of r).broken (events_of r).shed (length_of r) s' m'
