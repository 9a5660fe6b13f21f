-- What the calls answer of a text and the place of its first record: questions 18 and 19 of document 02's request four, then 5 to 8. Definitions only.
use Rattle.std.specs.Prelude.{ℕ, zero, suc, Bool, true, false, cond, List, length, leb, Result, Ok, Err}
use Rattle.std.proofs.Math.Option.{Option, none, some}
use Rattle.bars.specs.declared.Bar.{Bar}
use Rattle.bars.specs.Questions.{first_failed}
use Rattle.bars.specs.declared.refusals.Question.{Question}
use Rattle.bars.specs.Refusals.{number}
use Rattle.csv_text.specs.Written.{Record, text_of}
use Rattle.csv_text.specs.Reading.{record_at}
use Rattle.csv_text.specs.Values.{question19, bar_of}

-- a bar and the record's length in bytes, or the number of the first question that was answered "no"
pub data Import : Type 0 where
  Read : Bar → ℕ → Import
  Refused : ℕ → Import

-- as the code answers
abbrev pub import_of : Result (Bar × ℕ) Question → Import
import_of (Ok r) = Read r.0 r.1
import_of (Err q) = Refused (number q)

-- Question 18: does the text begin with a record, and is its place at most 2^31 - 1?
unfoldable pub question18 : ℕ → List ℕ → Option Record
unfolding record_at
question18 place t = cond (leb place 2147483647) (record_at t) none

-- the bar and the record's length in bytes, quotes and CRLF included
unfoldable pub answered : ℕ → Record → Bool → Import
unfolding bar_of text_of
answered place r true = Read (bar_of place r) (length (text_of r))
answered place r false = Refused 19

unfoldable pub asked19 : ℕ → Option Record → Import
unfolding answered question19
asked19 place none = Refused 18
asked19 place (some r) = answered place r (question19 r)

-- by questions 18 and 19 alone
unfoldable pub read_text : ℕ → List ℕ → Import
unfolding asked19 question18
read_text place t = asked19 place (question18 place t)

-- then 5 to 8, by the number of the first that fails
unfoldable pub unless_failed : ℕ → Bar → ℕ → Import
unless_failed zero b n = Read b n
unless_failed (suc k) b n = Refused (suc k)

unfoldable pub asked5to8 : Import → Import
unfolding unless_failed first_failed
asked5to8 (Read b n) = unless_failed (first_failed none b) b n
asked5to8 (Refused k) = Refused k

unfoldable pub read_record : ℕ → List ℕ → Import
unfolding asked5to8 read_text
read_record place t = asked5to8 (read_text place t)
