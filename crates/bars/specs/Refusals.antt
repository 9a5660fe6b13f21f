-- The numbers of the questions, as documents 01 and 02 have them. Definitions only.
use Rattle.std.specs.Prelude.{ℕ, Result, Ok, Err}
use Rattle.bars.specs.declared.refusals.Question.{Question}
use Rattle.bars.specs.declared.refusals.Question.TheVariants.{MinimumLength, MostStrokes, Rooms, Sound, Time, Prices, Volumes, LowAtMostHigh, NotEarlier, RawRoom, UnfinishedRoom, StrokeRoom, Exists, OutputRoom, Summary, Places, Record, Digits}

abbrev pub number : Question → ℕ
number MinimumLength = 1
number MostStrokes = 2
number Rooms = 3
number Sound = 4
number Time = 5
number Prices = 6
number Volumes = 7
number LowAtMostHigh = 8
number NotEarlier = 9
number RawRoom = 10
number UnfinishedRoom = 11
number StrokeRoom = 12
number Exists = 13
number OutputRoom = 14
number Summary = 15
number Places = 17
number Record = 18
number Digits = 19

-- the number of the question that a call was refused with, and 0 where it was not refused
abbrev pub asked : {A : Type 0} → Result A Question → ℕ
asked (Ok x) = 0
asked (Err q) = number q
