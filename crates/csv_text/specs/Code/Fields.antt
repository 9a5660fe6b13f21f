-- What the code keeps of a record's fields. Definitions only.
use Rattle.std.specs.Prelude.{ℕ, ◌≤◌, ◌<◌, ◌≡◌, Bool, ◌&&◌, List, ◌++◌, length, Some, None, ltb, ℤ, Float}
use Rattle.std.specs.Borrow.{Bor}
use Rattle.std.specs.Prelude as Std
use Rattle.std.proofs.Math.Option.{Option, none, some}
use Rattle.bars.specs.declared.Bar.{Bar}
use Rattle.csv_text.specs.declared.numerals.Numeral.{Numeral}
use Rattle.csv_text.specs.declared.records.Fields as F
use Rattle.csv_text.specs.Written.{Record, text_of, end_text}
use Rattle.csv_text.specs.Values.{nearest_of, seconds_by}
use Rattle.csv_text.specs.Code.Numerals.{numeral_of}

unfoldable pub numerals_of : Record → F.Fields
unfolding numeral_of
numerals_of r =
    record {
      time = numeral_of r.time.number;
      «open» = numeral_of r.«open».number;
      close = numeral_of r.close.number;
      high = numeral_of r.high.number;
      low = numeral_of r.low.number;
      vol = numeral_of r.vol.number;
      amount = numeral_of r.amount.number;
    }

-- the code's answer where o is read, with the record's length
abbrev pub ReadsRecord : Option Record → Std.Option (F.Fields × ℕ) → Type 0
ReadsRecord none None = Unit {0}
ReadsRecord none (Some a) = ⊥
ReadsRecord (some r) None = ⊥
ReadsRecord (some r) (Some a) = (a.0 ≡ numerals_of r) × (a.1 ≡ length (text_of r))

-- the text behind the record's end, from the text behind the last field on
abbrev pub ReadsEnd : List ℕ → Option Bool → Std.Option (Bor (List ℕ)) → Type 0
ReadsEnd t none None = Unit {0}
ReadsEnd t none (Some r) = ⊥
ReadsEnd t (some c) None = ⊥
ReadsEnd t (some c) (Some r) = t ≡ end_text c ++ r.now

unfoldable pub is_few : Numeral → Bool
is_few n = ltb n.digits 1000000000000000

unfoldable pub few_digits_in : F.Fields → Bool
unfolding is_few
few_digits_in f = is_few f.time && (is_few f.«open» && (is_few f.close && (is_few f.high && (is_few f.low && (is_few f.vol && is_few f.amount)))))

-- what a value asks of a numeral
pub record Fits (n : Numeral) : Type 0 where
  pub digits : n.digits < 1000000000000000
  pub places : n.places ≤ 22

pub record FieldsFit (f : F.Fields) : Type 0 where
  pub time : Fits f.time
  pub «open» : Fits f.«open»
  pub close : Fits f.close
  pub high : Fits f.high
  pub low : Fits f.low
  pub vol : Fits f.vol
  pub amount : Fits f.amount

abbrev pub value_in : Numeral → Float
value_in n = nearest_of n.minus n.digits n.places

unfoldable pub bar_in : ℤ → F.Fields → Bar
unfolding seconds_by nearest_of
bar_in id f =
    record {
      time = seconds_by f.time.minus f.time.digits;
      id = id;
      «open» = value_in f.«open»;
      close = value_in f.close;
      high = value_in f.high;
      low = value_in f.low;
      vol = value_in f.vol;
      amount = value_in f.amount;
    }
