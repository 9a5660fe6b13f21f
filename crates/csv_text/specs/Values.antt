-- What a written number means: the float nearest it, or whole seconds; how many digits it has. Definitions only.
use Rattle.std.specs.Prelude.{ℕ, ◌+◌, ◌-◌, ◌*◌, ◌^◌, Bool, ◌&&◌, not, cond, List, ◌++◌, length, leb, eqb, ℤ, pos, neg_ℤ, Float}
use Rattle.std.specs.Float.Ieee as I
use Rattle.std.specs.Float.{binary64}
use Rattle.bars.specs.declared.Bar.{Bar}
use Rattle.bars.specs.Lists.{fold_left, skip_while, every}
use Rattle.csv_text.specs.Written.{Number, Field, Record, fields_of}

-- ---- digits

-- the digits of both sides of the point
abbrev pub digits_of : Number → List ℕ
digits_of n = n.whole ++ n.places

-- a digit more
abbrev pub tenfold : ℕ → ℕ → ℕ
tenfold n b = n * 10 + (b - 48)

-- digits as a whole number
unfoldable pub whole_number : List ℕ → ℕ
unfolding fold_left
whole_number ds = fold_left tenfold 0 ds

-- without the leading zeros, of either side of the point
unfoldable pub significant : List ℕ → List ℕ
unfolding skip_while
significant ds = skip_while (λ b. eqb b 48) ds

-- Question 19: has each number at most 15 digits without its leading zeros?
unfoldable pub few_digits : Field → Bool
unfolding significant
few_digits f = leb (length (significant (digits_of f.number))) 15

unfoldable pub question19 : Record → Bool
unfolding every few_digits fields_of
question19 r = every few_digits (fields_of r)

-- ---- values

-- The float nearest the written number, which is its digits as a whole number over a power of ten: `I.round` is IEEE 754's rounding of a fraction. A zero has no minus.
unfoldable pub nearest_of : Bool → ℕ → ℕ → Float
unfolding I.round
nearest_of minus n places = I.round binary64 (minus && not (eqb n 0)) n (10 ^ places)

unfoldable pub value_of : Field → Float
unfolding nearest_of whole_number
value_of f = nearest_of f.number.minus (whole_number (digits_of f.number)) (length f.number.places)

unfoldable pub seconds_by : Bool → ℕ → ℤ
seconds_by minus n = cond minus (neg_ℤ (pos n)) (pos n)

unfoldable pub seconds_of : Field → ℤ
unfolding seconds_by whole_number
seconds_of f = seconds_by f.number.minus (whole_number (digits_of f.number))

-- the bar of the record at this place
unfoldable pub bar_of : ℕ → Record → Bar
unfolding seconds_of value_of
bar_of place r =
    record {
      time = seconds_of r.time;
      id = pos place;
      «open» = value_of r.«open»;
      close = value_of r.close;
      high = value_of r.high;
      low = value_of r.low;
      vol = value_of r.vol;
      amount = value_of r.amount;
    }
