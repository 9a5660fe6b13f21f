-- What the reading means, both ways, and what a value is. The proofs are `reads-back` of proofs/BothWays and `one_division` of proofs/Quotients. Definitions only.
use Rattle.std.specs.Prelude.{ℕ, ◌^◌, ◌<◌, ◌≤◌, Bool, false, ◌&&◌, not, cond, ◌≡◌, List, [], ◌++◌, eqb, pos, Float}
use Rattle.std.proofs.Math.Option.{some}
use Rattle.std.specs.Float.Ieee as I
use Rattle.std.specs.Float.{binary64}
use Rattle.std.specs.Float.Ieee.Exact.{HasValue}
use Rattle.csv_text.specs.Written.{Record, IsRecord, text_of}
use Rattle.csv_text.specs.Reading.{record_at}
use Rattle.csv_text.specs.Values.{nearest_of}

-- the text t begins with the record r: anything may be behind its CRLF, and nothing where it has none
pub record BeginsWith (t : List ℕ) (r : Record) : Type 0 where
  pub rest : List ℕ
  pub is : t ≡ text_of r ++ rest
  pub last : r.crlf ≡ false → rest ≡ []

pub record ReadsBack : Type 0 where
  -- the text of a record reads back to it, whatever is behind its CRLF
  pub back : (t : List ℕ) (r : Record) → IsRecord r → BeginsWith t r → record_at t ≡ some r
  -- what is read is a record, and the text begins with its text
  pub only : (t : List ℕ) (r : Record) → record_at t ≡ some r → IsRecord r × BeginsWith t r

-- a whole number as a float
abbrev pub as_float : ℕ → Float
as_float n = I.of_int binary64 (pos n)

-- for whole numbers below 10^15 over a power of ten up to 10^22
pub record OneDivision : Type 0 where
  -- both are floats exactly
  pub whole : (n : ℕ) → n < 10 ^ 15 → HasValue (as_float n) false n 1
  pub power : (k : ℕ) → k ≤ 22 → HasValue (as_float (10 ^ k)) false (10 ^ k) 1
  -- so the float nearest is their quotient, rounded once, with the sign given to it afterwards and only where it is not zero
  pub quotient : (minus : Bool) (n k : ℕ) → n < 10 ^ 15 → k ≤ 22
      → nearest_of minus n k ≡ cond (minus && not (eqb n 0)) (I.neg (I.div binary64 (as_float n) (as_float (10 ^ k)))) (I.div binary64 (as_float n) (as_float (10 ^ k)))
