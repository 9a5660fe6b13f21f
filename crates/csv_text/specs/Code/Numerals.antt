-- What the code keeps of a number while it reads: its sign, its digits as a whole number of at most 10^15, and how many places it has. Definitions only.
use Rattle.std.specs.Borrow.{Bor}
use Rattle.std.specs.Prelude.{ℕ, min, ◌≡◌, Bool, List, length, Some, None}
use Rattle.std.specs.Prelude as Std
use Rattle.std.proofs.Math.Option.{Option, none, some}
use Rattle.bars.specs.Lists.{fold_left}
use Rattle.csv_text.specs.declared.numerals.Numeral.{Numeral}
use Rattle.csv_text.specs.Written.{Number, point_byte}
use Rattle.csv_text.specs.Reading.{begins, point_read}
use Rattle.csv_text.specs.Values.{digits_of, tenfold, whole_number}

abbrev pub at_most : ℕ → ℕ
at_most n = min n 1000000000000000

-- a digit more; the sum stops at 10^15, where the number has too many digits already
unfoldable pub with_digit : ℕ → ℕ → ℕ
with_digit n b = at_most (tenfold n b)

unfoldable pub numeral_of : Number → Numeral
unfolding whole_number
numeral_of n = record { minus = n.minus; digits = at_most (whole_number (digits_of n)); places = length n.places }

-- r is what the code answers where o is read: the numeral of the number that p finds in it, and the text behind it
abbrev pub Reads : {A : Type 0} → (A → Number) → Option (A × List ℕ) → Std.Option (Numeral × Bor (List ℕ)) → Type 0
Reads p none None = Unit {0}
Reads p none (Some r) = ⊥
Reads p (some (a, u)) None = ⊥
Reads p (some (a, u)) (Some r) = (r.0 ≡ numeral_of (p a)) × (r.1.now ≡ u)

-- the number is read whose digits before the point, ds, make n and end where the text begins
abbrev pub PointRead : List ℕ → Bool → ℕ → Std.Option (Numeral × Bor (List ℕ)) → Type 0
PointRead t minus n r = (ds : List ℕ) → n ≡ fold_left with_digit 0 ds → Reads (λ (x : Number). x) (point_read minus ds (begins point_byte t) t) r
