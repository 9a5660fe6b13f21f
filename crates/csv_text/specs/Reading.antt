-- The record at a text's beginning, read from left to right. What is read comes with the text behind it; none: the text does not begin so. That a text is read so exactly
-- where it begins with the text of a record is `ReadsBack` of Claims. Definitions only.
use Rattle.std.specs.Prelude.{ℕ, Bool, true, false, ◌&&◌, cond, List, [], ◌∷◌, length, leb, eqb}
use Rattle.std.proofs.Math.Option.{Option, none, some}
use Rattle.bars.specs.Lists.{skip_while}
use Rattle.csv_text.specs.Written.{Number, Field, Record, is_digit, minus_byte, point_byte, quote_byte, comma_byte, cr_byte, lf_byte}

-- ---- bytes

unfoldable pub begins : ℕ → List ℕ → Bool
begins b [] = false
begins b (x ∷ l) = eqb x b

unfoldable pub behind : List ℕ → List ℕ
behind [] = []
behind (x ∷ l) = l

-- the digits at the text's beginning, and what is behind them
unfoldable pub digits_at : List ℕ → List ℕ
unfolding is_digit
digits_at [] = []
digits_at (x ∷ l) = let r = digits_at l in cond (is_digit x) (x ∷ r) []

unfoldable pub behind_digits : List ℕ → List ℕ
unfolding skip_while is_digit
behind_digits t = skip_while is_digit t

-- ---- a number

-- behind the point: 1 to 22 digits
unfoldable pub places_read : Bool → List ℕ → List ℕ → List ℕ → Option (Number × List ℕ)
places_read m ds [] t = none
places_read m ds (p ∷ ps) t = cond (leb (length (p ∷ ps)) 22) (some (record { minus = m; whole = ds; places = p ∷ ps }, t)) none

unfoldable pub point_read : Bool → List ℕ → Bool → List ℕ → Option (Number × List ℕ)
unfolding places_read digits_at behind_digits behind
point_read m ds false t = some (record { minus = m; whole = ds; places = [] }, t)
point_read m ds true t = places_read m ds (digits_at (behind t)) (behind_digits (behind t))

-- before it: a digit or more
unfoldable pub whole_read : Bool → List ℕ → List ℕ → Option (Number × List ℕ)
unfolding point_read begins
whole_read m [] t = none
whole_read m (d ∷ ds) t = point_read m (d ∷ ds) (begins point_byte t) t

unfoldable pub sign_read : Bool → List ℕ → Option (Number × List ℕ)
unfolding whole_read digits_at behind_digits behind
sign_read true t = whole_read true (digits_at (behind t)) (behind_digits (behind t))
sign_read false t = whole_read false (digits_at t) (behind_digits t)

unfoldable pub number_at : List ℕ → Option (Number × List ℕ)
unfolding sign_read begins
number_at t = sign_read (begins minus_byte t) t

-- ---- a field

unfoldable pub plain : Option (Number × List ℕ) → Option (Field × List ℕ)
plain none = none
plain (some (n, t)) = some (record { quoted = false; number = n }, t)

-- a quote behind the number closes the field
unfoldable pub closed : Option (Number × List ℕ) → Option (Field × List ℕ)
unfolding begins behind
closed none = none
closed (some (n, t)) = cond (begins quote_byte t) (some (record { quoted = true; number = n }, behind t)) none

unfoldable pub quote_read : Bool → List ℕ → Option (Field × List ℕ)
unfolding plain closed number_at behind
quote_read true t = closed (number_at (behind t))
quote_read false t = plain (number_at t)

unfoldable pub field_at : List ℕ → Option (Field × List ℕ)
unfolding quote_read begins
field_at t = quote_read (begins quote_byte t) t

-- with a comma before it
unfoldable pub next_at : List ℕ → Option (Field × List ℕ)
unfolding field_at begins behind
next_at t = cond (begins comma_byte t) (field_at (behind t)) none

-- ---- the record

unfoldable pub is_empty : List ℕ → Bool
is_empty [] = true
is_empty (x ∷ l) = false

-- whether CRLF ends the record, or the text; anything else does not
unfoldable pub end_at : List ℕ → Option Bool
unfolding is_empty begins behind
end_at t = cond (is_empty t) (some false) (cond (begins cr_byte t && begins lf_byte (behind t)) (some true) none)

-- what is read, and then what is read of the text behind it
unfoldable pub and_then : {A B : Type 0} → Option (A × List ℕ) → (A → List ℕ → Option B) → Option B
and_then none k = none
and_then (some (a, t)) k = k a t

-- the time: a field without a point
unfoldable pub whole_only : Field → List ℕ → Option (Field × List ℕ)
unfolding is_empty
whole_only f t = cond (is_empty f.number.places) (some (f, t)) none

unfoldable pub time_at : List ℕ → Option (Field × List ℕ)
unfolding and_then field_at whole_only
time_at t = and_then (field_at t) whole_only

unfoldable pub ended : (Bool → Record) → Option Bool → Option Record
ended r none = none
ended r (some crlf) = some (r crlf)

unfoldable pub record_at : List ℕ → Option Record
unfolding and_then time_at next_at ended end_at
record_at t0 =
    and_then (time_at t0)
    (λ time t1. and_then (next_at t1)
    (λ opened t2. and_then (next_at t2)
    (λ close t3. and_then (next_at t3)
    (λ high t4. and_then (next_at t4)
    (λ low t5. and_then (next_at t5)
    (λ vol t6. and_then (next_at t6)
    (λ amount t7. ended (λ crlf. record { time = time; «open» = opened; close = close; high = high; low = low; vol = vol; amount = amount; crlf = crlf }) (end_at t7))))))))
