-- Questions 5 to 9 of document 01, question 6 as document 02's third request has it, as tests of a bar: true is "yes". Definitions only.
use Rattle.std.specs.Prelude.{ℕ, Bool, true, false, not, ◌&&◌, ◌||◌, ℤ, pos, negsuc, Float}
use Rattle.std.specs.Prelude as Std
use Rattle.std.proofs.Math.Option.{Option, none, some}
use Rattle.std.specs.Int.Signed.{le_z}
use Rattle.std.specs.Float.{nan, inf, fin}
use Rattle.std.specs.Float.Ieee.{le, eq}
use Rattle.bars.specs.declared.Bar.{Bar}
use Rattle.arith.specs.Order.{abs_of}
use Rattle.arith.specs.Sums.{zero_f}

-- ---- the bounds: -2^40 and 2^40, 2^-20 and 2^30, 0 and 2^50

unfoldable pub first_time : ℤ
first_time = negsuc 1099511627775

unfoldable pub last_time : ℤ
last_time = pos 1099511627776

unfoldable pub least_price : Float
least_price = fin false 1 (negsuc 19)

unfoldable pub most_price : Float
most_price = fin false 1 (pos 30)

unfoldable pub most_volume : Float
most_volume = fin false 1 (pos 50)

-- ---- the questions

-- Time from -2^40 to 2^40?
unfoldable pub question5 : Bar → Bool
unfolding first_time last_time
question5 b = le_z first_time b.time && le_z b.time last_time

unfoldable pub has_minus : Float → Bool
has_minus nan = false
has_minus (inf s) = false
has_minus (fin s m e) = s

-- zero without a minus sign
unfoldable pub is_plain_zero : Float → Bool
unfolding eq has_minus
is_plain_zero x = eq x zero_f && not (has_minus x)

unfoldable pub in_price_range : Float → Bool
unfolding le least_price most_price
in_price_range x = le least_price x && le x most_price

unfoldable pub is_price : Float → Bool
unfolding is_plain_zero in_price_range abs_of
is_price x = is_plain_zero x || in_price_range (abs_of x)

-- Is each of the four prices zero or of magnitude 2^-20 to 2^30, minus zero barred?
unfoldable pub question6 : Bar → Bool
unfolding is_price
question6 b = (is_price b.«open» && is_price b.close) && (is_price b.high && is_price b.low)

-- from zero up. What is not below zero and has a minus sign is minus zero, and it is barred.
unfoldable pub from_zero : Float → Bool
unfolding le has_minus
from_zero x = le zero_f x && not (has_minus x)

unfoldable pub is_volume : Float → Bool
unfolding le from_zero most_volume
is_volume x = from_zero x && le x most_volume

-- vol and amount from 0 to 2^50, minus zero barred?
unfoldable pub question7 : Bar → Bool
unfolding is_volume
question7 b = is_volume b.vol && is_volume b.amount

-- low at most high?
unfoldable pub question8 : Bar → Bool
unfolding le
question8 b = le b.low b.high

-- Not earlier than the last accepted bar, if there is one?
unfoldable pub question9 : Option Bar → Bar → Bool
question9 none b = true
question9 (some r) b = le_z r.time b.time

-- questions 5 to 8, which ask of the bar alone
unfoldable pub is_bar : Bar → Bool
unfolding question5 question6 question7 question8
is_bar b = (question5 b && question6 b) && (question7 b && question8 b)

-- ---- the first that fails

-- the number of the first of the five that is answered "no", and 0 where none is
unfoldable pub first_no : Bool → Bool → Bool → Bool → Bool → ℕ
first_no false f g h i = 5
first_no true false g h i = 6
first_no true true false h i = 7
first_no true true true false i = 8
first_no true true true true false = 9
first_no true true true true true = 0

-- the first question of 5 to 9 that the bar fails, where this is the last accepted bar: 0 where it passes all
unfoldable pub first_failed : Option Bar → Bar → ℕ
unfolding first_no question5 question6 question7 question8 question9
first_failed o b = first_no (question5 b) (question6 b) (question7 b) (question8 b) (question9 o b)

-- question 9 by the last accepted bar's time alone, if there is such a bar
unfoldable pub not_earlier : Std.Option ℤ → Bar → Bool
not_earlier Std.None b = true
not_earlier (Std.Some t) b = le_z t b.time

unfoldable pub first_failed_after : Std.Option ℤ → Bar → ℕ
unfolding first_no question5 question6 question7 question8 not_earlier
first_failed_after last b = first_no (question5 b) (question6 b) (question7 b) (question8 b) (not_earlier last b)
