-- Prices above zero, at zero and below it. Assumes nothing.
use Prim.Native.Nat.{ℕ}
use lib.IntN.{ℤ}
use mathlib.Core.Path.{◌≡◌, sym}
use mathlib.Core.Bool.{true, false, ◌&&◌}
use mathlib.Core.Logic.{inl, inr}
use lib.Dec.{T}
use lib.Ieee.{Float, nan, inf, fin, lt, le, eq, neg}
use lib.Ieee.Fits.{and_l, and_r}
use Rattle.arith.specs.Order.{abs_of}
use Rattle.arith.specs.Sums.{zero_f}
use Rattle.arith.proofs.Tests.{yes, no, holds, pair}
use Rattle.arith.proofs.FloatOrder.{Number, decide, or_r, eq-le, eq_sym, lt-le_trans}
use Rattle.bars.specs.declared.Bar.{Bar}
use Rattle.bars.specs.Questions.{least_price, most_price, is_plain_zero, in_price_range, is_price, from_zero, question6}

-- a price is no NaN
pub price-number : (x : Float) → T (is_price x) → Number x
unfolding is_price is_plain_zero in_price_range abs_of le lt eq
price-number nan h = h
price-number (inf s) h = tt
price-number (fin s m e) h = tt

-- a float with a minus sign is not in the range
not-minus : (m : ℕ) (e : ℤ) → T (in_price_range (fin true m e)) → ⊥
unfolding in_price_range lt least_price
not-minus m e h = lt-le_trans zero_f least_price (fin true m e) tt (and_l (le least_price (fin true m e)) (le (fin true m e) most_price) h)

-- what is in the range is a price
pub price_above : (x : Float) → T (in_price_range x) → T (is_price x)
unfolding is_price in_price_range abs_of le lt eq least_price most_price
price_above nan h = absurd h
price_above (inf true) h = absurd h
price_above (inf false) h = absurd h
price_above (fin true m e) h = absurd (not-minus m e h)
price_above (fin false m e) h = or_r (is_plain_zero (fin false m e)) (in_price_range (fin false m e)) h

-- so is what is in it where the sign is turned
pub price-below : (x : Float) → T (in_price_range (neg x)) → T (is_price x)
unfolding is_price in_price_range abs_of neg le lt eq least_price most_price
price-below nan h = absurd h
price-below (inf true) h = absurd h
price-below (inf false) h = absurd h
price-below (fin true m e) h = or_r (is_plain_zero (fin true m e)) (in_price_range (fin false m e)) h
price-below (fin false m e) h = absurd (not-minus m e h)

-- zero without a minus sign is zero and from zero up
pub plain-zero : (x : Float) → (eq x zero_f && from_zero x) ≡ is_plain_zero x
unfolding is_plain_zero from_zero
plain-zero x = elim (decide (eq x zero_f)) [
  | inl h ↦ rw (yes (eq x zero_f) h, yes (le zero_f x) (eq-le zero_f x (eq_sym x zero_f h)))
  | inr h ↦ rw (no (eq x zero_f) h)
]

-- ---- the tests of the code, one after the other

-- a bar above zero passes
two_above : (x y : Float) → T (in_price_range x && in_price_range y) → T (is_price x && is_price y)
two_above x y h =
    pair (is_price x) (is_price y) (price_above x (and_l (in_price_range x) (in_price_range y) h)) (price_above y (and_r (in_price_range x) (in_price_range y) h))

pub bar_above : (b : Bar) → ((in_price_range b.«open» && in_price_range b.close) && (in_price_range b.high && in_price_range b.low)) ≡ true → true ≡ question6 b
unfolding question6
bar_above b e =
    let first = in_price_range b.«open» && in_price_range b.close in
    let last = in_price_range b.high && in_price_range b.low in
    let p = two_above b.«open» b.close (and_l first last (holds e)) in
    let q = two_above b.high b.low (and_r first last (holds e)) in
    sym (yes (question6 b) (pair (is_price b.«open» && is_price b.close) (is_price b.high && is_price b.low) p q))

-- x is plain zero, or its size decides
module _ (x : Float) where
  pub zero-passes : is_plain_zero x ≡ true → true ≡ is_price x
  unfolding is_price
  zero-passes e = rw e

  pub size_decides : is_plain_zero x ≡ false → in_price_range (abs_of x) ≡ is_price x
  unfolding is_price
  size_decides e = rw e
