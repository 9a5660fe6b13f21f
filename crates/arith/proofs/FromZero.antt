-- Floats from zero up, minus zero left out: an absolute value is one, and so is the sum of two. Assumes nothing.
use Rattle.std.proofs.Common.{ℕ, zero, suc, ◌+◌, ◌*◌, ◌^◌, Bool, true, false, cond, not, T, ltb, pos, zero-mul, arith, ltb→lt}
use lib.Dec.{not_T}
use lib.Ieee.{Float, nan, inf, fin, Format, up, down, lt, le, add, sum, round, units, odd, low, emax, prec}
use Rattle.arith.specs.Order.{abs_of}
use Rattle.arith.proofs.FloatOrder.{Number, AtMost, le_of}

-- x is a number and has no minus sign
abbrev pub NonNeg : Float → Type 0
NonNeg nan = ⊥
NonNeg (inf s) = T (not s)
NonNeg (fin s m e) = T (not s)

abbrev pub nought : Float
nought = fin false 0 (pos 0)

-- such a number is at least zero
pub zero-most : (x : Float) → NonNeg x → AtMost nought x
unfolding lt
zero-most nan n = absurd n
zero-most (inf true) n = absurd n
zero-most (inf false) n = record { left = tt; right = tt; test = tt }
zero-most (fin true m e) n = absurd n
zero-most (fin false m e) n =
    record {
      left = tt;
      right = tt;
      test = not_T (ltb (m * up e * 1) (0 * 1 * down e)) (λ k. let l = ltb→lt (m * up e * 1) (0 * 1 * down e) k in omega (arith, zero-mul (down e)));
    }

pub zero-le : (x : Float) → NonNeg x → T (le nought x)
zero-le x n = le_of nought x (zero-most x n)

-- ---- absolute values

pub abs_nonneg : (x : Float) → Number x → NonNeg (abs_of x)
unfolding abs_of
abs_nonneg nan n = absurd n
abs_nonneg (inf s) n = tt
abs_nonneg (fin s m e) n = tt

-- an absolute value is never below zero
pub abs-zero-le : (x : Float) → Number x → T (le nought (abs_of x))
abs-zero-le x n = zero-le (abs_of x) (abs_nonneg x n)

-- ---- sums

odd_nonneg : (d q k l : ℕ) → NonNeg (odd d false q k l)
unfolding odd
odd_nonneg d zero k l = tt
odd_nonneg d (suc q) k l = tt

cond_nonneg : (c : Bool) (x y : Float) → NonNeg x → NonNeg y → NonNeg (cond c x y)
cond_nonneg true x y p q = p
cond_nonneg false x y p q = q

units_nonneg : (f : Format) (q k : ℕ) → NonNeg (units f false q k)
unfolding units
units_nonneg f q k = cond_nonneg (ltb (q * 2 ^ k) (2 ^ (low f + suc (emax f)))) (odd (suc (prec f)) false q k (low f)) (inf false) (odd_nonneg (suc (prec f)) q k (low f)) tt

pub round_nonneg : (f : Format) (n c : ℕ) → NonNeg (round f false n c)
unfolding round
round_nonneg f n c = units_nonneg f _ _

pub add_nonneg : (f : Format) (x y : Float) → NonNeg x → NonNeg y → NonNeg (add f x y)
unfolding add sum
add_nonneg f nan y n o = absurd n
add_nonneg f (inf true) y n o = absurd n
add_nonneg f (inf false) nan n o = absurd o
add_nonneg f (inf false) (inf true) n o = absurd o
add_nonneg f (inf false) (inf false) n o = tt
add_nonneg f (inf false) (fin t m e) n o = tt
add_nonneg f (fin true m e) y n o = absurd n
add_nonneg f (fin false m e) nan n o = absurd o
add_nonneg f (fin false m e) (inf t) n o = o
add_nonneg f (fin false m e) (fin true k d) n o = absurd o
add_nonneg f (fin false m e) (fin false k d) n o = round_nonneg f (m * up e * down d + k * up d * down e) (down e * down d)
