-- Which patterns are a NaN's, by the tests of src/floats.rt. Assumes nothing.
use mathlib.Core.Path.{◌≡◌, refl, sym, subst}
use mathlib.Core.Bool.{Bool, not}
use Prim.Native.Nat.{ℕ, ◌%◌, ◌<◌, ◌≤◌}
use lib.Dec.{T, lt→ltb}
use lib.Ieee.{Float, nan, inf, fin, binary64, is_nan, nan_bits, of_bits}
use lib.Ieee.Bits.{nan_bits_is, nan_bits_above}
use borrow.Author.Tests.{le-ltb}

-- f64::NAN
pub nan-made : of_bits binary64 9221120237041090560 ≡ nan
unfolding of_bits
nan-made = refl

is-nan : (x : Float) → T (is_nan x) → nan ≡ x
unfolding is_nan
is-nan nan t = refl
is-nan (inf s) t = absurd t
is-nan (fin s m e) t = absurd t

pub nan_pattern : (n : ℕ) → 9218868437227405312 < n % 9223372036854775808 → nan ≡ of_bits binary64 n
nan_pattern n h = is-nan (of_bits binary64 n) (subst T (nan_bits_is binary64 n) (subst T (sym (nan_bits_above binary64 n)) (lt→ltb 9218868437227405312 (n % 9223372036854775808) h)))

pub no_nan_pattern : (n : ℕ) → n % 9223372036854775808 ≤ 9218868437227405312 → T (not (nan_bits binary64 n))
no_nan_pattern n h = subst (λ (b : Bool). T (not b)) (sym (nan_bits_above binary64 n)) (subst (λ (b : Bool). T (not b)) (sym (le-ltb 9218868437227405312 (n % 9223372036854775808) h)) tt)
