-- Volumes and amounts from zero up, and minus zero told by the highest of a float's bits. Assumes nothing.
use Prim.Native.Nat.{ℕ, zero, suc, ◌+◌, ◌%◌, ◌/◌}
use mathlib.Core.Path.{◌≡◌, refl, sym, ap, subst, ◌∙◌}
use mathlib.Core.Bool.{Bool, true, false, not, ◌&&◌, cond}
use mathlib.Core.Logic.{inl, inr}
use lib.Dec.{T, leb, ltb, eqb}
use lib.Ieee.{Float, nan, inf, fin, Format, binary64, prec, low, hid, ones, top, lt, eq, le, odd, is_nan, fits, of_fields, of_bits, to_bits}
use lib.Ieee.Bits.{of_bits-to_bits}
use lib.Ieee.Fits.{and_r}
use borrow.Author.Tests.{lt-ltb, le-ltb, le-leb, lt-leb}
use Rattle.arith.specs.Sums.{zero_f}
use Rattle.arith.proofs.Tests.{yes, holds, fails}
use Rattle.arith.proofs.FloatOrder.{lt-or_ge, le_right, not-nan}
use Rattle.arith.proofs.FromZero.{NonNeg}
use Rattle.bars.specs.Questions.{has_minus, from_zero}

pub from_zero_lem : (x : Float) → T (from_zero x) → NonNeg x
unfolding from_zero le lt eq has_minus
from_zero_lem nan h = h
from_zero_lem (inf true) h = h
from_zero_lem (inf false) h = tt
from_zero_lem (fin true m e) h = and_r (le zero_f (fin true m e)) false h
from_zero_lem (fin false m e) h = tt

-- ---- the sign that a pattern is read with

-- x is NaN, or its sign is s
abbrev Signed : Bool → Float → Type 0
Signed s nan = Unit {0}
Signed s (inf t) = t ≡ s
Signed s (fin t m e) = t ≡ s

odd-signed : (d : ℕ) (s : Bool) (q k l : ℕ) → Signed s (odd d s q k l)
unfolding odd
odd-signed d s zero k l = refl
odd-signed d s (suc q) k l = refl

cond_signed : (s c : Bool) (x y : Float) → Signed s x → Signed s y → Signed s (cond c x y)
cond_signed s true x y p q = p
cond_signed s false x y p q = q

fields-signed : (f : Format) (s : Bool) (x t : ℕ) → Signed s (of_fields f s x t)
unfolding of_fields
fields-signed f s zero t = odd-signed (prec f) s t 0 (low f)
fields-signed f s (suc x) t =
    cond_signed s (eqb (suc x) (ones f)) (cond (eqb t 0) (inf s) nan) (odd (prec f) s (hid f + t) x (low f)) (cond_signed s (eqb t 0) (inf s) nan refl tt)
    (odd-signed (prec f) s (hid f + t) x (low f))

-- the sign is the highest bit
bits_signed : (f : Format) (x : Float) → T (fits f x) → Signed (leb (top f) (to_bits f x)) x
unfolding of_bits
bits_signed f x h =
    let n = to_bits f x in
    subst (Signed (leb (top f) n)) (of_bits-to_bits f x h) (fields-signed f (leb (top f) n) (n % top f / hid f) (n % hid f))

-- ---- from zero up, by that bit

ltb_not : (n c : ℕ) → ltb n c ≡ not (leb c n)
ltb_not n c = elim (lt-or_ge n c) [ inl h ↦ rw (lt-ltb n c h, lt-leb c n h) | inr h ↦ rw (le-ltb n c h, le-leb c n h) ]

-- what is at least zero has a minus sign only where it is minus zero
minus-at : (s : Bool) (x : Float) → T (le zero_f x) → Signed s x → not s ≡ from_zero x
unfolding from_zero le lt eq has_minus
minus-at s nan h e = absurd h
minus-at s (inf true) h e = absurd h
minus-at s (inf false) h e = ap not (sym e)
minus-at s (fin t m k) h e = ap not (sym e) ∙ sym (ap (λ (b : Bool). b && not t) (yes (le zero_f (fin t m k)) h))

-- the test of the code, where x is at least zero
pub sign_bit : (x : Float) → le zero_f x ≡ true → fits binary64 x ≡ true → ltb (to_bits binary64 x) 9223372036854775808 ≡ from_zero x
sign_bit x h f = ltb_not (to_bits binary64 x) 9223372036854775808 ∙ minus-at (leb 9223372036854775808 (to_bits binary64 x)) x (holds h) (bits_signed binary64 x (holds f))

pub no_nan : (x : Float) → le zero_f x ≡ true → T (not (is_nan x))
no_nan x h = fails (not-nan x (le_right zero_f x (holds h)))
