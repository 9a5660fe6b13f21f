-- Whether a run of so many strokes from a place on exists, with no sum that could be too large. Assumes nothing.
use Prim.Native.Nat.{ℕ, ◌+◌, ◌-◌, ◌≤◌, ◌<◌}
use native.Mathlib.Omega.{arith}
use mathlib.Core.Path.{◌≡◌, ◌∙◌, ap, sym}
use mathlib.Core.Bool.{Bool, false}
use lib.Dec.{leb, leb→le, le→leb}
use borrow.Author.Tests.{lt-leb}
use Rattle.std.specs.Prelude.{MatchOption, SomeIff, None, Some}
use Rattle.std.specs.Prelude as Std
use Rattle.arith.proofs.Tests.{same}

pub too_long : (first count n : ℕ) → n < count → false ≡ leb (first + count) n
too_long first count n h = sym (lt-leb (first + count) n (omega arith))

pub fits-behind : (first count n : ℕ) → count ≤ n → leb first (n - count) ≡ leb (first + count) n
fits-behind first count n h =
    same (leb first (n - count)) (leb (first + count) n)
    (λ t. let k = leb→le first (n - count) t in le→leb (first + count) n (omega arith))
    (λ t. let k = leb→le (first + count) n t in le→leb first (n - count) (omega arith))

-- o is what is left of n behind count, if anything is, and r what it is asked
pub run_left : (first count n : ℕ) (o : Std.Option ℕ) (r : Bool) (Q : ℕ → Type 0) → SomeIff o (count ≤ n) (n - count) → MatchOption o (r ≡ false) Q → ((x : ℕ) → Q x → r ≡ leb first x) → r ≡ leb (first + count) n
run_left first count n None r Q s m q = m ∙ too_long first count n (omega (arith, s))
run_left first count n (Some x) r Q s m q = q x m ∙ ap (leb first) s.1 ∙ fits-behind first count n s.0
