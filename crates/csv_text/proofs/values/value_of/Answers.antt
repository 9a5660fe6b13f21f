use Rattle.std.proofs.Common.{inl, inr}
use native.Mathlib.Omega.{arith}
use Prim.Native.Nat.{◌^◌}
use lib.Dec.{le→leb}
use lib.Ieee.{in_float}
use Rattle.csv_text.proofs.Quotients.{one_division, value-minus, value-zero, value-plus}
use borrow.Author.Rules.{rules}
use Rattle.csv_text.proofs.values.value_of.Goals as goal

pub int_to_float-x : goal.int_to_float-x
unfolding in_float
int_to_float-x c = let h = c.requires.0 in le→leb c.args.n.digits (2 ^ 53) (omega arith)

pub returns-then-n-ne0 : goal.returns-then-n-ne0
returns-then-n-ne0 c = (value-minus c.args.n.minus c.args.n.digits c.args.n.places _ c.requires.0 c.requires.1 c.power_of_ten.ensures c.if-n.true (search rules), one_division)

pub returns-else-n : goal.returns-else-n
returns-else-n c =
    let n = c.args.n in (
      elim c.else-n.either [
        | inl z ↦ value-zero n.minus n.digits n.places _ c.requires.0 c.requires.1 c.power_of_ten.ensures z.1
        | inr m ↦ value-plus n.minus n.digits n.places _ c.requires.0 c.requires.1 c.power_of_ten.ensures m
      ],
      one_division,
    )
