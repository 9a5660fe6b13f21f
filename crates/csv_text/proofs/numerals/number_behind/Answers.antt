use Rattle.std.proofs.Common.{false, rules, inl, inr}
use Rattle.csv_text.proofs.NumeralLaws.{point_none, point_0, point_23, point_22}
use Rattle.csv_text.proofs.numerals.number_behind.Goals as goal

pub returns-in_default : goal.returns-in_default
returns-in_default c = point_none c.args.text false c.args.n c.in_default.ensures

pub returns-then-places-eq0 : goal.returns-then-places-eq0
returns-then-places-eq0 c = let a = c.args in elim c.then-places-eq0.either [
  | inl h ↦ point_0 a.text.now _ false a.n c.in-Some.ensures _ c.split_digits.ensures.0 h
  | inr h ↦ point_23 a.text.now _ false a.n c.in-Some.ensures _ c.split_digits.ensures.0 h.1
]

pub returns : goal.returns
returns c = let a = c.args in point_22 a.text.now _ false a.n c.in-Some.ensures _ c.split_digits.ensures.0 _ _ c.split_digits.ensures.1 (search rules) (search rules) (search rules)
