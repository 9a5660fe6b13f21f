use Rattle.std.proofs.Common.{false, rules}
use Rattle.csv_text.proofs.NumeralLaws.{whole-none, whole-some}
use Rattle.csv_text.proofs.numerals.unsigned_at.Goals as goal

pub returns-then-is_empty : goal.returns-then-is_empty
returns-then-is_empty c = whole-none c.args.text.now false _ c.split_digits.ensures.0 (search rules)

pub returns : goal.returns
returns c = whole-some c.args.text.now false _ c.split_digits.ensures.0 _ _ _ c.split_digits.ensures.1 (search rules) (search rules) c.number_behind.ensures
