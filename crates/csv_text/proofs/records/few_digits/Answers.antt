use Rattle.std.proofs.Common.{rules}
use Rattle.csv_text.specs.Code.Fields.{is_few, few_digits_in}
use Rattle.csv_text.proofs.records.few_digits.Goals as goal

pub returns : goal.returns
unfolding is_few few_digits_in
returns c = search rules
