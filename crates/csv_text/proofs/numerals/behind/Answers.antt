use Rattle.csv_text.proofs.NumeralLaws.{byte-behind}
use Rattle.csv_text.proofs.numerals.behind.Goals as goal

pub returns : goal.returns
returns c = byte-behind c.args.b c.args.text.now _ c.strip_prefix.ensures.cases
