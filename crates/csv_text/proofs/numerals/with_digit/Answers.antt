use Rattle.csv_text.specs.Code.Numerals.{with_digit}
use Rattle.csv_text.proofs.NumeralLaws.{stopped}
use Rattle.csv_text.proofs.numerals.with_digit.Goals as goal

pub returns : goal.returns
unfolding with_digit
returns c = rw (c.min.ensures, c.saturating_add.ensures, c.saturating_mul.ensures, c.from.ensures, c.saturating_sub.ensures) (stopped c.args.n _)
