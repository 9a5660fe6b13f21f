use Rattle.std.proofs.Common.{refl, rules}
use mir.Syntax.{w32, w64}
use mir.ValLaws.{to_z-of_z}
use Rattle.csv_text.specs.Code.Fields.{bar_in}
use Rattle.csv_text.proofs.records.bar_of.Goals as goal

pub returns : goal.returns
unfolding bar_in
returns c = rw (to_z-of_z w64 c.seconds_of.result (search rules), to_z-of_z w32 c.args.id (search rules), c.seconds_of.ensures, c.value_of.ensures.0, c.value_of-2.ensures.0, c.value_of-3.ensures.0, c.value_of-4.ensures.0, c.value_of-5.ensures.0, c.value_of-6.ensures.0) refl
