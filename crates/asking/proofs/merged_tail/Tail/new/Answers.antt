use mathlib.Core.Path.{refl}
use Rattle.std.proofs.lemmas.List.{length-replicate}
use Rattle.asking.proofs.merged_tail.Tail.new.Goals as goal

pub returns : goal.returns
returns g c = record { sized = record { times = length-replicate g.row.N _; ids = length-replicate g.row.N _; prices = length-replicate g.row.N _ }; base = refl; rows = refl }
