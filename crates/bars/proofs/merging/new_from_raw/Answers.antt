use Rattle.bars.specs.Bars.{merged_of, own}
use mathlib.Core.List.{[], ◌∷◌}
use mir.ValLaws.{to_z-of_z}
use mir.Syntax.{w64}
use mathlib.Core.Path.{refl}
use Rattle.bars.proofs.merging.new_from_raw.Goals as goal

pub returns : goal.returns
unfolding merged_of own
returns c = let b = c.args.b in let time = to_z-of_z w64 b.time (record { sfits = c.struct_told-1.given.0.1 }) in (λ i. record { bar = b; elements = time i ∷ [] }, refl)
