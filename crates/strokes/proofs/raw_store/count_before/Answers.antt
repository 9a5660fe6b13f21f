use mathlib.Core.Path.{ap, ◌∙◌}
use lib.IntN.{ℤ}
use lib.ListN.{length, take}
use lib.Signed.{lt_z}
use mir.Syntax.{w64}
use mir.ValLaws.{to_z-of_z}
use Rattle.std.specs.List.{take_while}
use Rattle.stores.proofs.Searching.{early_count}
use Rattle.strokes.proofs.raw_store.count_before.Goals as goal

pub returns : goal.returns
returns c =
    let a = c.args in
    let l = take a.n a.times.now in
    c.early.ensures ∙ ap (λ (t : ℤ). length (take_while (λ x. lt_z x t) l)) (to_z-of_z w64 a.t c.ranges.t) ∙ early_count a.t l
