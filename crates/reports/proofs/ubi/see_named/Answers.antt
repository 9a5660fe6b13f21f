use lib.IntN.{ℤ}
use lib.ListN.{take}
use mathlib.Core.List.{[], ◌∷◌}
use mathlib.Core.Path.{ap, sym, ◌∙◌}
use mir.Syntax.{w64}
use mir.ValLaws.{to_z-of_z}
use Rattle.bars.specs.Merging.{at_times}
use Rattle.stores.specs.Stores.{raw_bars}
use Rattle.stores.specs.Columns.{raw_in}
use Rattle.reports.proofs.UbiLaws.{named_none, named-one}
use Rattle.reports.proofs.ubi.see_named.Goals as goal

pub returns-in_default : goal.returns-in_default
returns-in_default c =
    let a = c.args in
    let s = take a.n (raw_bars (raw_in a.raw)) in
    let e = ap (λ (x : ℤ). at_times s (x ∷ [])) (to_z-of_z w64 a.t c.ranges.t) in
    named_none s a.e a.t (sym (c.in_default.ensures ∙ e))

pub returns : goal.returns
returns c =
    let a = c.args in
    let s = take a.n (raw_bars (raw_in a.raw)) in
    let e = ap (λ (x : ℤ). at_times s (x ∷ [])) (to_z-of_z w64 a.t c.ranges.t) in
    named-one s a.e _ a.t c.in-Some.b (sym (c.in-Some.ensures ∙ e)) c.see.ensures
