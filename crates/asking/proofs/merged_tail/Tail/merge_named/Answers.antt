use mathlib.Core.List.{[], ◌∷◌}
use mathlib.Core.Path.{ap, sym, ◌∙◌}
use lib.ListN.{take}
use lib.IntN.{ℤ}
use mir.Syntax.{w64}
use mir.ValLaws.{to_z-of_z}
use Rattle.bars.specs.Merging.{at_times}
use Rattle.stores.specs.Stores.{raw_bars}
use Rattle.stores.specs.Columns.{raw_in}
use Rattle.asking.proofs.MergedTails.{named_none, named-one}
use Rattle.asking.proofs.merged_tail.Tail.merge_named.Goals as goal

pub named-requires : goal.named-requires
named-requires g c = let h = c.requires.named in record { sized = h.sized; fits = h.fits; rise = h.rise }

pub returns-in-Some : goal.returns-in-Some
returns-in-Some g c =
    let a = c.args in
    let kept = take a.kept (raw_bars (raw_in a.raw)) in
    let q = c.in-Some.ensures ∙ ap (λ (x : ℤ). at_times kept (x ∷ [])) (to_z-of_z w64 a.t c.ranges.t) in
    named-one (raw_in a.bars) a.self.now c.merge.new.self (at_times kept (a.t ∷ [])) _ (sym q) c.merge.ensures

pub returns-in_default : goal.returns-in_default
returns-in_default g c =
    let a = c.args in
    let kept = take a.kept (raw_bars (raw_in a.raw)) in
    let q = c.in_default.ensures ∙ ap (λ (x : ℤ). at_times kept (x ∷ [])) (to_z-of_z w64 a.t c.ranges.t) in
    named_none (raw_in a.bars) a.self.now (at_times kept (a.t ∷ [])) c.requires.tail (sym q)
