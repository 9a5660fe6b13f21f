use mathlib.Core.List.{[], ◌∷◌}
use mathlib.Core.Path.{ap, sym, ◌∙◌}
use lib.IntN.{ℤ}
use mir.Syntax.{w64}
use mir.ValLaws.{to_z-of_z}
use Rattle.bars.specs.Merging.{at_times}
use Rattle.stores.specs.Columns.{raw_in, merged_of}
use Rattle.strokes.specs.Code.BarSteps.{kept_raw, with_unfinished}
use Rattle.strokes.proofs.StoredAgain.{named_sized, none_named, one-fits, one-named}
use Rattle.strokes.proofs.Stand.put_named.Goals as goal

pub named-requires : goal.named-requires
named-requires c = let h = c.requires.fact_1 in record { sized = named_sized c.args.self (raw_in c.args.raw) h; fits = rw h.sized.times h.fits; rise = h.rise }

pub put_merged-requires : goal.put_merged-requires
put_merged-requires c =
    let a = c.args in
    let raw = kept_raw a.self (raw_in a.raw) in
    let q = c.in-Some.ensures ∙ ap (λ (x : ℤ). at_times raw (x ∷ [])) (to_z-of_z w64 a.t c.ranges.t) in
    one-fits a.self a.self (merged_of a.unfinished.now) (merged_of a.unfinished.now) (at_times raw (a.t ∷ [])) _ c.requires.fact_2 (sym q)

pub returns-in-Some-clause-has : goal.returns-in-Some-clause-has
returns-in-Some-clause-has c =
    let a = c.args in
    let raw = kept_raw a.self (raw_in a.raw) in
    let q = c.in-Some.ensures ∙ ap (λ (x : ℤ). at_times raw (x ∷ [])) (to_z-of_z w64 a.t c.ranges.t) in
    one-named a.self _ (merged_of a.unfinished.now) _ (at_times raw (a.t ∷ [])) _ (sym q) c.put_merged.ensures.has

pub returns-in-None-clause-has : goal.returns-in-None-clause-has
unfolding with_unfinished
returns-in-None-clause-has c =
    let a = c.args in
    let raw = kept_raw a.self (raw_in a.raw) in
    let q = c.in-None.ensures ∙ ap (λ (x : ℤ). at_times raw (x ∷ [])) (to_z-of_z w64 a.t c.ranges.t) in
    none_named a.self a.self (merged_of a.unfinished.now) (merged_of a.unfinished.now) (at_times raw (a.t ∷ [])) c.requires.fact_2 (sym q)
