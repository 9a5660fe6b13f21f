use borrow.Author.Rules.{rules}
use mathlib.Core.Path.{ap, ◌∙◌}
use mathlib.Core.List.{[], ◌∷◌}
use lib.ListN.{set}
use mir.Syntax.{w64}
use mir.ValLaws.{to_z-of_z}
use Rattle.zones.specs.ZoneRows.{stroke_times, stroke_prices, stroke_code}
use Rattle.zones.proofs.RowCodes.{code_is}
use Rattle.zones.proofs.zone_writing.write_stroke.Goals as goal

pub returns-clause-times : goal.returns-clause-times
unfolding stroke_times
returns-clause-times c =
    let a = c.args in
    let t = to_z-of_z w64 a.s.began (record { sfits = search rules }) in
    let u = to_z-of_z w64 a.s.ended (record { sfits = search rules }) in
    c.put.ensures.times ∙ (λ x. set a.to.now.times.now a.at (t x ∷ u x ∷ []))

pub returns-clause-prices : goal.returns-clause-prices
unfolding stroke_prices
returns-clause-prices c = c.put.ensures.prices

pub returns-clause-codes : goal.returns-clause-codes
unfolding stroke_code
returns-clause-codes c = let a = c.args in c.put.ensures.kinds ∙ ap (set a.to.now.kinds.now a.at) (code_is a.s.direction)
