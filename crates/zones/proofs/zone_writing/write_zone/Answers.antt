use borrow.Author.Rules.{rules}
use mathlib.Core.Path.{ap, ◌∙◌}
use mathlib.Core.List.{[], ◌∷◌}
use lib.ListN.{set}
use mir.Syntax.{w64}
use mir.ValLaws.{to_z-of_z}
use Rattle.zones.specs.ZoneRows.{flag, zone_columns}
use Rattle.zones.specs.Code.ZoneSteps.{set_zone}
use Rattle.zones.proofs.RowCodes.{code_is, flag_is}
use Rattle.zones.proofs.zone_writing.write_zone.Goals as goal

pub returns-clause-written : goal.returns-clause-written
unfolding set_zone
returns-clause-written c =
    let a = c.args in
    let z = a.b.zone in
    let w = a.to.now in
    let p = c.put.ensures in
    let t = to_z-of_z w64 z.first.began (record { sfits = search rules }) in
    let u = to_z-of_z w64 z.last.ended (record { sfits = search rules }) in
    (λ x. zone_columns (p.times x) (p.prices x) (p.kinds x))
    ∙ (λ x.
    zone_columns (set w.times.now a.b.done (t x ∷ u x ∷ []))
    (set w.prices.now a.b.done (z.zg ∷ z.zd ∷ c.zz.ensures x ∷ z.gg ∷ z.dd ∷ []))
    (set w.kinds.now a.b.done (code_is z.first.direction x ∷ code_is z.last.direction x ∷ (flag_is c.is_valid.result ∙ ap flag c.is_valid.ensures) x ∷ a.b.size ∷ [])))
