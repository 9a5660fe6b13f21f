use mathlib.Core.Path.{ap, sym, ◌∙◌}
use Rattle.std.proofs.lemmas.Result.{err_from_is_err_and}
use Rattle.bars.specs.Refusals.{number}
use Rattle.strokes.specs.Columns.{stores_in}
use Rattle.strokes.proofs.PackedRows.{there}
use Rattle.sound.specs.FreshStand.{fresh_of}
use Rattle.feed.proofs.FeedLaws.{numbered}
use Rattle.sound.proofs.FreshLaws.{refused-is, begun_is}
use Rattle.czsc_c.proofs.HandedLaws.{fresh-refused, fresh_no_place, fresh_handed_lem}
use Rattle.czsc_c.proofs.calls.fresh_packed.Goals as goal

pub returns-in_err-stand-clause-handed : goal.returns-in_err-stand-clause-handed
returns-in_err-stand-clause-handed c =
    let a = c.args in
    let p = err_from_is_err_and c.from_residual.result c.from_residual.ensures.1 in
    rw p.1
    (fresh-refused (fresh_of a.settings.minimum a.settings.most a.settings.power a.settings.ratio (stores_in a.stores)) _ _ (number p.0)
    (ap number p.2 ∙ c.in_err-stand.ensures.refused ∙ sym (refused-is a.settings.minimum a.settings.most a.settings.power a.settings.ratio (stores_in a.stores))) (numbered p.0))

pub returns-then-not-there-clause-handed : goal.returns-then-not-there-clause-handed
returns-then-not-there-clause-handed c =
    let a = c.args in
    fresh_no_place (fresh_of a.settings.minimum a.settings.most a.settings.power a.settings.ratio (stores_in a.stores)) _ _
    (c.in_ok-stand.ensures.refused ∙ sym (refused-is a.settings.minimum a.settings.most a.settings.power a.settings.ratio (stores_in a.stores))) (sym c.there.ensures ∙ c.if-not-there.true)

pub pack-requires : goal.pack-requires
pack-requires c = there _ _ (sym c.there.ensures ∙ c.if-not-there.false)

pub returns-clause-handed : goal.returns-clause-handed
returns-clause-handed c =
    let a = c.args in
    fresh_handed_lem (fresh_of a.settings.minimum a.settings.most a.settings.power a.settings.ratio (stores_in a.stores)) _ _ _ _ _
    (c.in_ok-stand.ensures.refused ∙ sym (refused-is a.settings.minimum a.settings.most a.settings.power a.settings.ratio (stores_in a.stores)))
    (c.in_ok-stand.ensures.begun ∙ sym (begun_is a.settings.minimum a.settings.most a.settings.power a.settings.ratio (stores_in a.stores) (sym c.in_ok-stand.ensures.refused)))
    (sym c.there.ensures ∙ c.if-not-there.false) c.pack.ensures.0 c.pack.ensures.1
