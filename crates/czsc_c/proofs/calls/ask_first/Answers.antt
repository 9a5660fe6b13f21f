use borrow.Author.Rules.{rules}
use mathlib.Core.Path.{ap, sym, ◌∙◌}
use Rattle.std.proofs.lemmas.Result.{err_from_is_err_and}
use Rattle.bars.specs.Refusals.{number}
use Rattle.strokes.specs.Columns.{stores_in}
use Rattle.sound.specs.FreshStand.{fresh_of}
use Rattle.feed.proofs.FeedLaws.{numbered}
use Rattle.sound.proofs.FreshLaws.{refused-is}
use Rattle.czsc_c.proofs.HandedLaws.{first-refused, first_no-stand, first_no-place, first-passed}
use Rattle.czsc_c.proofs.calls.ask_first.Goals as goal

pub returns-in_err-new_stand : goal.returns-in_err-new_stand
returns-in_err-new_stand c =
    let a = c.args in
    let p = err_from_is_err_and c.from_residual.result c.from_residual.ensures.1 in
    rw p.1
    (first-refused (fresh_of a.settings.minimum a.settings.most a.settings.power a.settings.ratio (stores_in a.stores)) _ _ _ (number p.0)
    (ap number p.2 ∙ c.in_err-new_stand.ensures.refused ∙ sym (refused-is a.settings.minimum a.settings.most a.settings.power a.settings.ratio (stores_in a.stores))) (numbered p.0))

pub returns-then-not-there : goal.returns-then-not-there
returns-then-not-there c =
    let a = c.args in
    first_no-stand (fresh_of a.settings.minimum a.settings.most a.settings.power a.settings.ratio (stores_in a.stores)) _ _ _
    (c.in_ok-new_stand.ensures.refused ∙ sym (refused-is a.settings.minimum a.settings.most a.settings.power a.settings.ratio (stores_in a.stores))) (sym c.there.ensures ∙ c.if-not-there.true)

pub returns-then-is_empty : goal.returns-then-is_empty
returns-then-is_empty c =
    let a = c.args in
    let t = c.if-is_empty.true in
    let n = c.is_empty.ensures in
    first_no-place (fresh_of a.settings.minimum a.settings.most a.settings.power a.settings.ratio (stores_in a.stores)) _ _ _
    (c.in_ok-new_stand.ensures.refused ∙ sym (refused-is a.settings.minimum a.settings.most a.settings.power a.settings.ratio (stores_in a.stores))) (sym c.there.ensures ∙ c.if-not-there.false) (search rules)

pub returns : goal.returns
returns c =
    let a = c.args in
    let t = c.if-is_empty.false in
    let n = c.is_empty.ensures in
    first-passed (fresh_of a.settings.minimum a.settings.most a.settings.power a.settings.ratio (stores_in a.stores)) _ _ _
    (c.in_ok-new_stand.ensures.refused ∙ sym (refused-is a.settings.minimum a.settings.most a.settings.power a.settings.ratio (stores_in a.stores))) (sym c.there.ensures ∙ c.if-not-there.false) (search rules)
