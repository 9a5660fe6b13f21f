use mathlib.Core.Path.{ap, ◌∙◌}
use Rattle.std.proofs.lemmas.Result.{err_from_is_err_and}
use Rattle.bars.specs.Refusals.{number}
use Rattle.bars.proofs.Asked.{above}
use Rattle.machine.specs.FeedQuestions.{or_else}
use Rattle.strokes.specs.Columns.{stores_in}
use Rattle.sound.specs.FreshStand.{first_stand}
use Rattle.sound.proofs.FreshLaws.{failed_before, by_rooms}
use Rattle.sound.proofs.fresh_stand.new_stand.Goals as goal

pub returns-in_err-ask-clause-refused : goal.returns-in_err-ask-clause-refused
returns-in_err-ask-clause-refused c =
    let a = c.args in
    let p = err_from_is_err_and c.from_residual.result c.from_residual.ensures.1 in
    rw p.1 (failed_before a.settings.minimum a.settings.most a.settings.power a.settings.ratio (stores_in a.stores) (number p.0) (ap number p.2 ∙ c.in_err-ask.ensures) (above p.0))

pub returns-then-not-columns_agree-rooms_fit-clause-refused : goal.returns-then-not-columns_agree-rooms_fit-clause-refused
unfolding or_else
returns-then-not-columns_agree-rooms_fit-clause-refused c =
    let a = c.args in
    by_rooms a.settings.minimum a.settings.most a.settings.power a.settings.ratio (stores_in a.stores) _ _ _ _ c.in_ok-ask.ensures c.rooms_of-rooms.ensures c.columns_agree.ensures c.rooms_fit.ensures c.if-not-columns_agree-rooms_fit.true

pub returns-clause-refused : goal.returns-clause-refused
unfolding or_else
returns-clause-refused c =
    let a = c.args in
    by_rooms a.settings.minimum a.settings.most a.settings.power a.settings.ratio (stores_in a.stores) _ _ _ _ c.in_ok-ask.ensures c.rooms_of-rooms.ensures c.columns_agree.ensures c.rooms_fit.ensures c.if-not-columns_agree-rooms_fit.false

pub returns-clause-begun : goal.returns-clause-begun
unfolding first_stand
returns-clause-begun c = c.empty_stand.ensures ∙ rw (c.rooms_of-rooms.ensures, c.or_default.ensures, c.or_default-2.ensures)
