use borrow.Author.Rules.{rules}
use Rattle.writing.proofs.MoveLaws.{counted, has_moved}
use mathlib.Core.Path.{refl, ap, ◌∙◌}
use Rattle.machine.specs.Feed.{shed_count}
use Rattle.writing.proofs.stroke_moves.update_bi.Goals as goal

pub shed_if-kept-requires : goal.shed_if-kept-requires
shed_if-kept-requires c = c.make_and_leave-left.ensures.left.kept

pub returns-clause-moved : goal.returns-clause-moved
returns-clause-moved c =
    let m = c.make_and_leave-left in
    has_moved _ _ _ _ _ c.requires m.result _ _ _ m.ensures.left (search rules) (search rules) _ _ _ _ refl c.shed_if-kept.ensures.shed (c.from-made.ensures ∙ counted _ ∙ ap shed_count c.is_some.ensures) (c.from-broken.ensures ∙ counted _ ∙ ap shed_count c.is_some-2.ensures) (c.from-shed.ensures ∙ counted _)
