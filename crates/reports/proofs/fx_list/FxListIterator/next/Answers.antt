use borrow.Author.Rules.{rules}
use mathlib.Core.Path.{ap, sym, ◌∙◌}
use mathlib.Core.List.{map}
use mir.Syntax.{w64}
use mir.ValLaws.{to_z-of_z}
use Rattle.reports.specs.Code.FxListing.{rows_of, rows_left}
use Rattle.reports.proofs.WalkLaws.{goes_on}
use Rattle.reports.proofs.FxLaws.{listed_next, left_next, none_listed}
use Rattle.reports.proofs.fx_list.FxListIterator.next.Goals as goal

pub returns-then-is_later-clause-steps : goal.returns-then-is_later-clause-steps
unfolding rows_left
returns-then-is_later-clause-steps c = let o = c.in-Some.ensures in
    ap (map rows_of) (sym c.loop-rows.invariant.1)
    ∙ listed_next c.loop-rows.self c.next_rows.new.self _ _ (to_z-of_z w64 _ (record { sfits = search rules })) o.gives o.last (sym c.is_later.ensures ∙ c.if-is_later.true)

pub returns-then-is_later-clause-goes : goal.returns-then-is_later-clause-goes
unfolding rows_left
returns-then-is_later-clause-goes c = let o = c.in-Some.ensures in
    goes_on _ rows_left _ _ _ _
    (ap (map rows_of) (sym c.loop-rows.invariant.1)
    ∙ listed_next c.loop-rows.self c.next_rows.new.self _ _ (to_z-of_z w64 _ (record { sfits = search rules })) o.gives o.last (sym c.is_later.ensures ∙ c.if-is_later.true))
    (record { strokes = o.can.strokes; unfinished = o.can.unfinished })

pub loop-rows-preserved : goal.loop-rows-preserved
loop-rows-preserved c = let o = c.in-Some.ensures in
    (o.can, left_next c.loop-rows.self c.next_rows.new.self _ _ (to_z-of_z w64 _ (record { sfits = search rules })) o.gives o.last (sym c.is_later.ensures ∙ c.if-is_later.false) ∙ c.loop-rows.invariant.1)

pub returns-clause-steps : goal.returns-clause-steps
unfolding rows_left
returns-clause-steps c = let e = c.in_default.ensures.gives in
    (ap (map rows_of) (sym c.loop-rows.invariant.1 ∙ none_listed c.loop-rows.self e.0), ap (map rows_of) (none_listed c.next_rows.new.self e.1))
