use borrow.Author.Rules.{rules}
use Rattle.writing.proofs.MoveLaws.{can_make, can_leave, has_left}
use Rattle.writing.proofs.stroke_moves.make_and_leave.Goals as goal

pub make_if-made-requires : goal.make_if-made-requires
make_if-made-requires c = rw c.seen.ensures (can_make _ _ _ _ _ c.requires (search rules) (search rules))

pub leave-n-requires : goal.leave-n-requires
leave-n-requires c = rw c.seen-2.ensures (can_leave _ _ _ _ _ c.requires c.make_if-made.result _ _ (rw c.seen.ensures at c.make_if-made.ensures.made) (search rules) (search rules))

pub left_with-requires : goal.left_with-requires
left_with-requires c =
    let leaves = can_leave _ _ _ _ _ c.requires c.make_if-made.result _ _ (rw c.seen.ensures at c.make_if-made.ensures.made) (search rules) (search rules) in
    λ e. (leaves.breaks e).kept

pub returns-clause-left : goal.returns-clause-left
returns-clause-left c =
    let e = c.leave-n.ensures in
    has_left _ _ _ _ _ c.requires c.make_if-made.result _ _ (rw c.seen.ensures at c.make_if-made.ensures.made) (search rules) (search rules) _ _ _ c.left_with.ensures (rw c.seen-2.ensures at e.has_unfinished) (rw c.seen-2.ensures at e.stay_sized)
