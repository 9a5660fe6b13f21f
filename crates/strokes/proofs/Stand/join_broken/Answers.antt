use borrow.Author.Rules.{rules}
use native.Mathlib.Omega.{arith}
use mathlib.Core.Path.{refl}
use Rattle.stores.specs.Columns.{merged_in, merged_of}
use Rattle.strokes.specs.Code.BarSteps.{with_unfinished, without_last}
use Rattle.strokes.proofs.StoredUnfinished.{room_of, join-place, join-room, join-after, join_found, was_joined}
use Rattle.strokes.proofs.StoredCounts.{stay_joined}
use Rattle.strokes.proofs.Stand.join_broken.Goals as goal

pub overflow_sub-left : goal.overflow_sub-left
overflow_sub-left c =
    let jn = join-place _ _ _ _ _ _ c.requires (join_found _ _ _ _ _ _ _ c.requires (search rules) c.seen.ensures c.count_before-j.ensures) in
    omega arith

pub move_bars-requires : goal.move_bars-requires
move_bars-requires c =
    let a = c.args in
    let u = merged_of a.unfinished.now in
    let h = c.requires in
    let p = join_found _ _ _ _ _ _ _ c.requires (search rules) c.seen.ensures c.count_before-j.ensures in
    let jn = join-place a.self u _ _ _ _ h p in
    let fits = h.fits in
    (room_of u a.self.rooms.unfinished _ h.unfinished (omega arith), room_of u a.self.rooms.unfinished _ h.unfinished (join-room a.self u _ _ _ _ h p))

pub join-requires : goal.join-requires
join-requires c =
    let h = c.requires in
    let within = h.within in
    (room_of (merged_in c.args.strokes) c.args.self.rooms.strokes _ h.strokes (omega arith), join-after _ _ _ _ _ _ h (join_found _ _ _ _ _ _ _ c.requires (search rules) c.seen.ensures c.count_before-j.ensures) _ c.move_bars.ensures.store)

pub returns-clause-has : goal.returns-clause-has
unfolding with_unfinished without_last
returns-clause-has c = was_joined _ _ _ _ _ _ c.requires (join_found _ _ _ _ _ _ _ c.requires (search rules) c.seen.ensures c.count_before-j.ensures) _ _ _ c.move_bars.ensures.store c.join.ensures.store refl

pub returns-clause-sized : goal.returns-clause-sized
returns-clause-sized c =
    let h = c.requires in
    let p = join_found _ _ _ _ _ _ _ c.requires (search rules) c.seen.ensures c.count_before-j.ensures in
    stay_joined _ _ _ _ _ _ _ _ h (join-place _ _ _ _ _ _ h p) (join-room _ _ _ _ _ _ h p) c.move_bars.ensures.store.rows.counts c.join.ensures.store.rows.counts
