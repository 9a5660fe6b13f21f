use borrow.Author.Rules.{rules}
use native.Mathlib.Omega.{arith}
use mathlib.Core.Path.{refl}
use mir.Syntax.{w64}
use mir.ValLaws.{to_z-of_z}
use Rattle.stores.specs.Columns.{merged_of}
use Rattle.strokes.specs.Code.BarSteps.{with_unfinished}
use Rattle.strokes.proofs.StoredUnfinished.{room_of, few-room, own-written, own_put, merged_put, apart-room, apart_put, seen_bar}
use Rattle.strokes.proofs.StoredCounts.{stay_put, stay_last}
use Rattle.strokes.proofs.Stand.put_merged.Goals as goal

pub put_with_element-requires : goal.put_with_element-requires
put_with_element-requires c =
    let h = c.requires in
    let g = few-room _ _ _ h c.if-n-lt2.true in
    room_of (merged_of c.args.unfinished.now) c.args.self.rooms.unfinished _ h.unfinished (omega arith)

pub returns-then-n-lt2-clause-has : goal.returns-then-n-lt2-clause-has
unfolding with_unfinished
returns-then-n-lt2-clause-has c =
    let h = c.requires in
    let few = c.if-n-lt2.true in
    own_put _ _ _ _ h.unfinished _ few (few-room _ _ _ h few) (own-written _ _ _ _ _ _ (to_z-of_z w64 c.args.b.time (search rules)) c.put_with_element.ensures.store) refl

pub returns-then-n-lt2-clause-sized : goal.returns-then-n-lt2-clause-sized
returns-then-n-lt2-clause-sized c =
    let h = c.requires in
    stay_put _ _ _ c.args.self.rooms.unfinished _ h.unfinished (few-room _ _ _ h c.if-n-lt2.true) (own-written _ _ _ _ _ _ (to_z-of_z w64 c.args.b.time (search rules)) c.put_with_element.ensures.store)

pub put_with_element-requires-in-Some : goal.put_with_element-requires-in-Some
put_with_element-requires-in-Some c =
    let a = c.args in
    let h = c.requires in
    let two = c.if-n-lt2.false in
    let g = h.fits in
    room_of (merged_of a.unfinished.now) a.self.rooms.unfinished _ h.unfinished (omega arith)

pub returns-in-Some-clause-has : goal.returns-in-Some-clause-has
unfolding with_unfinished
returns-in-Some-clause-has c =
    merged_put _ _ _ _ c.requires.unfinished c.args.b _ _ _ c.if-n-lt2.false c.requires.fits (seen_bar _ _ _ _ _ c.seen.ensures c.bars-bars.ensures c.bar-k1.ensures) (seen_bar _ _ _ _ _ c.seen.ensures c.bars-bars.ensures c.bar-k2.ensures) c.remove_include_bar.ensures _ _ (to_z-of_z w64 c.args.b.time (search rules)) c.in-Some.is c.put_with_element-in-Some.ensures.store refl

pub returns-in-Some-clause-sized : goal.returns-in-Some-clause-sized
returns-in-Some-clause-sized c =
    let h = c.requires in
    let two = c.if-n-lt2.false in
    stay_last _ _ _ c.args.self.rooms.unfinished _ h.unfinished (omega arith) h.fits c.put_with_element-in-Some.ensures.store

pub put_with_element-requires-2 : goal.put_with_element-requires-2
put_with_element-requires-2 c =
    let room = apart-room c.args.self c.args.self (merged_of c.args.unfinished.now) (merged_of c.args.unfinished.now) c.requires.unfinished c.args.b _ _ _ c.if-n-lt2.false c.requires.fits (seen_bar _ _ _ _ _ c.seen.ensures c.bars-bars.ensures c.bar-k1.ensures) (seen_bar _ _ _ _ _ c.seen.ensures c.bars-bars.ensures c.bar-k2.ensures) c.remove_include_bar.ensures c.in_default.is c.requires.room in
    room_of (merged_of c.args.unfinished.now) c.args.self.rooms.unfinished _ c.requires.unfinished (omega arith)

pub overflow_add-result-2 : goal.overflow_add-result-2
overflow_add-result-2 c =
    let room = apart-room c.args.self c.args.self (merged_of c.args.unfinished.now) (merged_of c.args.unfinished.now) c.requires.unfinished c.args.b _ _ _ c.if-n-lt2.false c.requires.fits (seen_bar _ _ _ _ _ c.seen.ensures c.bars-bars.ensures c.bar-k1.ensures) (seen_bar _ _ _ _ _ c.seen.ensures c.bars-bars.ensures c.bar-k2.ensures) c.remove_include_bar.ensures c.in_default.is c.requires.room in
    let e = c.requires.unfinished.raw.times in
    omega arith

pub returns-clause-has : goal.returns-clause-has
unfolding with_unfinished
returns-clause-has c =
    apart_put _ _ _ _ c.requires.unfinished c.args.b _ _ _ c.if-n-lt2.false c.requires.fits (seen_bar _ _ _ _ _ c.seen.ensures c.bars-bars.ensures c.bar-k1.ensures) (seen_bar _ _ _ _ _ c.seen.ensures c.bars-bars.ensures c.bar-k2.ensures) c.remove_include_bar.ensures c.in_default.is (apart-room c.args.self c.args.self (merged_of c.args.unfinished.now) (merged_of c.args.unfinished.now) c.requires.unfinished c.args.b _ _ _ c.if-n-lt2.false c.requires.fits (seen_bar _ _ _ _ _ c.seen.ensures c.bars-bars.ensures c.bar-k1.ensures) (seen_bar _ _ _ _ _ c.seen.ensures c.bars-bars.ensures c.bar-k2.ensures) c.remove_include_bar.ensures c.in_default.is c.requires.room) (own-written _ _ _ _ _ _ (to_z-of_z w64 c.args.b.time (search rules)) c.put_with_element-2.ensures.store) refl

pub returns-clause-sized : goal.returns-clause-sized
returns-clause-sized c = stay_put _ _ _ c.args.self.rooms.unfinished _ c.requires.unfinished (apart-room c.args.self c.args.self (merged_of c.args.unfinished.now) (merged_of c.args.unfinished.now) c.requires.unfinished c.args.b _ _ _ c.if-n-lt2.false c.requires.fits (seen_bar _ _ _ _ _ c.seen.ensures c.bars-bars.ensures c.bar-k1.ensures) (seen_bar _ _ _ _ _ c.seen.ensures c.bars-bars.ensures c.bar-k2.ensures) c.remove_include_bar.ensures c.in_default.is c.requires.room) (own-written _ _ _ _ _ _ (to_z-of_z w64 c.args.b.time (search rules)) c.put_with_element-2.ensures.store)
