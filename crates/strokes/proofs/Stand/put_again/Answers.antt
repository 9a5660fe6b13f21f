use borrow.Author.Rules.{rules}
use Prim.Native.Nat.{◌-◌, ◌≤◌}
use native.Mathlib.Omega.{arith}
use mathlib.Core.Path.{refl}
use lib.ListN.{length, take}
use mir.Syntax.{w64}
use mir.ValLaws.{to_z-of_z}
use Rattle.stores.specs.Columns.{raw_in, merged_of}
use Rattle.strokes.specs.Code.BarSteps.{kept_raw, with_unfinished}
use Rattle.strokes.proofs.StoredUnfinished.{room_of}
use Rattle.strokes.proofs.StoredAgain.{going_first, going_rising, going_fits, going_turn, last_fits, going_done, newest_is}
use Rattle.strokes.proofs.StoredCounts.{stay_fewer}
use Rattle.strokes.proofs.Stand.put_again.Goals as goal

pub new_bar-newest-requires : goal.new_bar-newest-requires
new_bar-newest-requires c =
    let h = c.requires.fact_3 in
    let one = c.requires.fact_2.kept in
    let fits = h.fits in
    rw c.seen.ensures (room_of _ c.args.self.rooms.unfinished _ h.unfinished (omega arith))

pub slice_bounds-others-count : goal.slice_bounds-others-count
slice_bounds-others-count c = (newest_is _ _ _ _ _ _ c.requires.fact_3 c.requires.fact_2 c.seen.ensures c.new_bar-newest.ensures (search rules)).some

pub shared_ref_as_front-others : goal.shared_ref_as_front-others
shared_ref_as_front-others c =
    let most = (newest_is _ _ _ _ _ _ c.requires.fact_3 c.requires.fact_2 c.seen.ensures c.new_bar-newest.ensures (search rules)).most in
    omega arith

pub loop-time-init : goal.loop-time-init
unfolding with_unfinished
loop-time-init c =
    let a = c.args in
    let h = c.requires.fact_3 in
    let fits = h.fits in
    (going_first (with_unfinished a.self (a.self.unfinished - 1)) (merged_of a.unfinished.now) (kept_raw a.self (raw_in a.raw)) _ a.b h.unfinished (omega arith), λ t. t, search rules)

pub put_named-requires-clause-fact_1 : goal.put_named-requires-clause-fact_1
unfolding with_unfinished
put_named-requires-clause-fact_1 c =
    let others = take (c.new_bar-newest.result.count - 1) c.new_bar-newest.result.elements in
    let rise = c.requires.fact_1 in
    going_rising _ _ _ _ others _ _ c.loop-time.time-index c.loop-time.invariant.0 (record { sized = rise.sized; fits = rise.fits; rise = rise.rise })

pub put_named-requires-clause-fact_2 : goal.put_named-requires-clause-fact_2
unfolding with_unfinished
put_named-requires-clause-fact_2 c =
    let w = newest_is _ _ _ _ _ _ c.requires.fact_3 c.requires.fact_2 c.seen.ensures c.new_bar-newest.ensures (search rules) in
    let others = take (c.new_bar-newest.result.count - 1) c.new_bar-newest.result.elements in
    going_fits _ _ _ _ others _ _ c.loop-time.time-index c.loop-time.invariant.0 _ c.loop-time-test.true (to_z-of_z w64 _ (search rules)) w.room

pub loop-time-preserved : goal.loop-time-preserved
unfolding with_unfinished
loop-time-preserved c =
    let w = newest_is _ _ _ _ _ _ c.requires.fact_3 c.requires.fact_2 c.seen.ensures c.new_bar-newest.ensures (search rules) in
    let others = take (c.new_bar-newest.result.count - 1) c.new_bar-newest.result.elements in
    let v = c.loop-time.invariant in
    let done = c.put_named.ensures in
    (going_turn _ _ _ _ others _ _ c.loop-time.time-index v.0 _ c.loop-time-test.true (to_z-of_z w64 _ (search rules)) _ _ done.has w.room, λ few. done.sized (v.1 few), search rules)

pub put_merged-requires : goal.put_merged-requires
unfolding with_unfinished
put_merged-requires c =
    let w = newest_is _ _ _ _ _ _ c.requires.fact_3 c.requires.fact_2 c.seen.ensures c.new_bar-newest.ensures (search rules) in
    let others = take (c.new_bar-newest.result.count - 1) c.new_bar-newest.result.elements in
    let test = c.loop-time-test.false in
    let over : length others ≤ c.loop-time.time-index = omega arith in
    last_fits _ _ _ _ others _ _ c.loop-time.time-index c.loop-time.invariant.0 over w.room

pub returns-clause-has : goal.returns-clause-has
unfolding with_unfinished
returns-clause-has c =
    let w = newest_is _ _ _ _ _ _ c.requires.fact_3 c.requires.fact_2 c.seen.ensures c.new_bar-newest.ensures (search rules) in
    let others = take (c.new_bar-newest.result.count - 1) c.new_bar-newest.result.elements in
    let test = c.loop-time-test.false in
    let over : length others ≤ c.loop-time.time-index = omega arith in
    going_done _ _ _ _ others _ _ c.loop-time.time-index c.loop-time.invariant.0 over c.args.self _ (c.args.self.unfinished - 1) _ _ refl w.is c.put_merged.ensures.has

pub returns-clause-sized : goal.returns-clause-sized
returns-clause-sized c =
    let a = c.args in
    λ few. c.put_merged.ensures.sized (c.loop-time.invariant.1 (stay_fewer (merged_of a.unfinished.now) (a.self.unfinished - 1) a.self.unfinished (omega arith) few))
