use Rattle.writing.proofs.StepLaws.{left-breaks, left-joined, left_as_is, left-elements}
use Rattle.writing.specs.Code.WriteSteps.{rest_of}
use Rattle.strokes.specs.Code.BarSteps.{kept_unfinished, with_unfinished}
use Rattle.stores.specs.Columns.{merged_in, merged_of}
use lib.ListN.{drop}
use mathlib.Core.Path.{refl, sym, ◌∙◌}
use Prim.Native.Nat.{◌+◌}
use native.Mathlib.Omega.{arith}
use Rattle.writing.proofs.unfinished_moves.leave.Goals as goal

pub overflow_add-rest : goal.overflow_add-rest
unfolding rest_of
overflow_add-rest c = let p = c.requires in let x = p.inside in let y = p.fits in let z = p.unfinished.raw.times in let e = c.end_in.ensures in omega arith

pub begin_at-n-requires : goal.begin_at-n-requires
unfolding rest_of
begin_at-n-requires c = let p = c.requires in
    record { fact_1 = p.unfinished; fact_2 = p.fits; fact_3 = (let x = p.inside in let e = c.end_in.ensures in omega arith) }

pub join_last-requires : goal.join_last-requires
unfolding rest_of with_unfinished
join_last-requires c =
    let a = c.args in
    let p = c.requires in
    let b = c.begin_at-n in
    let k = merged_in a.strokes in
    let l = drop (a.plan.cut + c.end_in.result) (kept_unfinished a.stand (merged_of a.unfinished.now)) in
    let g = left-breaks a.stand (with_unfinished a.stand b.result) _ k l b.ensures.has p.strokes (rw c.end_in.ensures (p.breaks (sym c.is_some.ensures ∙ c.if-is_some.true))) in
    record { fact_1 = g.unfinished; fact_2 = g.strokes; fact_3 = g.fits; fact_4 = g.breaks }

pub returns-then-is_some-clause-has_unfinished : goal.returns-then-is_some-clause-has_unfinished
unfolding rest_of with_unfinished
returns-then-is_some-clause-has_unfinished c =
    let a = c.args in
    let p = c.requires in
    let b = c.begin_at-n in
    let k = merged_in a.strokes in
    let l = drop (a.plan.cut + c.end_in.result) (kept_unfinished a.stand (merged_of a.unfinished.now)) in
    rw (sym c.end_in.ensures, sym c.is_some.ensures) (left-joined a.stand (with_unfinished a.stand b.result) _ k l b.ensures.has _ _ _ c.if-is_some.true c.join_last.ensures.has_unfinished)

pub returns-then-is_some-clause-stay_sized : goal.returns-then-is_some-clause-stay_sized
unfolding rest_of with_unfinished
returns-then-is_some-clause-stay_sized c =
    let a = c.args in
    let p = c.requires in
    let b = c.begin_at-n in
    let k = merged_in a.strokes in
    let l = drop (a.plan.cut + c.end_in.result) (kept_unfinished a.stand (merged_of a.unfinished.now)) in
    λ t e. c.join_last.ensures.stay_sized (left-elements a.stand (with_unfinished a.stand b.result) _ k l b.ensures.has t) (b.ensures.sized e)

pub returns-clause-has_unfinished : goal.returns-clause-has_unfinished
unfolding rest_of
returns-clause-has_unfinished c =
    let a = c.args in
    let p = c.requires in
    let b = c.begin_at-n in
    let k = merged_in a.strokes in
    let l = drop (a.plan.cut + c.end_in.result) (kept_unfinished a.stand (merged_of a.unfinished.now)) in
    rw (sym c.end_in.ensures, sym c.is_some.ensures) (left_as_is a.stand (with_unfinished a.stand b.result) _ k l b.ensures.has _ b.result refl c.if-is_some.false)

pub returns-clause-stay_sized : goal.returns-clause-stay_sized
returns-clause-stay_sized c = λ t e. c.begin_at-n.ensures.sized e
