use Rattle.writing.proofs.StepLaws.{can_join, joined-last, last-elements}
use Rattle.strokes.specs.Code.StrokeSteps.{last_place, last_bars}
use Rattle.strokes.specs.Code.BarSteps.{kept_unfinished}
use Rattle.stores.specs.Columns.{merged_in, merged_of}
use mathlib.Core.Path.{refl}
use native.Mathlib.Omega.{arith}
use Rattle.writing.proofs.unfinished_moves.join_last.Goals as goal

pub overflow_sub-n : goal.overflow_sub-n
overflow_sub-n c = let one = c.requires.fact_4.kept in omega arith

pub total_bars-at-requires : goal.total_bars-at-requires
unfolding last_place last_bars
total_bars-at-requires c = let p = c.requires.fact_4 in
    let t = c.requires.fact_2.raw.times in
    let x = p.within in
    let y = p.most in
    record { fact_1 = omega arith; fact_2 = omega arith }

pub bounds-stand-n : goal.bounds-stand-n
bounds-stand-n c = let p = c.requires.fact_4 in let one = p.kept in let most = p.most in omega arith

pub join_broken-requires : goal.join_broken-requires
unfolding last_bars
join_broken-requires c = let a = c.args in let p = c.requires in can_join a.stand _ _ c.total_bars-at.result p.fact_1 p.fact_2 p.fact_3 p.fact_4 c.total_bars-at.ensures

pub returns-clause-has_unfinished : goal.returns-clause-has_unfinished
unfolding last_bars
returns-clause-has_unfinished c = let a = c.args in
    let at = c.total_bars-at in
    joined-last a.stand (merged_of a.unfinished.now) (merged_in a.strokes) at.result _ _ _ (kept_unfinished a.stand (merged_of a.unfinished.now)) at.ensures refl c.join_broken.ensures.has

pub returns-clause-stay_sized : goal.returns-clause-stay_sized
unfolding last_bars
returns-clause-stay_sized c = let a = c.args in
    let at = c.total_bars-at in
    λ t. c.join_broken.ensures.sized (last-elements a.stand (merged_in a.strokes) at.result c.requires.fact_4.kept at.ensures t)
