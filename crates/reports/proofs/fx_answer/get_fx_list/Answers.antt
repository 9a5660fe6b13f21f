use mathlib.Core.List.{List}
use mathlib.Core.Bool.{true}
use mathlib.Core.Path.{subst}
use Rattle.question4.proofs.Question4Passed.{is-sound}
use Rattle.machine.specs.Fractals.{Fractal}
use Rattle.strokes.specs.Lent.{stores_of}
use Rattle.strokes.specs.Columns.{fractals_of, stores_in}
use Rattle.reports.specs.FxAnswers.{FxDone}
use Rattle.reports.proofs.FirstLaws.{passed}
use Rattle.reports.proofs.FxLaws.{same_none}
use Rattle.reports.proofs.FxSame.{can_go, can_read, fx_no, fx_yes, all_are, all_few}
use Rattle.reports.proofs.fx_answer.get_fx_list.Goals as goal

pub returns-in_err-ask_sound : goal.returns-in_err-ask_sound
returns-in_err-ask_sound c = record { done = fx_no _ _ _ _ _ c.from_residual.ensures.1 c.in_err-ask_sound.ensures.value; same = same_none _ }

pub shared_ref_as_front-new : goal.shared_ref_as_front-new
shared_ref_as_front-new c = let k = c.in_ok-ask_sound.ensures in (can_go _ _ k.bars k.fractals (is-sound _ _ (passed _ _ _ k.value))).strokes

pub new-strokes-requires : goal.new-strokes-requires
unfolding stores_of
new-strokes-requires c = let k = c.in_ok-ask_sound.ensures in can_read _ _ k.bars k.fractals (is-sound _ _ (passed _ _ _ k.value))

pub new-requires-clause-unfinished : goal.new-requires-clause-unfinished
unfolding stores_of
new-requires-clause-unfinished c = let k = c.in_ok-ask_sound.ensures in
    rw (c.new-unfinished.ensures.bars, c.new-unfinished.ensures.end, c.bars.ensures) (can_go _ _ k.bars k.fractals (is-sound _ _ (passed _ _ _ k.value))).bars

pub list-requires-clause-few : goal.list-requires-clause-few
unfolding stores_of
list-requires-clause-few c = let k = c.in_ok-ask_sound.ensures in
    let m = stores_in c.args.stores in
    let e = all_are c.args.stand m _ _ _ c.new.ensures.left c.new-strokes.ensures.left (rw c.bars.ensures at c.new-unfinished.ensures.left) in
    all_few c.args.stand m _ (can_go c.args.stand m k.bars k.fractals (is-sound _ _ (passed _ _ _ k.value))) e

pub returns-clause-done : goal.returns-clause-done
unfolding stores_of
returns-clause-done c = let k = c.in_ok-ask_sound.ensures in
    let m = stores_in c.args.stores in
    let e = all_are c.args.stand m _ _ _ c.new.ensures.left c.new-strokes.ensures.left (rw c.bars.ensures at c.new-unfinished.ensures.left) in
    fx_yes c.args.stand m k.bars k.fractals (passed _ _ _ k.value) _ _ _ (subst (λ (l : List Fractal). FxDone true l (fractals_of c.args.out.now) (fractals_of c.list.new.out) c.list.result) e c.list.ensures.done)
