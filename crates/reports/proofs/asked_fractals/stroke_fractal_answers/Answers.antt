use Rattle.strokes.specs.Lent.{stores_of}
use Rattle.reports.proofs.NamedAnswers.{answers_refused, answers_fit, answers_in}
use Rattle.reports.proofs.StrokeColumns.{lends-named}
use Rattle.reports.proofs.StrengthLaws.{stroke_strength}
use Rattle.reports.proofs.asked_fractals.stroke_fractal_answers.Goals as goal

pub returns-in_err-rows : goal.returns-in_err-rows
returns-in_err-rows c = let k = c.in_err-rows.ensures in stroke_strength _ _ _ _ _ (answers_refused _ _ _ _ _ _ k.bars k.fractals c.from_residual.ensures.1 k.value)

pub answers_in-requires : goal.answers_in-requires
unfolding stores_of
answers_in-requires c = let k = c.in_ok-rows.ensures in
    let asked = answers_fit _ _ _ _ (lends-named _ _ _ _ k.value k.bars k.fractals).1 in record { fact_1 = asked.0; fact_2 = asked.1 }

pub returns : goal.returns
unfolding stores_of
returns c = let k = c.in_ok-rows.ensures in
    let l = lends-named _ _ _ _ k.value k.bars k.fractals in
    stroke_strength _ _ _ _ _ (answers_in _ _ _ _ _ _ l.1 l.0 c.answers_in.ensures.0 c.answers_in.ensures.1)
