use mathlib.Core.Path.{ap, ◌∙◌}
use Rattle.std.proofs.lemmas.Result.{err_from_is_err_and}
use Rattle.bars.specs.Refusals.{asked}
use Rattle.strokes.specs.Lent.{stores_of}
use Rattle.zones.specs.BisUpDown.{goes}
use Rattle.zones.proofs.NamedRunLaws.{way-answered, way-refused}
use Rattle.zones.proofs.RunReads.{run-is}
use Rattle.zones.proofs.named_runs.is_bis.Goals as goal

pub returns-in_err-run : goal.returns-in_err-run
returns-in_err-run c = let a = c.args in let p = err_from_is_err_and c.from_residual.result c.from_residual.ensures.1 in rw (p.1, p.2) (way-refused a.way a.stand _ a.first a.count _ c.in_err-run.ensures.failed)

pub returns : goal.returns
unfolding stores_of
returns c =
    let a = c.args in
    let x = c.ask.ensures in
    way-answered a.stand _ x.counts.0 x.counts.1 a.first a.count _ x.failed (ap asked c.in_ok-run.was) a.way _ (c.goes.ensures ∙ ap (goes a.way) (c.strokes.ensures ∙ run-is c.in_ok-run.ensures.run))
