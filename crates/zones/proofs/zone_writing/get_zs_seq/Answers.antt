use mathlib.Core.Path.{ap, ◌∙◌}
use Rattle.std.proofs.lemmas.Result.{err_from_is_err_and}
use Rattle.bars.specs.Refusals.{asked}
use Rattle.strokes.specs.Lent.{stores_of}
use Rattle.zones.specs.Columns.{zones_of, strokes_of}
use Rattle.zones.specs.Code.ZoneSteps.{zones_read_if}
use Rattle.zones.proofs.RunReads.{run-is}
use Rattle.zones.proofs.ListedZoneLaws.{zones-listed, zones-refused}
use Rattle.zones.proofs.zone_writing.get_zs_seq.Goals as goal

pub returns-in_err-run-clause-listed : goal.returns-in_err-run-clause-listed
returns-in_err-run-clause-listed c = let a = c.args in let p = err_from_is_err_and c.from_residual.result c.from_residual.ensures.1 in rw (p.1, p.2) (zones-refused a.stand _ a.first a.count _ _ _ c.in_err-run.ensures.failed)

pub returns-clause-listed : goal.returns-clause-listed
unfolding stores_of
returns-clause-listed c =
    let a = c.args in
    let x = c.ask.ensures in
    let l = c.strokes.ensures ∙ run-is c.in_ok-run.ensures.run in
    zones-listed a.stand _ x.counts.0 x.counts.1 a.first a.count _ _ _ _ x.failed (ap asked c.in_ok-run.was) (c.write_run.ensures.listed ∙ ap (zones_read_if (zones_of a.zones.now) (strokes_of a.strokes.now)) l)
