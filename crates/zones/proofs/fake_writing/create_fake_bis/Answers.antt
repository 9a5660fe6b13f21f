use mathlib.Core.Path.{ap}
use Rattle.std.proofs.lemmas.Result.{err_from_is_err_and}
use Rattle.bars.specs.Refusals.{asked}
use Rattle.strokes.specs.Lent.{stores_of}
use Rattle.zones.proofs.NamedRunLaws.{stroke-here, fakes-listed, fakes-refused}
use Rattle.zones.proofs.fake_writing.create_fake_bis.Goals as goal

pub returns-in_err-ask-clause-listed : goal.returns-in_err-ask-clause-listed
returns-in_err-ask-clause-listed c = let a = c.args in let p = err_from_is_err_and c.from_residual.result c.from_residual.ensures.1 in rw (p.1, p.2) (fakes-refused a.stand _ a.place _ _ c.in_err-ask.ensures.failed)

pub list_fakes-requires : goal.list_fakes-requires
unfolding stores_of
list_fakes-requires c = let a = c.args in let x = c.ask.ensures in stroke-here a.stand _ x.counts.0 x.counts.1 a.place _ x.failed (ap asked c.in_ok-ask.was)

pub returns-clause-listed : goal.returns-clause-listed
unfolding stores_of
returns-clause-listed c = let a = c.args in let x = c.ask.ensures in fakes-listed a.stand _ x.counts.0 x.counts.1 a.place _ x.failed (ap asked c.in_ok-ask.was) _ _ c.list_fakes.ensures.listed
