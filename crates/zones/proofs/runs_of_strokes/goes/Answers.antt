use Rattle.std.proofs.Common.{rules}
use Rattle.std.proofs.lemmas.Iterator.{YieldsList-from_slice}
use Rattle.std.proofs.lemmas.Iterator.Consumers.{fold_from_yields_List}
use Rattle.zones.specs.Code.GrowingRun.{more_of}
use Rattle.zones.proofs.RunFolds.{none-goes, list-goes}
use Rattle.zones.proofs.runs_of_strokes.goes.Goals as goal

pub returns-in-None : goal.returns-in-None
returns-in-None c = none-goes c.args.way _ c.in-None.ensures.cases

pub returns-in-Some : goal.returns-in-Some
returns-in-Some c =
    list-goes c.args.way _ _ _ _ _ _ c.in-Some.ensures.cases.0 c.start.ensures (fold_from_yields_List _ more_of _ _ c.fold.ensures.ran (YieldsList-from_slice c.in-Some.rest.now cc) (λ a x b q k. search rules)) c.goes.ensures
