use Rattle.zones.specs.NamedRuns.{bis_answer}
use Rattle.zones.proofs.named_runs.is_bis_up.Goals as goal

pub returns : goal.returns
unfolding bis_answer
returns c = c.is_bis.ensures
