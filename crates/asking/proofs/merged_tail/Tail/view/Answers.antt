use mathlib.Core.Path.{refl}
use Rattle.check_bi.specs.Code.View.{view}
use Rattle.asking.proofs.merged_tail.Tail.view.Goals as goal

pub returns-clause-times : goal.returns-clause-times
unfolding view
returns-clause-times g c = refl

pub returns-clause-prices : goal.returns-clause-prices
unfolding view
returns-clause-prices g c = refl
