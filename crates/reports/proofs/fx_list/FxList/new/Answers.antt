use mathlib.Core.Path.{refl}
use Rattle.reports.specs.Code.FxListing.{all_left, listed_left, time_of_last}
use Rattle.reports.proofs.fx_list.FxList.new.Goals as goal

pub returns-clause-left : goal.returns-clause-left
unfolding listed_left all_left time_of_last
returns-clause-left c = refl
