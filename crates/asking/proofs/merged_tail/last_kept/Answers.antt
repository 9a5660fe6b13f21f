use mathlib.Core.Path.{ap, ◌∙◌}
use Rattle.std.specs.Prelude.{Some}
use Rattle.stores.specs.Columns.{raw_in}
use Rattle.asking.proofs.MergedTails.{kept_none, kept_some}
use Rattle.asking.proofs.merged_tail.last_kept.Goals as goal

pub returns-then-n-eq0 : goal.returns-then-n-eq0
returns-then-n-eq0 c = kept_none c.args.n (raw_in c.args.bars) c.if-n-eq0.true

pub returns : goal.returns
returns c = ap Some c.bar.ensures ∙ kept_some c.args.n (raw_in c.args.bars) c.if-n-eq0.false
