use mathlib.Core.Path.{sym, ◌∙◌}
use Rattle.zones.specs.Code.GrowingRun.{is_run_of}
use Rattle.zones.proofs.RunGoes.{same_count}
use Rattle.zones.proofs.runs_of_strokes.GrowingRun.is_run.Goals as goal

pub returns-then-eq : goal.returns-then-eq
unfolding is_run_of
returns-then-eq c = rw (sym (same_count c.args.self.count) ∙ sym c.eq.ensures ∙ c.if-eq.true)

pub returns-else-eq : goal.returns-else-eq
unfolding is_run_of
returns-else-eq c = rw (sym (same_count c.args.self.count) ∙ sym c.eq.ensures ∙ c.if-eq.false) c.if-eq.false
