use mathlib.Core.Path.{sym, ◌∙◌}
use Rattle.zones.proofs.RunGoes.{goes_is}
use Rattle.zones.proofs.runs_of_strokes.GrowingRun.goes.Goals as goal

pub returns-then-not-is_run : goal.returns-then-not-is_run
returns-then-not-is_run c = let a = c.args in rw (goes_is a.way a.self, sym c.is_run.ensures ∙ c.if-not-is_run.true)

pub returns-then-eq : goal.returns-then-eq
returns-then-eq c = let a = c.args in rw (goes_is a.way a.self, sym c.is_run.ensures ∙ c.if-not-is_run.false, sym c.eq.ensures ∙ c.if-eq.true) c.spans_way.ensures

pub returns-else-eq : goal.returns-else-eq
returns-else-eq c = let a = c.args in rw (goes_is a.way a.self, sym c.is_run.ensures ∙ c.if-not-is_run.false, sym c.eq.ensures ∙ c.if-eq.false) c.if-eq.false
