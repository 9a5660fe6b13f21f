use Rattle.std.proofs.Common.{pos, ◌-ℤ◌, ◌∙◌, rules}
use mir.Syntax.{w64}
use mir.ValLaws.{to_z-of_z, to_z_pos}
use Rattle.csv_text.specs.Values.{seconds_by}
use Rattle.csv_text.proofs.Quotients.{minus_is, minus-fits}
use Rattle.csv_text.proofs.values.seconds_of.Goals as goal

pub overflow_sub-result : goal.overflow_sub-result
overflow_sub-result c = let a = c.args in rw (to_z_pos w64 a.n.digits (search rules)) (minus-fits a.n.digits c.requires)

pub returns-then-n : goal.returns-then-n
unfolding seconds_by
returns-then-n c = let a = c.args in rw (c.if-n.true, to_z_pos w64 a.n.digits (search rules)) (to_z-of_z w64 (pos 0 -ℤ pos a.n.digits) (minus-fits a.n.digits c.requires) ∙ minus_is a.n.digits)

pub returns-else-n : goal.returns-else-n
unfolding seconds_by
returns-else-n c = rw c.if-n.false (to_z_pos w64 c.args.n.digits (search rules))
