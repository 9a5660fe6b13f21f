use Rattle.machine.specs.Strokes.{turned}
use Rattle.reports.proofs.ubi.turned.Goals as goal

pub returns-in-Up : goal.returns-in-Up
unfolding turned
returns-in-Up c = rw c.in-Up.is

pub returns-in-Down : goal.returns-in-Down
unfolding turned
returns-in-Down c = rw c.in-Down.is
