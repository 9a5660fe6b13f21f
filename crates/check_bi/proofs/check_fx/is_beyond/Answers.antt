use Rattle.machine.specs.Fractals.{beyond}
use Rattle.check_bi.proofs.check_fx.is_beyond.Goals as goal

pub returns-in-D : goal.returns-in-D
unfolding beyond
returns-in-D c = rw c.in-D.is

pub returns-in-G : goal.returns-in-G
unfolding beyond
returns-in-G c = rw c.in-G.is
