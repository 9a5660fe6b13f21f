use Rattle.question4.specs.Question4.{question4}
use Rattle.question4.proofs.is_sound.Goals as goal

pub returns : goal.returns
unfolding question4
returns c = c.is_sound.ensures
