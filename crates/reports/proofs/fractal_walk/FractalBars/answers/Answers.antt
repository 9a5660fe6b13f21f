use Rattle.reports.specs.FractalAnswers.{answers_of}
use Rattle.reports.proofs.fractal_walk.FractalBars.answers.Goals as goal

pub returns : goal.returns
unfolding answers_of
returns c = rw (c.power_str.ensures.0, c.power_volume.ensures, c.has_zs.ensures)
