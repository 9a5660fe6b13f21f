use Rattle.strokes.specs.Columns.{written_in}
use Rattle.from_fresh.specs.FromFresh.{FromFresh}
use Rattle.replay.proofs.analyzers.play.Given as goal

abbrev pub invariant-loop : goal.invariant-loop
invariant-loop l = FromFresh l.stand (written_in l.raw l.unfinished l.strokes l.fractals)
