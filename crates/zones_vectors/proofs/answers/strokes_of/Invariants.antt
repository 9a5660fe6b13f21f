use Rattle.std.proofs.Common.{◌≤◌, vec_len}
use Rattle.zones_vectors.proofs.answers.strokes_of.Given as goal

abbrev pub invariant-loop : goal.invariant-loop
invariant-loop l = vec_len l.strokes ≤ l.counter
