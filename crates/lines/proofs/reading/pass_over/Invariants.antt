use Rattle.std.proofs.Common.{◌≡◌, ◌≤◌, vec_len}
use Rattle.lines.proofs.reading.pass_over.Given as goal

abbrev pub invariant-loop : goal.invariant-loop
invariant-loop l = (l.kept ≡ vec_len l.fn.line) × (l.kept ≤ vec_len l.line)
