use mathlib.Core.Bool.{not}
use mathlib.Core.Path.{ap, sym, ◌∙◌}
use Rattle.strokes.proofs.PackedRows.{filled, emptied, none-there, some-there}
use Rattle.strokes.proofs.packed.rows_there.Goals as goal

pub returns-then-not-is_empty : goal.returns-then-not-is_empty
returns-then-not-is_empty c = let a = c.args in some-there a.numbers.now a.counts.now (filled a.numbers.now (sym c.is_empty.ensures ∙ c.if-not-is_empty.true))

pub returns-else-not-is_empty : goal.returns-else-not-is_empty
returns-else-not-is_empty c =
    let a = c.args in
    ap not c.if-not-is_empty.false ∙ none-there a.numbers.now a.counts.now (emptied a.numbers.now (sym c.is_empty.ensures ∙ c.if-not-is_empty.false))
