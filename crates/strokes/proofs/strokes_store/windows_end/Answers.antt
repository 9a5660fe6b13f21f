use Rattle.strokes.specs.Code.StrokeSteps.{windows_end, end_if}
use borrow.Author.Tests.{lt-ltb, le-ltb}
use Rattle.strokes.proofs.strokes_store.windows_end.Goals as goal

pub returns-then-end-n : goal.returns-then-end-n
unfolding windows_end end_if
returns-then-end-n c = rw (lt-ltb _ _ c.if-end-n.true)

pub returns-else-end-n : goal.returns-else-end-n
unfolding windows_end end_if
returns-else-end-n c = rw (le-ltb _ _ c.if-end-n.false)
