use Rattle.strokes.proofs.StoredStrokes.{shed-not}
use borrow.Author.Tests.{lt-ltb, le-ltb}
use native.Mathlib.Omega.{arith}
use Rattle.strokes.proofs.Stand.shed_if.Goals as goal

pub shed-requires : goal.shed-requires
shed-requires c =
    let h = c.if-self.true in
    record { fact_1 = omega arith; fact_2 = c.requires }

pub returns-then-self-clause-shed : goal.returns-then-self-clause-shed
returns-then-self-clause-shed c = rw (lt-ltb _ _ c.if-self.true) c.shed.ensures.shed

pub returns-clause-shed : goal.returns-clause-shed
returns-clause-shed c = rw (le-ltb _ _ c.if-self.false) (shed-not _ _ _ c.requires)
