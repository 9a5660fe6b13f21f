use native.Mathlib.Omega.{arith}
use mathlib.Core.Bool.{false}
use mathlib.Core.Path.{refl}
use Rattle.strokes.specs.Lent.{stores_of}
use Rattle.strokes.specs.Columns.{stores_in}
use Rattle.asking.proofs.AskLaws.{can_plan, tried, bars_again}
use Rattle.asking.proofs.questions.try_again.Goals as goal

pub again-requires : goal.again-requires
unfolding stores_of
again-requires c =
    let h = c.requires.bar in
    (omega arith, ((c.new-tail.ensures, omega arith), (h.raw, record { store = h.unfinished; fits = h.fits; again = h.again refl })))

pub try_tail-requires : goal.try_tail-requires
unfolding stores_of
try_tail-requires c =
    let a = c.args in
    (omega arith, (can_plan false a.stand (stores_in a.stores) c.requires.bar a.b _ _ c.again.ensures (omega arith), c.requires.clear))

pub returns : goal.returns
unfolding stores_of
returns c =
    let a = c.args in
    let m = stores_in a.stores in
    tried false a.stand m c.requires.bar a.b _ _ c.again.ensures _ (bars_again a.stand m a.b) c.try_tail.ensures
