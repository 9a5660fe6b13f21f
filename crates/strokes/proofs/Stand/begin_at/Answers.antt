use mathlib.Core.Path.{refl}
use Rattle.stores.specs.Columns.{merged_of}
use Rattle.strokes.specs.Code.BarSteps.{with_unfinished}
use Rattle.strokes.proofs.StoredUnfinished.{begun-at, begun-none}
use Rattle.strokes.proofs.StoredCounts.{stay_moved}
use Rattle.strokes.proofs.Stand.begin_at.Goals as goal

pub returns-then-k-eq0-clause-has : goal.returns-then-k-eq0-clause-has
returns-then-k-eq0-clause-has c = begun-none _ _ _ c.requires.fact_1 c.requires.fact_2 c.if-k-eq0.true

pub returns-clause-has : goal.returns-clause-has
unfolding with_unfinished
returns-clause-has c =
    let a = c.args in
    let p = c.requires in
    begun-at a.self _ (merged_of a.unfinished.now) _ p.fact_1 a.k p.fact_2 p.fact_3 c.move_bars.ensures.store refl

pub returns-clause-sized : goal.returns-clause-sized
returns-clause-sized c =
    let a = c.args in
    let p = c.requires in
    stay_moved (merged_of a.unfinished.now) _ a.k a.self.unfinished a.self.rooms.unfinished p.fact_1 p.fact_3 p.fact_2 c.move_bars.ensures.store.rows.counts
