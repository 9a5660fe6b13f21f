-- Demand 3, for every list of calls: the claims of specs/Claims.
-- Assumes nothing.
use mathlib.Core.Path.{sym, subst}
use mathlib.Core.List.{map}
use mathlib.Core.Option.{none}
use Rattle.machine.specs.Strokes.{Stroke}
use Rattle.machine.specs.Calls.{calls}
use Rattle.machine.proofs.Facts.{Good}
use Rattle.machine.proofs.Lists.{All-map}
use Rattle.machine.proofs.KeptStrokes.{kept-sums, kept_good, kept-meet}
use Rattle.zones.specs.FakeStrokes.{FakesOf, fakes}
use Rattle.zones.specs.Zones.{summary}
use Rattle.zones.specs.Claims.{kept, Inside, Demand3}
use Rattle.zones.proofs.FakeStrokesRun.{fakes_of_lem, fakes-told, fakes-count}
use Rattle.zones.proofs.ZonesJoin.{zones-joined}

good_inside : (b : Stroke) → Good b → Inside b
good_inside b g =
    let f : FakesOf b.start b.end (fakes b.fractals) =
    subst (λ z. FakesOf b.start b.end (fakes z)) (sym g.listed) (fakes_of_lem b.start g.before b.end g.more g.few none g.alternate g.turns) in
    record { fake = f; count = λ d. fakes-count d b.start b.end b.fractals f; told = λ d. fakes-told d b.start b.end b.fractals f; extreme = g.extreme }

pub demand3 : Demand3
unfolding kept
demand3 =
    record {
      sums = kept-sums;
      zoned = λ c bs. zones-joined (map summary (kept c bs));
      inside = λ c bs. All-map (calls c bs).state.strokes good_inside (kept_good c bs);
      meet = kept-meet;
    }
