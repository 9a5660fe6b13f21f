-- What get_zs_seq and create_fake_bis answer after a list of feed calls: the rows read back, and where the calls answer.
-- Assumes nothing.
use Prim.Native.Nat.{ℕ, zero, suc, ◌+◌, ◌<◌, ◌%◌}
use native.Mathlib.Omega.{arith}
use mathlib.Core.Path.{◌≡◌, refl, ap, sym, ◌∙◌, subst}
use mathlib.Core.Bool.{Bool, true, false}
use mathlib.Core.List.{List, [], ◌∷◌, map}
use mathlib.Core.Option.{Option, some}
use lib.ListN.{length}
use lib.Seq.{take-length}
use lib.Dec.{T, leb, ltb, le→leb, lt→ltb, ltb→lt}
use Rattle.bars.specs.Lists.{All, join}
use Rattle.machine.specs.Fractals.{time_of}
use Rattle.machine.specs.Strokes.{Stroke, direction_of}
use Rattle.question4.specs.Question4.{question4}
use Rattle.arith.proofs.Tests.{yes}
use Rattle.named.specs.ReportQuestions.{nth, exists, stroke_exists, run_exists, run_of, fractals_of}
use Rattle.zones.specs.declared.Summary.{Summary}
use Rattle.zones.specs.declared.FakeStroke.{FakeStroke}
use Rattle.zones.specs.FakeStrokes.{create_fake_bis}
use Rattle.zones.specs.Zones.{Zone, summary, get_zs_seq}
use Rattle.zones.specs.NamedRuns.{failed_if, run_failed, named_run}
use Rattle.zones.specs.ZoneRows.{ZoneColumns, StrokeColumns}
use Rattle.zones.specs.ListedZones.{zones_fit, strokes_fit, zones_if, zones_after, listed_zones}
use Rattle.zones.specs.FakeRows.{FakeColumns}
use Rattle.zones.specs.ListedFakes.{fakes_of, stroke_failed, fakes_fit, FakesCall, fakes_if, fakes_after, listed_fakes}
use Rattle.zones.specs.Claims.{FakeChain, Inside}
use Rattle.zones.proofs.ZonesJoin.{zones-joined}
use Rattle.zones.proofs.ZonesReadBack.{zones_read_lem}
use Rattle.zones.proofs.FakesReadBack.{fakes_read_lem}
use Rattle.zones.proofs.NamedRunLaws.{passed_if}
use Rattle.feed.specs.PortCalls.{FreshCalls}
use Rattle.feed.specs.PortClaims.{kept_of, zones_called, told_zones, ZonesTold, fakes_called, told_fakes, FakesTold}

-- ---- zones

-- the run of all strokes
exists-all : (l : List Stroke) → run_exists l 0 (length l) ≡ true
unfolding run_exists
exists-all l = yes (leb (0 + length l) (length l)) (le→leb (0 + length l) (length l) (omega arith))

run-all : (r : FreshCalls) → named_run r.stand r.stores 0 (length (kept_of r)) ≡ map summary (kept_of r)
unfolding named_run run_of kept_of
run-all r = ap (map summary) (take-length (kept_of r))

pub zones-answered : (r : FreshCalls) (d : ZoneColumns) (e : StrokeColumns) → question4 r.stand r.stores ≡ true → zones_fit d (get_zs_seq (map summary (kept_of r))) ≡ true
    → strokes_fit e (map summary (kept_of r)) ≡ true
    → (zones_called r d e).answer.failed ≡ 0
unfolding listed_zones zones_after zones_if run_failed failed_if kept_of
zones-answered r d e q z s =
    (λ i. (zones_after (failed_if (q i) (exists-all (kept_of r) i)) d e (run-all r i)).answer.failed)
    ∙ (λ i. (zones_if (z i) (s i) d e (map summary (kept_of r))).answer.failed)

zones_if_lem : (a b : Bool) (d : ZoneColumns) (e : StrokeColumns) (l : List Summary) → (zones_if a b d e l).answer.failed ≡ 0 → told_zones (zones_if a b d e l) ≡ get_zs_seq l
unfolding zones_if
zones_if_lem true true d e l h = zones_read_lem d e l
zones_if_lem true false d e l h = let w : ⊥ = omega arith in absurd w
zones_if_lem false b d e l h = let w : ⊥ = omega arith in absurd w

zones-after : (n : ℕ) (d : ZoneColumns) (e : StrokeColumns) (l : List Summary) → (zones_after n d e l).answer.failed ≡ 0 → told_zones (zones_after n d e l) ≡ get_zs_seq l
unfolding zones_after
zones-after zero d e l h = zones_if_lem (zones_fit d (get_zs_seq l)) (strokes_fit e l) d e l h
zones-after (suc n) d e l h = let w : ⊥ = omega arith in absurd w

pub zones-told : (r : FreshCalls) (d : ZoneColumns) (e : StrokeColumns) → (zones_called r d e).answer.failed ≡ 0 → ZonesTold r (zones_called r d e)
unfolding listed_zones
zones-told r d e h =
    let n = length (kept_of r) in
    let p = zones-after (run_failed r.stand r.stores 0 n) d e (named_run r.stand r.stores 0 n) h ∙ ap get_zs_seq (run-all r) in
    record { zones = p; joined = ap (λ (l : List Zone). join (map (λ (z : Zone). z.strokes) l)) p ∙ zones-joined (map summary (kept_of r)) }

-- ---- fake strokes

pub fakes-answered : (r : FreshCalls) (i : ℕ) (d : FakeColumns) → question4 r.stand r.stores ≡ true → i < length (kept_of r)
    → fakes_fit d (fakes_of r.stand r.stores i) ≡ true
    → (fakes_called r i d).answer.failed ≡ 0
unfolding listed_fakes fakes_after fakes_if stroke_failed failed_if stroke_exists exists kept_of
fakes-answered r i d q h f =
    let l = fakes_of r.stand r.stores i in
    let x = yes (ltb i (length (kept_of r))) (lt→ltb i (length (kept_of r)) h) in
    (λ j. (fakes_after (failed_if (q j) (x j)) d l).answer.failed) ∙ (λ j. (fakes_if (f j) d l).answer.failed)

-- of a call that answered
record Answered (n : ℕ) (l : List FakeStroke) (c : FakesCall) : Type 0 where
  passed : n ≡ 0
  count : c.answer.count ≡ length l
  told : told_fakes c ≡ l

fakes_if_lem : (t : Bool) (d : FakeColumns) (l : List FakeStroke) → (fakes_if t d l).answer.failed ≡ 0 → Answered 0 l (fakes_if t d l)
unfolding fakes_if
fakes_if_lem true d l h = record { passed = refl; count = refl; told = fakes_read_lem d l }
fakes_if_lem false d l h = let w : ⊥ = omega arith in absurd w

fakes-after : (n : ℕ) (d : FakeColumns) (l : List FakeStroke) → (fakes_after n d l).answer.failed ≡ 0 → Answered n l (fakes_after n d l)
unfolding fakes_after
fakes-after zero d l h = fakes_if_lem (fakes_fit d l) d l h
fakes-after (suc n) d l h = let w : ⊥ = omega arith in absurd w

-- what stands at a place of a list of which each element has P
record Found {A : Type 0} (P : A → Type 0) (l : List A) (i : ℕ) : Type 0 where
  item : A
  at : nth l i ≡ some item
  has : P item

found : {A : Type 0} (P : A → Type 0) (l : List A) (i : ℕ) → i < length l → All P l → Found P l i
unfolding nth
found P [] i h p = let w : ⊥ = omega arith in absurd w
found P (a ∷ l) zero h p = record { item = a; at = refl; has = p.0 }
found P (a ∷ l) (suc i) h p = let f = found P l i (omega arith) p.1 in record { item = f.item; at = f.at; has = f.has }

exists-is : {A : Type 0} (l : List A) (i : ℕ) → exists l i ≡ true → i < length l
unfolding exists
exists-is l i e = ltb→lt i (length l) (subst T (sym e) tt)

pub fakes-told : (r : FreshCalls) → All Inside (kept_of r) → (i : ℕ) (d : FakeColumns) → (fakes_called r i d).answer.failed ≡ 0 → FakesTold r i (fakes_called r i d)
unfolding listed_fakes stroke_failed stroke_exists fakes_of fractals_of kept_of
fakes-told r k i d h =
    let a = fakes-after (stroke_failed r.stand r.stores i) d (fakes_of r.stand r.stores i) h in
    let x = exists-is (kept_of r) i (passed_if (question4 r.stand r.stores) (exists (kept_of r) i) a.passed).1 in
    let f = found Inside (kept_of r) i x k in
    let b = f.item in
    let places = r.stand.power_places in
    let e : fakes_of r.stand r.stores i ≡ create_fake_bis places b.fractals = ap (λ (o : Option Stroke). create_fake_bis places (fractals_of o)) f.at in
    let t = a.told ∙ e in
    record {
      stroke = b;
      at = f.at;
      odd = ap (λ (n : ℕ). n % 2) (a.count ∙ ap length e) ∙ f.has.count places;
      fakes = t;
      told = subst (λ (l : List FakeStroke). FakeChain (time_of b.start) (direction_of b.start.mark) l (time_of b.end)) (sym t) (f.has.told places);
    }
