-- Demand 3 of the port: the claims of Claims, on every list of the port's feed calls from a fresh analyzer, refused ones included. The kept strokes are those that
-- are read off the stand and the stores that the last call leaves; the last four claims are of what get_zs_seq and create_fake_bis then answer. The proof is `port_demand3` of proofs/PortDemand3.
use Rattle.std.specs.Prelude.{ℕ, ◌+◌, ◌<◌, ◌%◌, ◌≡◌, true, List, [], map, length, T}
use Rattle.std.proofs.Math.Option.{none, some}
use Rattle.bars.specs.declared.Bar.{Bar}
use Rattle.bars.specs.Lists.{All, join, last, every}
use Rattle.machine.specs.Fractals.{time_of}
use Rattle.machine.specs.Strokes.{Stroke, direction_of}
use Rattle.machine.specs.Stand.{fresh}
use Rattle.machine.specs.Calls.{calls, none_yet, each_later}
use Rattle.machine.specs.Soundness.{is_named, newest_last}
use Rattle.machine.specs.Reached.{Shallow}
use Rattle.machine.specs.KeptStrokes.{MeetAll}
use Rattle.machine.specs.SearchByTime.{SearchByTime}
use Rattle.machine.specs.ReachedByTime.{ReachedByTime}
use Rattle.strokes.specs.StateRead.{settings_of, state_of, bare_stroke, bare_state}
use Rattle.question4.specs.Question4.{question4}
use Rattle.named.specs.ReportQuestions.{nth}
use Rattle.zones.specs.declared.FakeStroke.{FakeStroke}
use Rattle.zones.specs.FakeStrokes.{create_fake_bis}
use Rattle.zones.specs.Zones.{Zone, summary, get_zs_seq}
use Rattle.zones.specs.ZoneRows.{ZoneColumns, StrokeColumns}
use Rattle.zones.specs.ListedZones.{zones_fit, strokes_fit, ZonesCall, listed_zones}
use Rattle.zones.specs.ZonesRead.{zones_read}
use Rattle.zones.specs.FakeRows.{FakeColumns}
use Rattle.zones.specs.ListedFakes.{fakes_of, fakes_fit, FakesCall, listed_fakes}
use Rattle.zones.specs.FakesRead.{fakes_read}
use Rattle.zones.specs.Claims.{FakeChain, Inside}
use Rattle.feed.specs.PortCalls.{FreshCalls, refused_with, begun, accepted_of}
use Rattle.feed.specs.StrokesLeft.{EventStrokes, strokes_of, counted, Left}

-- the strokes that the stand and the stores hold after the last call
unfoldable pub kept_of : FreshCalls → List Stroke
unfolding state_of
kept_of r = (state_of r.stand r.stores).strokes

-- the raw bars
unfoldable pub raw_of : FreshCalls → List Bar
unfolding state_of
raw_of r = (state_of r.stand r.stores).raw

-- the strokes that each call of the plain machine makes, breaks and sheds on the same bars
abbrev pub machine_strokes : FreshCalls → List EventStrokes
machine_strokes r = strokes_of (settings_of (begun r)) fresh r.bars

-- without the elements of fractals' bars, as they are stored
unfoldable pub bare_events : EventStrokes → EventStrokes
unfolding bare_stroke
bare_events e = record { made = map bare_stroke e.made; broken = map bare_stroke e.broken; shed = map bare_stroke e.shed }

-- ---- what is answered after the last call

-- get_zs_seq over all kept strokes, with the output columns d and e: its contract says that the answer and the columns afterwards are these
abbrev pub zones_called : FreshCalls → ZoneColumns → StrokeColumns → ZonesCall
zones_called r d e = listed_zones r.stand r.stores 0 (length (kept_of r)) d e

-- the zones that the caller then reads off the columns: as many rows of each as the answer says
abbrev pub told_zones : ZonesCall → List Zone
told_zones c = zones_read c.answer.zones c.answer.strokes c.zones c.strokes

pub record ZonesTold (r : FreshCalls) (c : ZonesCall) : Type 0 where
  -- they are the zones of the kept strokes
  pub zones : told_zones c ≡ get_zs_seq (map summary (kept_of r))
  -- their strokes, zone after zone, are the kept strokes, oldest first, each once
  pub joined : join (map (λ z. z.strokes) (told_zones c)) ≡ map summary (kept_of r)

-- create_fake_bis of the kept stroke at place i, oldest 0, with the output columns d: its contract says that the answer and the columns afterwards are these
abbrev pub fakes_called : FreshCalls → ℕ → FakeColumns → FakesCall
fakes_called r i d = listed_fakes r.stand r.stores i d

-- the fake strokes that the caller then reads off the columns: as many rows as the answer says
abbrev pub told_fakes : FakesCall → List FakeStroke
told_fakes c = fakes_read c.answer.count c.columns

pub record FakesTold (r : FreshCalls) (i : ℕ) (c : FakesCall) : Type 0 where
  -- the kept stroke at place i
  pub stroke : Stroke
  pub at : nth (kept_of r) i ≡ some stroke
  -- an odd number is answered
  pub odd : c.answer.count % 2 ≡ 1
  -- they are the fake strokes of that stroke's fractals, power to the stand's places
  pub fakes : told_fakes c ≡ create_fake_bis r.stand.power_places stroke.fractals
  -- the first begins at the time of the stroke's start and goes the stroke's way, each next one begins at the time at which the one before ends and goes the other
  -- way, and the last ends at the time of the stroke's end
  pub told : FakeChain (time_of stroke.start) (direction_of stroke.start.mark) (told_fakes c) (time_of stroke.end)

-- ---- the claims

pub record PortDemand3 : Type 0 where
  -- a fresh analyzer that was not refused: what is held is what the plain machine holds, but for the elements of fractals' bars, and the sums are the machine's
  pub machine : (r : FreshCalls) → refused_with r ≡ 0 → state_of r.stand r.stores ≡ bare_state (calls (settings_of (begun r)) r.bars).state
  pub events : (r : FreshCalls) → refused_with r ≡ 0 → r.sums ≡ (calls (settings_of (begun r)) r.bars).events
  -- of question 4 every clause holds but the one on the newest raw bar ..
  pub sound_but_lem : (r : FreshCalls) → refused_with r ≡ 0
      → question4 r.stand r.stores ≡ newest_last (state_of r.stand r.stores)
  -- .. and that one too where every accepted bar was later than the one before, or where no unfinished bar had more than 100 elements. Zones and fake strokes are answered there
  pub sound-later : (r : FreshCalls) → refused_with r ≡ 0
      → T (each_later none (accepted_of r.calls)) → question4 r.stand r.stores ≡ true
  pub sound-shallow : (r : FreshCalls) → refused_with r ≡ 0
      → Shallow (settings_of (begun r)) fresh r.bars → question4 r.stand r.stores ≡ true
  -- the newest raw bar is the last bar that was accepted; there is none where none was
  pub newest : (r : FreshCalls) → last (raw_of r) ≡ last (accepted_of r.calls)
  -- so where a bar was accepted there is a raw bar ..
  pub none-accepted : (r : FreshCalls) → raw_of r ≡ [] → accepted_of r.calls ≡ []
  -- .. and without one nothing is held
  pub none-held : (r : FreshCalls) → raw_of r ≡ [] → state_of r.stand r.stores ≡ fresh
  -- with a stroke kept, the elements of all unfinished bars name kept raw bars, those of the first one too: the unfinished summary is over all of them
  pub named : (r : FreshCalls) → (kept_of r ≡ [] → ⊥) → T (every (is_named (raw_of r)) (state_of r.stand r.stores).unfinished)
  -- the plain machine searches by place and the Rust by time: with rising times both find the same stroke and leave the same bars
  pub by_time : SearchByTime
  -- and on every list of calls the times of the bars that are searched rise, and the kept strokes begin and end at the bars whose times the Rust compares
  pub by_time_reached : ReachedByTime
  -- one that was refused: so is every call
  pub idle : (r : FreshCalls) → (refused_with r ≡ 0 → ⊥) → (r.stand ≡ begun r) × (r.stores ≡ r.lent) × (r.sums ≡ none_yet)
  -- the places for power and for ratios that the fresh analyzer was asked for are the stand's: no call changes them
  pub places : (r : FreshCalls) → refused_with r ≡ 0 → (r.stand.power_places ≡ r.power) × (r.stand.ratio_places ≡ r.ratio)
  -- over all answers, strokes made = kept + broken + shed
  pub sums : (r : FreshCalls) → r.sums.made ≡ length (kept_of r) + r.sums.broken + r.sums.shed
  -- a fresh analyzer that was not refused: call by call, the strokes kept before it and those the machine then makes are those it sheds, those kept after it and those it
  -- breaks, in order; so the kept strokes are, oldest first, exactly those made and neither broken nor shed. No other list is left, and the sums count these strokes
  pub left : (r : FreshCalls) → refused_with r ≡ 0 → Left [] (map bare_events (machine_strokes r)) (kept_of r)
  pub left-only : (r : FreshCalls) → refused_with r ≡ 0 → (l : List Stroke) → Left [] (map bare_events (machine_strokes r)) l → l ≡ kept_of r
  pub left-counted : (r : FreshCalls) → refused_with r ≡ 0 → r.sums ≡ counted (machine_strokes r)
  -- the strokes of the zones, zone after zone, are the kept strokes
  pub zoned : (r : FreshCalls) → join (map (λ z. z.strokes) (get_zs_seq (map summary (kept_of r)))) ≡ map summary (kept_of r)
  -- each kept stroke: its fake strokes and its end
  pub inside : (r : FreshCalls) → All Inside (kept_of r)
  -- if every accepted bar was later than the one before, neighbours meet on one fractal (time, mark, high, low, fx) and go opposite ways
  pub meet : (r : FreshCalls) → T (each_later none (accepted_of r.calls)) → MeetAll (kept_of r)
  -- get_zs_seq over all kept strokes answers where question 4 holds and each output column has places enough
  pub zones-answered : (r : FreshCalls) (d : ZoneColumns) (e : StrokeColumns) → question4 r.stand r.stores ≡ true → zones_fit d (get_zs_seq (map summary (kept_of r))) ≡ true
      → strokes_fit e (map summary (kept_of r)) ≡ true
      → (zones_called r d e).answer.failed ≡ 0
  -- and whenever it answers, whatever the columns held before, its rows tell the zones of the kept strokes
  pub zones-told : (r : FreshCalls) (d : ZoneColumns) (e : StrokeColumns) → (zones_called r d e).answer.failed ≡ 0 → ZonesTold r (zones_called r d e)
  -- create_fake_bis of a kept stroke answers where question 4 holds and each output column has places enough
  pub fakes-answered : (r : FreshCalls) (i : ℕ) (d : FakeColumns) → question4 r.stand r.stores ≡ true → i < length (kept_of r)
      → fakes_fit d (fakes_of r.stand r.stores i) ≡ true
      → (fakes_called r i d).answer.failed ≡ 0
  -- and whenever it answers, for whatever place and whatever the columns held before, there is a kept stroke at that place, and its rows tell that stroke's fake strokes
  pub fakes-told : (r : FreshCalls) (i : ℕ) (d : FakeColumns) → (fakes_called r i d).answer.failed ≡ 0 → FakesTold r i (fakes_called r i d)
