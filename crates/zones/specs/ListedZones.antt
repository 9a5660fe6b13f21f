-- What a call answers that lists the zones of a run of kept strokes: questions 4, 13 and 14, how many zones and strokes there are, and what the output columns
-- hold afterwards. Definitions only.
use Rattle.std.specs.Prelude.{ℕ, zero, suc, Bool, true, false, ◌&&◌, List, length, Result, Ok, Err}
use Rattle.bars.specs.declared.refusals.Question.{Question}
use Rattle.strokes.specs.declared.Stand.{Stand}
use Rattle.strokes.specs.Lent.{Stores}
use Rattle.named.specs.ReportQuestions.{question14}
use Rattle.zones.specs.declared.Summary.{Summary}
use Rattle.zones.specs.declared.zone_writing.ZoneCounts.{ZoneCounts}
use Rattle.zones.specs.Zones.{Zone, get_zs_seq}
use Rattle.zones.specs.NamedRuns.{run_failed, named_run}
use Rattle.zones.specs.ZoneRows.{ZoneColumns, put_zones, StrokeColumns, put_strokes}

-- question 14, of every column: one row for each zone, and one for each stroke of the run, since the zones' strokes are the run's, zone after zone
unfoldable pub zones_fit : ZoneColumns → List Zone → Bool
unfolding question14
zones_fit d l = question14 l (length d.times) && (question14 l (length d.prices) && question14 l (length d.numbers))

unfoldable pub strokes_fit : StrokeColumns → List Summary → Bool
unfolding question14
strokes_fit d l = question14 l (length d.times) && (question14 l (length d.prices) && question14 l (length d.codes))

-- the number of the question that was answered no, or 0, and how many zones and strokes are listed
pub record ZonesAnswer : Type 0 where
  pub failed : ℕ
  pub zones : ℕ
  pub strokes : ℕ

-- how many zones and strokes a call has listed: none where it was refused
abbrev pub zones_told : Result ZoneCounts Question → ℕ
zones_told (Ok n) = n.zones
zones_told (Err q) = 0

abbrev pub strokes_told : Result ZoneCounts Question → ℕ
strokes_told (Ok n) = n.strokes
strokes_told (Err q) = 0

-- the answer of a call, and the output columns after it
pub record ZonesCall : Type 0 where
  pub answer : ZonesAnswer
  pub zones : ZoneColumns
  pub strokes : StrokeColumns

abbrev pub zones_call : ℕ → ℕ → ℕ → ZoneColumns → StrokeColumns → ZonesCall
zones_call failed n k d e = record { answer = record { failed = failed; zones = n; strokes = k }; zones = d; strokes = e }

-- where questions 4 and 13 are passed, by question 14
unfoldable pub zones_if : Bool → Bool → ZoneColumns → StrokeColumns → List Summary → ZonesCall
unfolding get_zs_seq put_zones put_strokes
zones_if true true d e l = zones_call 0 (length (get_zs_seq l)) (length l) (put_zones d (get_zs_seq l)) (put_strokes e l)
zones_if true false d e l = zones_call 14 0 0 d e
zones_if false t d e l = zones_call 14 0 0 d e

unfoldable pub zones_after : ℕ → ZoneColumns → StrokeColumns → List Summary → ZonesCall
unfolding zones_if zones_fit strokes_fit get_zs_seq
zones_after zero d e l = zones_if (zones_fit d (get_zs_seq l)) (strokes_fit e l) d e l
zones_after (suc n) d e l = zones_call (suc n) 0 0 d e

-- the zones of a run, to the columns d, and its strokes to the columns e
unfoldable pub listed_zones : Stand → Stores → ℕ → ℕ → ZoneColumns → StrokeColumns → ZonesCall
unfolding zones_after run_failed named_run
listed_zones s m first count d e = zones_after (run_failed s m first count) d e (named_run s m first count)
