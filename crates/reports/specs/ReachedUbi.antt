-- What is claimed of the unfinished summary in the states that are reached from a fresh analyzer. The proof is `reached_ubi` of proofs/ReachedUbi.
use Rattle.std.specs.Prelude.{◌≡◌, ◌&&◌, List, [], T}
use Rattle.bars.specs.declared.Bar.{Bar}
use Rattle.bars.specs.Merging.{at_times}
use Rattle.machine.specs.Fractals.{check_fxs}
use Rattle.machine.specs.Stand.{Settings, State}
use Rattle.machine.specs.Soundness.{bar_times, sound}
use Rattle.machine.specs.Calls.{calls}
use Rattle.reports.specs.Measures.{elements_of}
use Rattle.reports.specs.Unfinished.{non_empty, question15}

-- of the state s
pub record UbiIn (c : Settings) (s : State) : Type 0 where
  -- if it is sound, question 15 asks for a stroke and a fractal among the unfinished bars only
  pub asked : T (sound c s) → question15 s.raw s.unfinished s.strokes ≡ non_empty s.strokes && non_empty (check_fxs s.unfinished)
  -- with a stroke kept, high and low are over all elements of the unfinished bars: a kept raw bar for each
  pub over-all : (s.strokes ≡ [] → ⊥) → bar_times (at_times s.raw (elements_of s.unfinished)) ≡ elements_of s.unfinished

abbrev pub ReachedUbi : Type 0
ReachedUbi = (c : Settings) (bs : List Bar) → UbiIn c (calls c bs).state
