-- What is claimed of the raw bars of the states that are reached from a fresh analyzer, refused calls and bars that repeat the last time included. The proof is
-- `reached_raw` of proofs/ReachedRaw.
use Rattle.std.specs.Prelude.{◌≡◌, List, [], T}
use Rattle.bars.specs.declared.Bar.{Bar}
use Rattle.bars.specs.Lists.{last, every}
use Rattle.machine.specs.Stand.{Settings, fresh}
use Rattle.machine.specs.Soundness.{is_named}
use Rattle.machine.specs.Calls.{calls, accepted}

pub record ReachedRaw : Type 0 where
  -- the newest raw bar is the last bar that was accepted; there is none where none was
  pub newest : (c : Settings) (bs : List Bar) → last (calls c bs).state.raw ≡ last (accepted c fresh bs)
  -- so where a bar was accepted there is a raw bar ..
  pub none-accepted : (c : Settings) (bs : List Bar) → (calls c bs).state.raw ≡ [] → accepted c fresh bs ≡ []
  -- .. and without one nothing is held
  pub none-held : (c : Settings) (bs : List Bar) → (calls c bs).state.raw ≡ [] → (calls c bs).state ≡ fresh
  -- with a stroke kept, the elements of all unfinished bars name kept raw bars, those of the first one too
  pub named : (c : Settings) (bs : List Bar) → ((calls c bs).state.strokes ≡ [] → ⊥) → T (every (is_named (calls c bs).state.raw) (calls c bs).state.unfinished)
