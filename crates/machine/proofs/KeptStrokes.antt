-- Every list of calls from a fresh analyzer: the sums of its answers, what holds of each kept stroke, and that neighbours meet where times rise.
-- Assumes nothing.
use Prim.Native.Nat.{◌+◌}
use native.Mathlib.Omega.{arith}
use mathlib.Core.Path.{◌≡◌, refl, sym, subst}
use mathlib.Core.List.{List}
use lib.ListN.{length}
use Rattle.bars.specs.declared.Bar.{Bar}
use Rattle.bars.specs.Lists.{All}
use Rattle.machine.specs.Stand.{Settings, fresh}
use Rattle.machine.specs.Feed.{Step}
use Rattle.machine.specs.Calls.{calls}
use Rattle.machine.specs.KeptStrokes.{MeetAll}
use Rattle.machine.specs.Reached.{Later}
use Rattle.machine.proofs.Facts.{Good}
use Rattle.machine.proofs.MachineByTime.{run, start}
use Rattle.machine.proofs.EventSums.{run_balanced}
use Rattle.machine.proofs.StrokesMeet.{strokes-meet}
use Rattle.machine.proofs.ReplacedBars as again
use Rattle.machine.proofs.NewestWhereLater.{asks_later}
use Rattle.machine.proofs.SameMachine.{passes, asks, same-machine}
use Rattle.machine.proofs.ReachedSound.{start-later}

module _ (c : Settings) (bs : List Bar) where
  abbrev by_time : Step
  by_time = run (passes c) c.minimum c.most start bs

  balanced : length by_time.state.strokes + by_time.events.broken + by_time.events.shed ≡ 0 + by_time.events.made
  unfolding start fresh
  balanced = run_balanced (passes c) c.minimum c.most start bs refl

  -- strokes made = kept + broken + shed
  pub kept-sums : (calls c bs).events.made ≡ length (calls c bs).state.strokes + (calls c bs).events.broken + (calls c bs).events.shed
  kept-sums = subst (λ (z : Step). z.events.made ≡ length z.state.strokes + z.events.broken + z.events.shed) (sym (same-machine c bs)) (omega (arith, balanced))

  pub kept_good : All Good (calls c bs).state.strokes
  kept_good = subst (λ (z : Step). All Good z.state.strokes) (sym (same-machine c bs)) (again.kept_good (passes c) (asks_later (passes c) (asks c)) c.minimum c.most bs)

  pub kept-meet : Later c bs → MeetAll (calls c bs).state.strokes
  kept-meet h = subst (λ (z : Step). MeetAll z.state.strokes) (sym (same-machine c bs)) (strokes-meet (passes c) c.minimum c.most bs (start-later c bs h))
