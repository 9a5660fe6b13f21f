-- What the feed's functions answer, in the words of PortCalls. Definitions only.
use Rattle.std.specs.Prelude.{Result, Ok, Err}
use Rattle.bars.specs.declared.Bar.{Bar}
use Rattle.bars.specs.declared.refusals.Question.{Question}
use Rattle.bars.specs.Refusals.{asked}
use Rattle.machine.specs.Feed as machine
use Rattle.strokes.specs.declared.Stand.{Stand}
use Rattle.strokes.specs.Lent.{Stores}
use Rattle.feed.specs.declared.events.Events.{Events}
use Rattle.feed.specs.PortCalls.{FeedIs}

abbrev pub events_in : Events → machine.Events
events_in e = record { made = e.made; broken = e.broken; shed = e.shed }

-- strokes made, broken and shed: none where the call was refused
abbrev pub events_of : Result Events Question → machine.Events
events_of (Ok e) = events_in e
events_of (Err q) = record { made = 0; broken = 0; shed = 0 }

-- FeedIs of what a call answered
abbrev pub FeedAnswers : Stand → Stores → Bar → Result Events Question → Stand → Stores → Type 0
FeedAnswers s m b r s' m' = FeedIs s m b (asked r) (events_of r).made (events_of r).broken (events_of r).shed s' m'
