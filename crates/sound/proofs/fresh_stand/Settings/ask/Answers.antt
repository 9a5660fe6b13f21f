use borrow.Author.Tests.{lt-leb, le-leb}
use mathlib.Core.Bool.{◌&&◌}
use mathlib.Core.Path.{◌∙◌, sym}
use Rattle.machine.specs.FeedQuestions.{or_else}
use Rattle.sound.specs.FreshStand.{is_asked, question17}
use Rattle.sound.proofs.fresh_stand.Settings.ask.Goals as goal

pub returns-then-minimum-gt64 : goal.returns-then-minimum-gt64
unfolding is_asked or_else
returns-then-minimum-gt64 c = rw (lt-leb _ _ c.if-minimum-gt64.true)

pub returns-then-most-gt64 : goal.returns-then-most-gt64
unfolding is_asked or_else
returns-then-most-gt64 c = rw (le-leb _ _ c.if-minimum-gt64.false, lt-leb _ _ c.if-most-gt64.true)

pub returns-then-not-is_places : goal.returns-then-not-is_places
unfolding is_asked or_else question17
returns-then-not-is_places c = rw (le-leb _ _ c.if-minimum-gt64.false, le-leb _ _ c.if-most-gt64.false, sym (λ i. c.is_places.ensures i && c.is_places-2.ensures i) ∙ c.if-not-is_places.true)

pub returns : goal.returns
unfolding is_asked or_else question17
returns c = rw (le-leb _ _ c.if-minimum-gt64.false, le-leb _ _ c.if-most-gt64.false, sym (λ i. c.is_places.ensures i && c.is_places-2.ensures i) ∙ c.if-not-is_places.false)
