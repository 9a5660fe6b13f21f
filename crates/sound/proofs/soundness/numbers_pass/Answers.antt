use borrow.Author.Tests.{lt-leb, le-leb}
use Rattle.arith.proofs.Tests.{and_false}
use Rattle.machine.specs.Soundness.{settings_sound, rooms_pass, settings_pass}
use Rattle.strokes.specs.StateRead.{counts_sized, settings_of, bar_counts}
use Rattle.sound.specs.FreshStand.{rooms_fit}
use Rattle.sound.specs.Code.SoundStand.{numbers_pass}
use Rattle.sound.proofs.soundness.numbers_pass.Goals as goal

pub returns-then-n-gt64 : goal.returns-then-n-gt64
unfolding numbers_pass counts_sized
returns-then-n-gt64 c = rw (lt-leb _ 64 c.if-n-gt64.true, and_false _)

pub returns : goal.returns
unfolding numbers_pass counts_sized bar_counts settings_sound settings_of rooms_pass settings_pass rooms_fit
returns c = rw (c.total_fits.ensures, c.rooms_fit.ensures, c.is_setting.ensures, c.is_setting-2.ensures, c.is_places.ensures, c.is_places-2.ensures, le-leb _ 64 c.if-n-gt64.false)
