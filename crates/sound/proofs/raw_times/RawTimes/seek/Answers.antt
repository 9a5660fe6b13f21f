use mathlib.Core.Path.{◌∙◌, sym, ap}
use mir.Syntax.{w64}
use mir.ValLaws.{to_z-of_z}
use Rattle.sound.specs.Code.SoundStand.{at_place}
use Rattle.sound.proofs.SoundNames.{at-place}
use Rattle.sound.proofs.raw_times.RawTimes.seek.Goals as goal

pub returns-then-is_at : goal.returns-then-is_at
returns-then-is_at c =
    let a = c.args in
    let same = ap (at_place a.self.times.now a.from) (to_z-of_z w64 a.t c.ranges.t) in
    at-place a.self.times.now a.from a.t a.self.rise (sym (c.is_at.ensures ∙ same) ∙ c.if-is_at.true)
