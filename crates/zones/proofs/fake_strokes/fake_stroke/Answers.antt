use borrow.Author.Rules.{rules}
use mathlib.Core.Path.{ap}
use lib.Ieee.{Float}
use mir.Syntax.{w64}
use mir.ValLaws.{to_z-of_z}
use Rattle.zones.proofs.FakesOfTwo.{up_made, down_made}
use Rattle.zones.proofs.fake_strokes.fake_stroke.Goals as goal
use Rattle.zones.proofs.fake_strokes.fake_stroke.Goals.{in-D, in-G}

pub returns : goal.returns
returns c =
    let a = c.args in
    let t = to_z-of_z w64 a.first.time (record { sfits = search rules }) in
    let u = to_z-of_z w64 a.second.time (record { sfits = search rules }) in
    elim c.match-mark.branch [
      | in-D w ↦ up_made a.places a.mark a.first a.second _ _ _ _ _ _ c.direction_of.ensures t u c.round_to_nth_digit.ensures.0 w.in-D.is (ap (λ (x : Float × Float). x.0) w.high-is) (ap (λ (x : Float × Float). x.1) w.high-is)
      | in-G w ↦ down_made a.places a.mark a.first a.second _ _ _ _ _ _ c.direction_of.ensures t u c.round_to_nth_digit.ensures.0 w.in-G.is (ap (λ (x : Float × Float). x.0) w.high-is) (ap (λ (x : Float × Float). x.1) w.high-is)
    ]
