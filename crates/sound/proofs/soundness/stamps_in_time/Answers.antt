use borrow.Author.Rules.{rules}
use lib.IntN.{pos}
use lib.ListN.{get_or}
use mathlib.Core.Path.{◌∙◌, ap}
use mir.Syntax.{w64}
use mir.ValLaws.{to_z-of_z}
use mathlib.Core.Bool.{◌&&◌}
use Rattle.sound.specs.Code.SoundStand.{in_time, stamps_pass}
use Rattle.sound.proofs.soundness.stamps_in_time.Goals as goal

pub returns : goal.returns
unfolding stamps_pass
returns c =
    let t = c.args.t in
    let a = c.is_in_time.ensures ∙ ap in_time (to_z-of_z w64 (get_or t 0 (pos 0)) (record { sfits = search rules })) in
    let b = c.is_in_time-2.ensures ∙ ap in_time (to_z-of_z w64 (get_or t 1 (pos 0)) (record { sfits = search rules })) in
    let d = c.is_in_time-3.ensures ∙ ap in_time (to_z-of_z w64 (get_or t 2 (pos 0)) (record { sfits = search rules })) in
    λ i. a i && (b i && d i)
