use borrow.Author.Rules.{rules}
use lib.IntN.{pos}
use lib.ListN.{get_or, length}
use Prim.Native.Nat.{◌-◌}
use mathlib.Core.Path.{◌∙◌, sym, ap}
use mathlib.Core.Bool.{◌&&◌}
use mir.Syntax.{w64}
use mir.ValLaws.{to_z-of_z}
use Rattle.sound.specs.Code.SoundStand.{in_time}
use Rattle.sound.proofs.SoundScans.{times_pass-none, times-outside, times-inside}
use Rattle.sound.proofs.soundness.times_pass.Goals as goal

pub returns-then-n-eq0 : goal.returns-then-n-eq0
returns-then-n-eq0 c = times_pass-none c.args.ts.now c.if-n-eq0.true

pub returns-then-is_in_time : goal.returns-then-is_in_time
returns-then-is_in_time c =
    let l = c.args.ts.now in
    let a = c.is_in_time.ensures ∙ ap in_time (to_z-of_z w64 (get_or l 0 (pos 0)) (record { sfits = search rules })) in
    let b = c.is_in_time-2.ensures ∙ ap in_time (to_z-of_z w64 (get_or l (length l - 1) (pos 0)) (record { sfits = search rules })) in
    c.times_rise.ensures ∙ times-inside l (search rules) (sym (λ i. a i && b i) ∙ c.if-is_in_time.true)

pub returns-else-is_in_time : goal.returns-else-is_in_time
returns-else-is_in_time c =
    let l = c.args.ts.now in
    let a = c.is_in_time.ensures ∙ ap in_time (to_z-of_z w64 (get_or l 0 (pos 0)) (record { sfits = search rules })) in
    let b = c.is_in_time-2.ensures ∙ ap in_time (to_z-of_z w64 (get_or l (length l - 1) (pos 0)) (record { sfits = search rules })) in
    c.if-is_in_time.false ∙ times-outside l (search rules) (sym (λ i. a i && b i) ∙ c.if-is_in_time.false)
