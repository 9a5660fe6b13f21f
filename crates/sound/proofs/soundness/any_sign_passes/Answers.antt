use mathlib.Core.Path.{◌∙◌, sym, subst}
use mathlib.Core.Bool.{◌&&◌}
use lib.Dec.{T}
use lib.Ieee.{le}
use Rattle.arith.proofs.Tests.{yes, holds}
use Rattle.sound.specs.Code.SoundStand.{smaller_of, larger_of, above_zero}
use Rattle.sound.proofs.SoundRows.{sizes_pass}
use Rattle.sound.proofs.soundness.any_sign_passes.Goals as goal

pub returns-then-sized : goal.returns-then-sized
returns-then-sized c =
    let a = c.args in
    let h = c.size-h.ensures in
    let l = c.size-l.ensures in
    let most = c.larger.ensures ∙ (λ i. larger_of (h i) (l i)) in
    let least = c.smaller.ensures ∙ (λ i. smaller_of (h i) (l i)) in
    let e = c.above_zero.ensures ∙ (λ i. above_zero (c.size.ensures i) (c.size-2.ensures i) (most i) (least i)) in
    c.if-sized.true ∙ sym (yes _ (sizes_pass a.«open» a.close a.high a.low (subst T (λ j. e j && le a.low a.high) (holds c.if-sized.true))))
