use Rattle.bars.proofs.Including.{united_is}
use lib.Ieee.{Float}
use borrow.Author.Rules.{rules}
use mathlib.Core.Path.{◌∙◌, ap}
use mir.ValLaws.{to_z-of_z}
use mir.Syntax.{w64, w32}
use Rattle.bars.proofs.merging.united.Goals.{then-k3, else-k3}
use Rattle.bars.proofs.merging.united.Goals as goal

pub returns : goal.returns
returns c =
    let s = c.args in
    let time = to_z-of_z w64 s.time c.ranges.time in
    let id = to_z-of_z w32 s.k2.id (search rules) in
    elim c.if-k3.branch [
      | then-k3 w ↦ united_is s.k2 s.k3 _ _ _ s.high s.low _ _ time id (ap (λ (x : Float × Float). x.0) w.open-is ∙ rw w.if-k3.true) (ap (λ (x : Float × Float). x.1) w.open-is ∙ rw w.if-k3.true)
      | else-k3 w ↦ united_is s.k2 s.k3 _ _ _ s.high s.low _ _ time id (ap (λ (x : Float × Float). x.0) w.open-is ∙ rw w.if-k3.false) (ap (λ (x : Float × Float). x.1) w.open-is ∙ rw w.if-k3.false)
    ]
