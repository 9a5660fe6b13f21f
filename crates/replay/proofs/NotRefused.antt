-- A fresh analyzer that refused nothing: the feeds begin with it, over the same stores as they are lent to be written. Assumes nothing.
use Prim.Native.Nat.{ℕ}
use mathlib.Core.Path.{◌≡◌, sym, ◌∙◌, subst}
use Rattle.std.specs.Prelude.{Result, Ok, IfOk}
use Rattle.bars.specs.declared.refusals.Question.{Question}
use Rattle.bars.specs.Refusals.{asked}
use Rattle.strokes.specs.declared.Stand.{Stand}
use Rattle.strokes.specs.Lent.{Stores}
use Rattle.sound.specs.FreshStand.{first_stand, fresh_failed}
use Rattle.sound.proofs.FreshLaws.{refused-is, begun_is}
use Rattle.from_fresh.specs.FromFresh.{FromFresh}
use Rattle.from_fresh.proofs.FromFreshLaws.{from-fresh-begins}

begun : (minimum most power ratio : ℕ) (m : Stores) (s : Stand) → 0 ≡ fresh_failed minimum most power ratio m → s ≡ first_stand minimum most power ratio m → FromFresh s m
begun minimum most power ratio m s z e =
    subst (λ (x : Stand). FromFresh x m) (begun_is minimum most power ratio m (sym z) ∙ sym e) (from-fresh-begins minimum most power ratio m (refused-is minimum most power ratio m ∙ sym z))

-- the stores as they are read, and as they are written
pub not-refused : (minimum most power ratio : ℕ) {m m' : Stores} (r : Result Stand Question) (s : Stand) → m ≡ m'
    → r ≡ Ok s → asked r ≡ fresh_failed minimum most power ratio m → IfOk r (λ x. x ≡ first_stand minimum most power ratio m) → FromFresh s m'
not-refused minimum most power ratio {m = m} r s w q z e =
    let n = subst (λ (x : Result Stand Question). asked x ≡ fresh_failed minimum most power ratio m) q z in
    let f = subst (λ (x : Result Stand Question). IfOk x (λ y. y ≡ first_stand minimum most power ratio m)) q e in
    subst (FromFresh s) w (begun minimum most power ratio m s n f)
