-- What stays along a list of calls: the settings, and the lengths of the stores. Assumes nothing.
use Prim.Native.Nat.{zero, suc}
use native.Mathlib.Omega.{arith}
use mathlib.Core.Path.{◌≡◌, refl, ap, sym, ◌∙◌, subst}
use mathlib.Core.List.{List}
use lib.Dec.{T}
use Rattle.bars.specs.declared.Bar.{Bar}
use Rattle.machine.specs.Feed.{Events}
use Rattle.strokes.specs.declared.Stand.{Stand}
use Rattle.strokes.specs.StateRead.{settings_of, sized}
use Rattle.strokes.specs.Lent.{Stores}
use Rattle.feed.specs.PortCalls.{PortCalls, none, call}
use Rattle.writing.proofs.SameLengths.{SameLengths, lengths_of}

pub settings_stay : {s t : Stand} {m k : Stores} {bs : List Bar} {e : Events} → PortCalls s m bs e t k → settings_of t ≡ settings_of s
settings_stay none = refl
settings_stay (call {failed = zero} f p) = settings_stay p ∙ (f.accepted refl).2
settings_stay (call {failed = suc n} f p) = settings_stay p ∙ ap settings_of (f.refused (λ q. omega arith)).0

pub sizes_stay : {s t : Stand} {m k : Stores} {bs : List Bar} {e : Events} → PortCalls s m bs e t k → T (sized s m) → T (sized t k)
sizes_stay none h = h
sizes_stay (call {failed = zero} f p) h = sizes_stay p (f.accepted refl).3
sizes_stay (call {failed = suc n} f p) h =
    let a = f.refused (λ q. omega arith) in
    sizes_stay p (subst T (sym (λ i. sized (a.0 i) (a.1 i))) h)

-- the lengths of the stores stay
pub calls_lengths : {s t : Stand} {m k : Stores} {bs : List Bar} {e : Events} → PortCalls s m bs e t k → T (sized s m) → SameLengths m k
calls_lengths {s = s} {t = t} {m = m} {k = k} p h = lengths_of s t m k h (sizes_stay p h) (settings_stay p)
