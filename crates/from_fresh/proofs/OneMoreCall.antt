-- A list of feed calls with one more at its end. Assumes nothing.
use Prim.Native.Nat.{ℕ, zero, suc}
use mathlib.Core.Path.{◌≡◌, refl, ap, sym, ◌∙◌, subst}
use mathlib.Core.List.{List, [], ◌∷◌, ◌++◌}
use Rattle.bars.specs.declared.Bar.{Bar}
use Rattle.machine.specs.Feed.{Events}
use Rattle.strokes.specs.declared.Stand.{Stand}
use Rattle.strokes.specs.Lent.{Stores}
use Rattle.feed.specs.PortCalls.{FeedIs, added, PortCalls, none, call, accepted_if, accepted_of}
use Rattle.feed.proofs.PortFollows.{added_assoc, added_none, none-added}

abbrev pub events : ℕ → ℕ → ℕ → Events
events made broken shed = record { made = made; broken = broken; shed = shed }

-- calls of which the bars l are accepted
pub record Taking (s : Stand) (m : Stores) (bs : List Bar) (e : Events) (t : Stand) (k : Stores) (l : List Bar) : Type 0 where
  pub calls : PortCalls s m bs e t k
  pub taken : accepted_of calls ≡ l

accepted-append : (n : ℕ) (a : Bar) (l r : List Bar) → accepted_if n a (l ++ r) ≡ accepted_if n a l ++ r
unfolding accepted_if
accepted-append zero a l r = refl
accepted-append (suc n) a l r = refl

pub grown : {s t t' : Stand} {m k k' : Stores} {bs : List Bar} {b : Bar} {e : Events} {failed made broken shed : ℕ}
    → (p : PortCalls s m bs e t k) → FeedIs t k b failed made broken shed t' k'
    → Taking s m (bs ++ b ∷ []) (added e (events made broken shed)) t' k' (accepted_of p ++ accepted_if failed b [])
unfolding accepted_of
grown {t' = t'} {k' = k'} {b = b} {failed = n} {made = made} {broken = broken} {shed = shed} (none {s = s} {m = m}) f =
    let v = events made broken shed in
    subst (λ (e : Events). Taking s m (b ∷ []) e t' k' (accepted_if n b [])) (added_none v ∙ sym (none-added v)) (record { calls = call f none; taken = refl })
grown {t' = t'} {k' = k'} {b = b} {failed = n} {made = made} {broken = broken} {shed = shed} (call {s = s} {m = m} {b = a} {bs = bs} {failed = o} {made = ma} {broken = br} {shed = sh} {e = e} g p) f =
    let v = events made broken shed in
    let w = grown p f in
    subst (λ (z : Events). Taking s m (a ∷ bs ++ b ∷ []) z t' k' (accepted_if o a (accepted_of p) ++ accepted_if n b [])) (sym (added_assoc (events ma br sh) e v))
    (record { calls = call g w.calls; taken = ap (accepted_if o a) w.taken ∙ accepted-append o a (accepted_of p) (accepted_if n b []) })

pub port_snoc : {s t t' : Stand} {m k k' : Stores} {bs : List Bar} {b : Bar} {e : Events} {failed made broken shed : ℕ}
    → PortCalls s m bs e t k → FeedIs t k b failed made broken shed t' k'
    → PortCalls s m (bs ++ b ∷ []) (added e (events made broken shed)) t' k'
port_snoc p f = (grown p f).calls
