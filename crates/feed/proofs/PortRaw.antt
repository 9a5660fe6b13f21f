-- The raw bars that are held after a list of calls from a fresh analyzer. Assumes nothing.
use mathlib.Core.Path.{◌≡◌, ap, sym, ◌∙◌, subst}
use mathlib.Core.List.{[], map}
use lib.Dec.{T}
use Rattle.bars.specs.Lists.{last, every}
use Rattle.machine.specs.Stand.{State, fresh}
use Rattle.machine.specs.Soundness.{is_named}
use Rattle.machine.specs.Calls.{calls}
use Rattle.machine.proofs.ReachedRaw.{reached_raw}
use Rattle.strokes.specs.StateRead.{state_of, bare_stroke, bare_state}
use Rattle.feed.specs.PortCalls.{accepted_of, FreshCalls}
use Rattle.feed.specs.PortClaims.{kept_of, raw_of}
use Rattle.feed.proofs.PortMachine.{settings, fresh_bare, Like, like}

module _ (r : FreshCalls) where
  abbrev k : Like r
  k = like r

  same-raw : raw_of r ≡ (calls (settings r) k.bars).state.raw
  unfolding raw_of bare_state
  same-raw = ap (λ (s : State). s.raw) k.state

  pub newest : last (raw_of r) ≡ last (accepted_of r.calls)
  newest = ap last same-raw ∙ reached_raw.newest (settings r) k.bars ∙ ap last (sym k.taken)

  pub none-accepted : raw_of r ≡ [] → accepted_of r.calls ≡ []
  none-accepted e = k.taken ∙ reached_raw.none-accepted (settings r) k.bars (sym same-raw ∙ e)

  pub none-held : raw_of r ≡ [] → state_of r.stand r.stores ≡ fresh
  none-held e = k.state ∙ ap bare_state (reached_raw.none-held (settings r) k.bars (sym same-raw ∙ e)) ∙ fresh_bare

  pub named : (kept_of r ≡ [] → ⊥) → T (every (is_named (raw_of r)) (state_of r.stand r.stores).unfinished)
  unfolding kept_of raw_of bare_state
  named n =
      subst (λ (s : State). T (every (is_named s.raw) s.unfinished)) (sym k.state)
      (reached_raw.named (settings r) k.bars (λ e. n (ap (λ (s : State). s.strokes) k.state ∙ ap (map bare_stroke) e)))
