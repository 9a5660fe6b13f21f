-- A list of calls from a fresh analyzer follows the plain machine where that was not refused, and is idle where it was. Either way what is held is what some list of the
-- machine's calls leaves. Assumes nothing.
use Prim.Native.Nat.{ℕ, zero, suc}
use native.Mathlib.Omega.{arith}
use mathlib.Core.Path.{◌≡◌, refl, sym, ◌∙◌, subst}
use mathlib.Core.List.{List, []}
use lib.Dec.{T}
use lib.Ieee.Fits.{and_l}
use Rattle.bars.specs.declared.Bar.{Bar}
use Rattle.machine.specs.Stand.{Settings, fresh}
use Rattle.machine.specs.Soundness.{sound}
use Rattle.machine.specs.Calls.{none_yet, run, start, calls, accepted}
use Rattle.strokes.specs.StateRead.{settings_of, state_of, sized, bare_state}
use Rattle.sound.proofs.FreshLaws.{fresh-state, fresh-sound, fresh_unsound}
use Rattle.question4.specs.Question4.{question4}
use Rattle.feed.specs.PortCalls.{accepted_of, FreshCalls, refused_with, begun}
use Rattle.feed.proofs.PortFollows.{FollowedAll, follows, Idle, idle, none-added}

pub fresh_bare : bare_state fresh ≡ fresh
unfolding bare_state fresh
fresh_bare = refl

abbrev pub settings : FreshCalls → Settings
settings r = settings_of (begun r)

-- the counts of a fresh stand fit the stores that it was made for
pub fresh-sized : (r : FreshCalls) → refused_with r ≡ 0 → T (sized (begun r) r.lent)
fresh-sized r z =
    and_l (sized (begun r) r.lent) (sound (settings r) (state_of (begun r) r.lent)) (subst T (sym (fresh-sound r.minimum r.most r.power r.ratio r.lent z)) tt)

pub followed : (r : FreshCalls) → refused_with r ≡ 0 → FollowedAll (settings r) fresh none_yet r.bars r.sums (accepted_of r.calls) r.stand r.stores
followed r z = follows r.calls fresh none_yet (fresh-sized r z) (fresh-state r.minimum r.most r.power r.ratio r.lent ∙ sym fresh_bare)

pub machine : (r : FreshCalls) → refused_with r ≡ 0 → state_of r.stand r.stores ≡ bare_state (calls (settings r) r.bars).state
unfolding calls start
machine r z = (followed r z).state

pub events : (r : FreshCalls) → refused_with r ≡ 0 → r.sums ≡ (calls (settings r) r.bars).events
unfolding calls start
events r z = sym (none-added r.sums) ∙ (followed r z).events

pub unheard : (r : FreshCalls) → (refused_with r ≡ 0 → ⊥) → Idle r.calls
unfolding question4
unheard r z = idle r.calls (fresh_unsound r.minimum r.most r.power r.ratio r.lent z)

-- ---- a list of the machine's calls that leaves the same

pub record Like (r : FreshCalls) : Type 0 where
  pub bars : List Bar
  pub state : state_of r.stand r.stores ≡ bare_state (calls (settings r) bars).state
  pub sums : r.sums ≡ (calls (settings r) bars).events
  pub taken : accepted_of r.calls ≡ accepted (settings r) fresh bars

-- refused: as if no bar had come
like_none : (r : FreshCalls) → (refused_with r ≡ 0 → ⊥) → Like r
unfolding calls run start accepted
like_none r z =
    let j = unheard r z in
    record {
      bars = [];
      state = (λ i. state_of (j.stand i) (j.stores i)) ∙ fresh-state r.minimum r.most r.power r.ratio r.lent ∙ sym fresh_bare;
      sums = j.events;
      taken = j.taken;
    }

like_if : (r : FreshCalls) (n : ℕ) → refused_with r ≡ n → Like r
like_if r zero z = record { bars = r.bars; state = machine r z; sums = events r z; taken = (followed r z).taken }
like_if r (suc n) z = like_none r (λ e. omega arith)

pub like : (r : FreshCalls) → Like r
like r = like_if r (refused_with r) refl
