-- Question 4 on every list of calls from a fresh analyzer that was not refused: only the clause on the newest raw bar can fail. Assumes
-- nothing.
use mathlib.Core.Path.{◌≡◌, refl, ap, sym, ◌∙◌, subst}
use mathlib.Core.Bool.{Bool, true, ◌&&◌}
use mathlib.Core.List.{List}
use mathlib.Core.Option.{none}
use lib.Dec.{T}
use lib.Ieee.Bits.{is_true}
use lib.Ieee.Fits.{and_l, and_r}
use Rattle.bars.specs.declared.Bar.{Bar}
use Rattle.machine.specs.Stand.{Settings, State, fresh}
use Rattle.machine.specs.Soundness.{counts_fit, lists_sound, settings_sound, sound_but, newest_last, sound}
use Rattle.machine.specs.Calls.{calls, each_later}
use Rattle.machine.specs.Reached.{Shallow}
use Rattle.machine.proofs.ReachedSound.{reached_sound}
use Rattle.strokes.specs.declared.Stand.{Stand}
use Rattle.strokes.specs.StateRead.{settings_of, state_of, sized, bare_state}
use Rattle.strokes.specs.Lent.{Stores}
use Rattle.strokes.proofs.BareSound.{bare_sound}
use Rattle.sound.specs.StandSound.{stores_sound}
use Rattle.sound.proofs.FreshLaws.{fresh-sound}
use Rattle.question4.specs.Question4.{question4}
use Rattle.feed.specs.PortCalls.{accepted_of, FreshCalls, refused_with, begun}
use Rattle.feed.proofs.PortStays.{settings_stay, sizes_stay}
use Rattle.feed.proofs.PortMachine.{settings, followed, machine}

fresh-passes : (s : Stand) (m : Stores) → sized s m && sound (settings_of s) (state_of s m) ≡ true → T (sized s m) × T (settings_sound (settings_of s))
unfolding sound sound_but
fresh-passes s m e =
    let c = settings_of s in
    let x = state_of s m in
    let h : T (sized s m && sound c x) = subst T (sym e) tt in
    let b = counts_fit c x && lists_sound c.most x in
    let u = settings_sound c && b in
    let k = and_r (sized s m) (u && newest_last x) h in
    (and_l (sized s m) (u && newest_last x) h, and_l (settings_sound c) b (and_l u (newest_last x) k))

newest_bare : (x : State) → newest_last x ≡ newest_last (bare_state x)
unfolding newest_last bare_state
newest_bare x = refl

asks_newest : (c : Settings) (x : State) → T (sound_but c x) → sound c (bare_state x) ≡ newest_last (bare_state x)
unfolding sound
asks_newest c x h = bare_sound c x ∙ ap (λ (t : Bool). t && newest_last x) (is_true (sound_but c x) h) ∙ newest_bare x

pub reached_asks : (r : FreshCalls) → refused_with r ≡ 0
    → question4 r.stand r.stores ≡ newest_last (state_of r.stand r.stores)
unfolding question4 stores_sound
reached_asks r z =
    let c = settings_of (begun r) in
    let f = fresh-passes (begun r) r.lent (fresh-sound r.minimum r.most r.power r.ratio r.lent z) in
    let e = machine r z in
    (λ i. is_true (sized r.stand r.stores) (sizes_stay r.calls f.0) i && sound (settings_stay r.calls i) (e i))
    ∙ asks_newest c (calls c r.bars).state (reached_sound.every c f.1 r.bars)
    ∙ ap newest_last (sym e)

pub reached_sizes : (r : FreshCalls) → refused_with r ≡ 0 → T (sized r.stand r.stores)
reached_sizes r z =
    sizes_stay r.calls (fresh-passes (begun r) r.lent (fresh-sound r.minimum r.most r.power r.ratio r.lent z)).0

-- ---- where no accepted bar repeats a time, or no element is left out, none is in doubt

-- the clause on the newest raw bar, from all of soundness
newest_of : (c : Settings) (x : State) → T (sound c x) → newest_last (bare_state x) ≡ true
unfolding sound
newest_of c x h = sym (newest_bare x) ∙ is_true (newest_last x) (and_r (sound_but c x) (newest_last x) h)

module _ (r : FreshCalls) (z : refused_with r ≡ 0) where
  settings_pass_lem : T (settings_sound (settings r))
  settings_pass_lem = (fresh-passes (begun r) r.lent (fresh-sound r.minimum r.most r.power r.ratio r.lent z)).1

  from-machine : T (sound (settings r) (calls (settings r) r.bars).state) → question4 r.stand r.stores ≡ true
  from-machine s = reached_asks r z ∙ ap newest_last (machine r z) ∙ newest_of (settings r) (calls (settings r) r.bars).state s

  pub reached_later : T (each_later none (accepted_of r.calls)) → question4 r.stand r.stores ≡ true
  reached_later l =
      from-machine (reached_sound.later (settings r) settings_pass_lem r.bars (subst (λ (x : List Bar). T (each_later none x)) (followed r z).taken l))

  pub reached_shallow : Shallow (settings r) fresh r.bars → question4 r.stand r.stores ≡ true
  reached_shallow s = from-machine (reached_sound.shallow (settings r) settings_pass_lem r.bars s)
