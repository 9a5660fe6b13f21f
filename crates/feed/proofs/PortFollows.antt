-- A list of the port's feed calls follows the plain machine: where the lent stores have their recorded lengths, what is held after it is what the machine holds, but
-- for the elements of fractals' bars, and its answers add up to the machine's. Where the stand is not sound to begin with, every call is refused. Assumes nothing.
use Prim.Native.Nat.{ℕ, zero, suc, ◌+◌}
use native.Mathlib.Omega.{arith}
use mathlib.Core.Path.{◌≡◌, refl, ap, sym, ◌∙◌, subst}
use mathlib.Core.Bool.{Bool, false, ◌&&◌}
use mathlib.Core.List.{List, []}
use lib.Dec.{T}
use lib.Ieee.Bits.{is_true}
use Rattle.bars.specs.declared.Bar.{Bar}
use Rattle.machine.specs.Stand.{Settings, State}
use Rattle.machine.specs.Feed.{Events, Step, step}
use Rattle.machine.specs.Soundness.{sound}
use Rattle.machine.specs.FeedQuestions.{or_else, failed_after4, failed}
use Rattle.machine.specs.Calls.{Call, feed_by, feed, none_yet, plus, run, accepted_by, accepted}
use Rattle.strokes.specs.declared.Stand.{Stand}
use Rattle.strokes.specs.StateRead.{settings_of, state_of, sized, bare_state}
use Rattle.strokes.specs.Lent.{Stores}
use Rattle.strokes.proofs.BareSteps.{bare_step, bare_events_lem}
use Rattle.strokes.proofs.BareSound.{bare_failed}
use Rattle.question4.specs.Question4.{question4}
use Rattle.sound.specs.StandSound.{stores_sound}
use Rattle.feed.specs.PortCalls.{failed_by, FeedIs, added, PortCalls, none, call, accepted_if, accepted_of}

-- ---- one call

-- with stores of the recorded lengths, the port asks what the machine asks
same-failed : (s : Stand) (m : Stores) (b : Bar) (x : State) → T (sized s m) → state_of s m ≡ bare_state x → failed_by s m b ≡ failed (settings_of s) x b
unfolding failed_by question4 stores_sound failed
same-failed s m b x h e =
    let c = settings_of s in
    let y = state_of s m in
    ap (λ (t : Bool). or_else (t && sound c y) 4 (failed_after4 c y b)) (is_true (sized s m) h)
    ∙ ap (λ (z : State). or_else (sound c z) 4 (failed_after4 c z b)) e
    ∙ bare_failed c x b

-- what a call of the port with the number n and the events e has to do with the call r of the machine
record Followed (s : Stand) (b : Bar) (n : ℕ) (e : Events) (r : Call) (s' : Stand) (m' : Stores) : Type 0 where
  state : state_of s' m' ≡ bare_state r.state
  events : (g : Events) → plus g r.answer ≡ added g e
  taken : (l : List Bar) → accepted_if n b l ≡ accepted_by r.answer b l
  settings : settings_of s' ≡ settings_of s
  sizes : T (sized s' m')

by_number : (n : ℕ) (s s' : Stand) (m m' : Stores) (b : Bar) (made broken shed : ℕ) (x : State) → FeedIs s m b n made broken shed s' m'
    → T (sized s m) → state_of s m ≡ bare_state x
    → Followed s b n (record { made = made; broken = broken; shed = shed }) (feed_by n (settings_of s) x b) s' m'
unfolding feed_by plus added accepted_if accepted_by
by_number zero s s' m m' b made broken shed x f h e =
    let c = settings_of s in
    let a = f.accepted refl in
    let v : ◌≡◌ {A = Events} (record { made = made; broken = broken; shed = shed }) (step c x b).events =
    a.1 ∙ ap (λ (z : State). (step c z b).events) e ∙ bare_events_lem c x b in
    record {
      state = a.0 ∙ ap (λ (z : State). bare_state (step c z b).state) e ∙ bare_step c x b;
      events = λ g. ap (λ (w : Events). added g w) (sym v);
      taken = λ l. refl;
      settings = a.2;
      sizes = a.3;
    }
by_number (suc n) s s' m m' b made broken shed x f h e =
    let a = f.refused (λ q. omega arith) in
    record {
      state = (λ i. state_of (a.0 i) (a.1 i)) ∙ e;
      events = λ g. nothing g a.2 a.3 a.4;
      taken = λ l. refl;
      settings = ap settings_of a.0;
      sizes = subst T (sym (λ i. sized (a.0 i) (a.1 i))) h;
    }
  where
    nothing : (g : Events) → made ≡ 0 → broken ≡ 0 → shed ≡ 0
        → ◌≡◌ {A = Events} g (record { made = g.made + made; broken = g.broken + broken; shed = g.shed + shed })
    nothing g p q r =
        let u : g.made ≡ g.made + made = omega arith in
        let v : g.broken ≡ g.broken + broken = omega arith in
        let w : g.shed ≡ g.shed + shed = omega arith in
        λ i. record { made = u i; broken = v i; shed = w i }

one-call : (n : ℕ) (s s' : Stand) (m m' : Stores) (b : Bar) (made broken shed : ℕ) (x : State) → FeedIs s m b n made broken shed s' m'
    → T (sized s m) → state_of s m ≡ bare_state x
    → Followed s b n (record { made = made; broken = broken; shed = shed }) (feed (settings_of s) x b) s' m'
unfolding feed
one-call n s s' m m' b made broken shed x f h e =
    subst (λ (k : ℕ). Followed s b n (record { made = made; broken = broken; shed = shed }) (feed_by k (settings_of s) x b) s' m') (f.failed-is ∙ same-failed s m b x h e)
    (by_number n s s' m m' b made broken shed x f h e)

-- ---- a list of calls

pub added_assoc : (e f g : Events) → added (added e f) g ≡ added e (added f g)
unfolding added
added_assoc e f g =
    let u : e.made + f.made + g.made ≡ e.made + (f.made + g.made) = omega arith in
    let v : e.broken + f.broken + g.broken ≡ e.broken + (f.broken + g.broken) = omega arith in
    let w : e.shed + f.shed + g.shed ≡ e.shed + (f.shed + g.shed) = omega arith in
    λ i. record { made = u i; broken = v i; shed = w i }

pub added_none : (e : Events) → added e none_yet ≡ e
unfolding added none_yet
added_none e =
    let u : e.made + 0 ≡ e.made = omega arith in
    let v : e.broken + 0 ≡ e.broken = omega arith in
    let w : e.shed + 0 ≡ e.shed = omega arith in
    λ i. record { made = u i; broken = v i; shed = w i }

pub none-added : (e : Events) → added none_yet e ≡ e
unfolding added none_yet
none-added e =
    let u : 0 + e.made ≡ e.made = omega arith in
    let v : 0 + e.broken ≡ e.broken = omega arith in
    let w : 0 + e.shed ≡ e.shed = omega arith in
    λ i. record { made = u i; broken = v i; shed = w i }

-- the machine's step before the calls: a state, and the events so far
abbrev at : State → Events → Step
at x g = record { state = x; events = g }

pub record FollowedAll (c : Settings) (x : State) (g : Events) (bs : List Bar) (e : Events) (l : List Bar) (t : Stand) (k : Stores) : Type 0 where
  pub state : state_of t k ≡ bare_state (run c (at x g) bs).state
  pub events : added g e ≡ (run c (at x g) bs).events
  pub taken : l ≡ accepted c x bs

pub follows : {s t : Stand} {m k : Stores} {bs : List Bar} {e : Events} (p : PortCalls s m bs e t k) (x : State) (g : Events)
    → T (sized s m) → state_of s m ≡ bare_state x → FollowedAll (settings_of s) x g bs e (accepted_of p) t k
unfolding run accepted accepted_of
follows none x g h q = record { state = q; events = added_none g; taken = refl }
follows (call {s = s} {s' = s'} {t = t} {m = m} {m' = m'} {k = k} {b = b} {bs = bs} {failed = n} {made = made} {broken = broken} {shed = shed} {e = e} f p) x g h q =
    let c = settings_of s in
    let r = feed c x b in
    let w = one-call n s s' m m' b made broken shed x f h q in
    let v : Events = record { made = made; broken = broken; shed = shed } in
    let a : FollowedAll c r.state (plus g r.answer) bs e (accepted_of p) t k =
    subst (λ (z : Settings). FollowedAll z r.state (plus g r.answer) bs e (accepted_of p) t k) w.settings
    (follows p r.state (plus g r.answer) w.sizes w.state) in
    record {
      state = a.state;
      events = sym (added_assoc g v e) ∙ ap (λ (z : Events). added z e) (sym (w.events g)) ∙ a.events;
      taken = w.taken (accepted_of p) ∙ ap (accepted_by r.answer b) a.taken;
    }

-- ---- a stand that is not sound

pub record Idle {s t : Stand} {m k : Stores} {bs : List Bar} {e : Events} (p : PortCalls s m bs e t k) : Type 0 where
  pub stand : t ≡ s
  pub stores : k ≡ m
  pub events : e ≡ none_yet
  pub taken : accepted_of p ≡ []

pub refused_4 : (s : Stand) (m : Stores) (b : Bar) → question4 s m ≡ false → failed_by s m b ≡ 4
unfolding failed_by or_else
refused_4 s m b h = ap (λ (t : Bool). or_else t 4 (failed_after4 (settings_of s) (state_of s m) b)) h

pub idle : {s t : Stand} {m k : Stores} {bs : List Bar} {e : Events} (p : PortCalls s m bs e t k) → question4 s m ≡ false → Idle p
unfolding accepted_of added none_yet
idle none h = record { stand = refl; stores = refl; events = refl; taken = refl }
idle (call {s = s} {s' = s'} {m = m} {m' = m'} {b = b} {failed = n} {made = made} {broken = broken} {shed = shed} {e = e} f p) h =
    let q : n ≡ 4 = f.failed-is ∙ refused_4 s m b h in
    let a = f.refused (λ z. omega arith) in
    let j = idle p ((λ i. question4 (a.0 i) (a.1 i)) ∙ h) in
    record {
      stand = j.stand ∙ a.0;
      stores = j.stores ∙ a.1;
      events = (λ i. added (record { made = a.2 i; broken = a.3 i; shed = a.4 i }) (j.events i)) ∙ none-added none_yet;
      taken = (λ i. accepted_if (q i) b (j.taken i)) ∙ none-taken b;
    }
  where
    none-taken : (b : Bar) → accepted_if 4 b [] ≡ []
    none-taken b = refl
