-- What comes from a fresh analyzer by feeds: where it begins, how it goes on, and that of question 4 only the newest raw bar is in doubt there. Assumes nothing.
use Prim.Native.Nat.{ℕ, ◌≤◌}
use native.Mathlib.Omega.{arith}
use mathlib.Core.Path.{◌≡◌, ap, sym, ◌∙◌, subst}
use mathlib.Core.Bool.{Bool, true, false, ◌&&◌}
use mathlib.Core.List.{List, [], ◌∷◌, ◌++◌}
use lib.Dec.{T, leb, leb→le}
use lib.Ieee.Fits.{and_l, and_r}
use Rattle.bars.specs.declared.Bar.{Bar}
use Rattle.machine.specs.Feed.{Events}
use Rattle.machine.specs.Stand.{Settings}
use Rattle.machine.specs.Soundness.{is_room, rooms_pass, newest_last}
use Rattle.machine.specs.Calls.{none_yet}
use Rattle.strokes.specs.declared.Stand.{Stand}
use Rattle.strokes.specs.StateRead.{settings_of, state_of, sized}
use Rattle.stores.specs.Stores.{RawStore, MergedStore}
use Rattle.strokes.specs.Lent.{Stores}
use Rattle.sound.specs.FreshStand.{fresh_of}
use Rattle.sound.specs.StandSound.{IsSound, stores_sound}
use Rattle.sound.specs.Code.NewestBar.{NewestRoom, NewestIs}
use Rattle.sound.proofs.SoundFacts.{stores-sound, clauses}
use Rattle.sound.proofs.FreshLaws.{fresh-sound}
use Rattle.sound.proofs.NewestLaws.{lengths, newest-room}
use Rattle.question4.specs.Question4.{question4}
use Rattle.question4.proofs.Question4Passed.{is-sound}
use Rattle.feed.specs.PortCalls.{FeedIs, added, PortCalls, none, call}
use Rattle.feed.proofs.FeedLaws.{feed_unsound}
use Rattle.feed.proofs.PortReached.{reached_asks, reached_sizes}
use Rattle.feed.proofs.PortStays.{settings_stay}
use Rattle.from_fresh.specs.FromFresh.{FromFresh, fresh_calls}
use Rattle.from_fresh.proofs.OneMoreCall.{events, port_snoc}

-- ---- where it begins, and how it goes on

-- what `fresh` hands back where it refuses nothing
pub from-fresh-begins : (minimum most power ratio : ℕ) (m : Stores) → (fresh_of minimum most power ratio m).refused ≡ 0 → FromFresh (fresh_of minimum most power ratio m).stand m
from-fresh-begins minimum most power ratio m z = record { minimum = minimum; most = most; power = power; ratio = ratio; lent = m; bars = []; sums = none_yet; answered = z; calls = none }

-- one feed more
pub from-fresh-next : {s s' : Stand} {m m' : Stores} {b : Bar} {failed made broken shed : ℕ} → FromFresh s m → FeedIs s m b failed made broken shed s' m' → FromFresh s' m'
from-fresh-next {b = b} {made = made} {broken = broken} {shed = shed} x f =
    record {
      minimum = x.minimum;
      most = x.most;
      power = x.power;
      ratio = x.ratio;
      lent = x.lent;
      bars = x.bars ++ b ∷ [];
      sums = added x.sums (events made broken shed);
      answered = x.answered;
      calls = port_snoc x.calls f;
    }

-- any number of them
pub from-fresh-calls : {s t : Stand} {m k : Stores} {bs : List Bar} {e : Events} → FromFresh s m → PortCalls s m bs e t k → FromFresh t k
from-fresh-calls x none = x
from-fresh-calls x (call f p) = from-fresh-calls (from-fresh-next x f) p

-- ---- question 4

module _ {s : Stand} {m : Stores} (x : FromFresh s m) where
  pub from-fresh-sizes : T (sized s m)
  from-fresh-sizes = reached_sizes (fresh_calls x) x.answered

  pub from-fresh_asks : question4 s m ≡ newest_last (state_of s m)
  from-fresh_asks = reached_asks (fresh_calls x) x.answered

  -- the counts are small
  rooms_pass_lem : T (rooms_pass (settings_of s))
  unfolding stores_sound
  rooms_pass_lem =
      let a = (fresh_of x.minimum x.most x.power x.ratio x.lent).stand in
      let h = stores-sound a x.lent (fresh-sound x.minimum x.most x.power x.ratio x.lent x.answered) in
      subst (λ (c : Settings). T (rooms_pass c)) (sym (settings_stay x.calls)) (clauses (settings_of a) (state_of a x.lent) h.state).rooms

  pub from-fresh-small : (s.raw ≤ 65536) × (s.unfinished ≤ 65536)
  unfolding rooms_pass settings_of is_room
  from-fresh-small =
      let r = s.rooms in
      let f = lengths s m from-fresh-sizes in
      let few-raw = f.few-raw in
      let few-unfinished = f.few-unfinished in
      let v = is_room r.unfinished && is_room r.strokes in
      let a = leb→le r.raw 65536 (and_r (leb 16 r.raw) (leb r.raw 65536) (and_l (is_room r.raw) v rooms_pass_lem)) in
      let b = leb→le r.unfinished 65536 (and_r (leb 16 r.unfinished) (leb r.unfinished 65536) (and_l (is_room r.unfinished) (is_room r.strokes) (and_r (is_room r.raw) v rooms_pass_lem))) in
      (omega arith, omega arith)

  -- as the step asks it, of the columns lent to be read
  module _ {r : RawStore} {u : MergedStore} (er : r ≡ m.raw) (eu : u ≡ m.unfinished) where
    pub newest_can : NewestRoom s r.times u.counts u.elements
    newest_can =
        subst (λ (r : RawStore). NewestRoom s r.times u.counts u.elements) (sym er)
        (subst (λ (u : MergedStore). NewestRoom s m.raw.times u.counts u.elements) (sym eu) (newest-room s m from-fresh-sizes))

    asked_4 : {t : Bool} → NewestIs s r.times u.counts u.elements t → question4 s m ≡ t
    asked_4 a =
        from-fresh_asks ∙ sym (a.answer m from-fresh-sizes (ap (λ (r : RawStore). r.times) (sym er)) (ap (λ (u : MergedStore). u.counts) (sym eu)) (ap (λ (u : MergedStore). u.elements) (sym eu)))

    pub newest_yes : {t : Bool} → NewestIs s r.times u.counts u.elements t → t ≡ true → IsSound s m
    newest_yes a e = is-sound s m (asked_4 a ∙ e)

    pub newest_no : {t : Bool} (b : Bar) → NewestIs s r.times u.counts u.elements t → t ≡ false → FeedIs s m b 4 0 0 0 s m
    newest_no b a e = feed_unsound s m b (asked_4 a ∙ e)
