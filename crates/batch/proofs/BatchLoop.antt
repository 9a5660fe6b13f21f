-- The batch call's loop: what holds before each bar, how the next one is fed, and what is answered at the end. Assumes nothing.
use Prim.Native.Nat.{ℕ, suc, ◌+◌, ◌≤◌, ◌<◌, min}
use native.Mathlib.Omega.{arith}
use native.Mathlib.Nat.{zero-min, min-zero, suc-min-suc}
use mathlib.Core.Path.{◌≡◌, refl, ap, sym, ◌∙◌, subst}
use mathlib.Core.List.{List, [], ◌∷◌, ◌++◌}
use lib.ListN.{length, take, drop, get_or}
use lib.Seq.{take-suc, drop-cons, drop-length}
use lib.Ieee.{Float}
use Rattle.std.specs.Prelude.{Some, None, Ok, Err}
use Rattle.bars.specs.declared.Bar.{Bar}
use Rattle.bars.specs.declared.refusals.Question.{Question}
use Rattle.bars.specs.Refusals.{number}
use Rattle.stores.specs.Stores.{RawStore, zip_with, bar_of, raw_bars}
use Rattle.stores.specs.Code.StoreRows.{RoomRaw, bar_at}
use Rattle.stores.proofs.Columns.{raw_at}
use Rattle.machine.specs.Feed as M
use Rattle.machine.specs.Calls.{none_yet}
use Rattle.machine.specs.Reached.{OneEach}
use Rattle.machine.proofs.ReachedSound.{reached_sound}
use Rattle.strokes.specs.declared.Stand.{Stand}
use Rattle.strokes.specs.StateRead.{settings_of, state_of}
use Rattle.strokes.specs.Lent.{Stores}
use Rattle.sound.specs.FreshStand.{first_stand, fresh_failed}
use Rattle.sound.proofs.FreshLaws.{refused-is, begun_is}
use Rattle.batch.specs.declared.batch.BatchAnswer.{BatchAnswer}
use Rattle.feed.specs.declared.events.Events.{Events}
use Rattle.feed.specs.Answers.{events_in, FeedAnswers}
use Rattle.feed.proofs.FeedLaws.{numbered}
use Rattle.feed.specs.PortCalls.{failed_by, FeedIs, added, none, accepted_if, accepted_of}
use Rattle.from_fresh.specs.FromFresh.{FromFresh}
use Rattle.from_fresh.proofs.OneMoreCall.{events, grown}
use Rattle.from_fresh.proofs.FromFreshLaws.{from-fresh-begins, from-fresh-calls}
use Rattle.batch.specs.BatchCalls.{AllAccepted, BatchFed, BatchIs}
use Rattle.batch.specs.Code.BatchSteps.{CanBatch}

-- ---- one more call

accepted_snoc : {s t t' : Stand} {m k k' : Stores} {bs : List Bar} {b : Bar} {e : M.Events} {made broken shed : ℕ}
    → AllAccepted s m bs e t k → FeedIs t k b 0 made broken shed t' k'
    → AllAccepted s m (bs ++ b ∷ []) (added e (events made broken shed)) t' k'
unfolding accepted_if
accepted_snoc {b = b} a f =
    let w = grown a.calls f in
    record { calls = w.calls; taken = w.taken ∙ ap (λ (l : List Bar). l ++ b ∷ []) a.taken }

-- ---- before the bar at place i

pub record Going (s : Stand) (m : Stores) (bars : List Bar) (i : ℕ) (e : Events) (t : Stand) (k : Stores) : Type 0 where
  pub fed : AllAccepted s m (take i bars) (events_in e) t k
  pub places : i ≤ length bars
  pub few : (e.made ≤ i) × (e.broken ≤ i) × (e.shed ≤ i)

pub going_start : (s : Stand) (m : Stores) (bars : List Bar) (e : Events) → e ≡ record { made = 0; broken = 0; shed = 0 } → Going s m bars 0 e s m
unfolding none_yet accepted_of
going_start s m bars e z =
    subst (λ (x : Events). Going s m bars 0 x s m) (sym z)
    (record { fed = record { calls = none; taken = refl }; places = omega arith; few = (omega arith, omega arith, omega arith) })

-- an accepted bar makes, breaks and sheds at most one stroke each
one_of : {s s' : Stand} {m m' : Stores} {b : Bar} {made broken shed : ℕ} → FeedIs s m b 0 made broken shed s' m' → OneEach (record { made = made; broken = broken; shed = shed })
one_of {s = s} {m = m} {b = b} f = subst OneEach (sym (f.accepted refl).1) (reached_sound.one_each (settings_of s) (state_of s m) b)

-- no sum is too large
pub sums_fit : {s t t' : Stand} {m k k' : Stores} {bars : List Bar} {i n : ℕ} {b : Bar} {e : Events} (more : Events) → Going s m bars i e t k → i < n → n < 18446744073709551616 → FeedAnswers t k b (Ok more) t' k'
    → (e.made + more.made ≤ 18446744073709551615) × (e.broken + more.broken ≤ 18446744073709551615) × (e.shed + more.shed ≤ 18446744073709551615)
sums_fit more g h top f =
    let o = one_of f in
    let o1 = o.made in
    let o2 = o.broken in
    let o3 = o.shed in
    let g1 = g.few.0 in
    let g2 = g.few.1 in
    let g3 = g.few.2 in
    (omega arith, omega arith, omega arith)

pub going_on : {s t t' : Stand} {m k k' : Stores} {bars : List Bar} {i : ℕ} {e r : Events} (b : Bar) (more : Events) → Going s m bars i e t k
    → i < length bars → get_or bars i b ≡ b → FeedAnswers t k b (Ok more) t' k' → events_in r ≡ added (events_in e) (events_in more)
    → Going s m bars (i + 1) r t' k'
unfolding added
going_on {s = s} {t' = t'} {m = m} {k' = k'} {bars = bars} {i = i} {e = e} {r = r} b more g h at f sum =
    let o = one_of f in
    let o1 = o.made in
    let o2 = o.broken in
    let o3 = o.shed in
    let g1 = g.few.0 in
    let g2 = g.few.1 in
    let g3 = g.few.2 in
    let r1 : r.made ≡ e.made + more.made = ap (λ (x : M.Events). x.made) sum in
    let r2 : r.broken ≡ e.broken + more.broken = ap (λ (x : M.Events). x.broken) sum in
    let r3 : r.shed ≡ e.shed + more.shed = ap (λ (x : M.Events). x.shed) sum in
    let q : suc i ≡ i + 1 = omega arith in
    let l : take i bars ++ b ∷ [] ≡ take (i + 1) bars =
    ap (λ (x : Bar). take i bars ++ x ∷ []) (sym at) ∙ sym (take-suc bars i b h) ∙ ap (λ (n : ℕ). take n bars) q in
    record {
      fed = subst (λ (x : M.Events). AllAccepted s m (take (i + 1) bars) x t' k') (sym sum) (subst (λ (l : List Bar). AllAccepted s m l (added (events_in e) (events_in more)) t' k') l (accepted_snoc g.fed f));
      places = omega arith;
      few = (omega arith, omega arith, omega arith);
    }

-- the bar is refused
pub going_stop : {s t t' : Stand} {m k k' : Stores} {bars : List Bar} {i : ℕ} {e : Events} (b : Bar) (q : Question) → Going s m bars i e t k
    → i < length bars → get_or bars i b ≡ b → FeedAnswers t k b (Err q) t' k'
    → BatchFed s m bars (record { stand = t'; fed = i; events = e; refused = Some q }) k'
going_stop {s = s} {t = t} {t' = t'} {m = m} {k = k} {k' = k'} {bars = bars} {i = i} {e = e} b q g h at f =
    let same = f.refused (numbered q) in
    record {
      fed = subst (λ (z : Stand). AllAccepted s m (take i bars) (events_in e) z k') (sym same.0) (subst (λ (z : Stores). AllAccepted s m (take i bars) (events_in e) t z) (sym same.1) g.fed);
      all = λ z. absurd (numbered q z);
      stopped = λ z. h;
      number = λ c l y.
          f.failed-is ∙ (λ j. failed_by (sym same.0 j) (sym same.1 j) ((sym at ∙ ap (λ (r : List Bar). get_or r 0 b) (sym (drop-cons bars i b h) ∙ y)) j));
    }

-- no bar is left
cons_not-none : (b : Bar) (l r : List Bar) → r ≡ [] → r ≡ b ∷ l → ⊥
cons_not-none b l r e f =
    let q : 0 ≡ suc (length l) = ap length (sym e ∙ f) in
    omega arith

pub going_end : {s t : Stand} {m k : Stores} {bars : List Bar} {i : ℕ} {e : Events} → Going s m bars i e t k → i ≡ length bars
    → BatchFed s m bars (record { stand = t; fed = i; events = e; refused = None }) k
going_end {bars = bars} {i = i} g z =
    record {
      fed = g.fed;
      all = λ y. z;
      stopped = λ nz. absurd (nz refl);
      number = λ b l q. absurd (cons_not-none b l (drop i bars) (ap (λ (n : ℕ). drop n bars) z ∙ drop-length bars) q);
    }

-- ---- with the bars in columns

place_of : (s : RawStore) (i : ℕ) (b : Bar) → RoomRaw s (i + 1) → b ≡ bar_at s i → get_or (raw_bars s) i b ≡ b
place_of s i b r e = raw_at s i b r ∙ sym e

-- room for the bar at a place before the n-th
pub room_at : (s : RawStore) (i n : ℕ) → RoomRaw s n → i < n → RoomRaw s (i + 1)
room_at s i n r h =
    let a = r.times in
    let b = r.ids in
    let c = r.prices in
    record { times = omega arith; ids = omega arith; prices = omega arith }

-- ---- the loop

module _ {s : Stand} {m k : Stores} {bars : RawStore} {n i : ℕ} {e : Events} {t : Stand} (can : CanBatch s m bars n) (g : Going s m (raw_bars bars) i e t k) where
  pub still_fresh : FromFresh t k
  still_fresh = from-fresh-calls can.begun g.fed.calls

  within : i < n → i < length (raw_bars bars)
  within h = let c = can.count in omega arith

  module _ {b : Bar} (h : i < n) (at : b ≡ bar_at bars i) where
    here : get_or (raw_bars bars) i b ≡ b
    here = place_of bars i b (room_at bars i n can.room h) at

    pub next_fed : (more : Events) {r : Events} {t' : Stand} {k' : Stores} → FeedAnswers t k b (Ok more) t' k' → events_in r ≡ added (events_in e) (events_in more) → Going s m (raw_bars bars) (i + 1) r t' k'
    next_fed more f sum = going_on b more g (within h) here f sum

    pub next-refused : (q : Question) {t' : Stand} {k' : Stores} → FeedAnswers t k b (Err q) t' k'
        → BatchFed s m (raw_bars bars) (record { stand = t'; fed = i; events = e; refused = Some q }) k'
    next-refused q f = going_stop b q g (within h) here f

  pub all_fed : i ≡ n → BatchFed s m (raw_bars bars) (record { stand = t; fed = n; events = e; refused = None }) k
  all_fed z =
      let c = can.count in
      subst (λ (j : ℕ). BatchFed s m (raw_bars bars) (record { stand = t; fed = j; events = e; refused = None }) k) z (going_end g (omega arith))

-- ---- the call

module _ (minimum most power ratio : ℕ) {m m' : Stores} (e : m ≡ m') where
  -- of stores that are lent to be read
  pub failed_seen : {n : ℕ} → n ≡ fresh_failed minimum most power ratio m → n ≡ fresh_failed minimum most power ratio m'
  failed_seen h = h ∙ ap (fresh_failed minimum most power ratio) e

  pub begun_seen : {s : Stand} → s ≡ first_stand minimum most power ratio m → s ≡ first_stand minimum most power ratio m'
  begun_seen h = h ∙ ap (first_stand minimum most power ratio) e

module _ (minimum most power ratio : ℕ) (m : Stores) where
  pub batch-refused : (bars : List Bar) (q : Question) → number q ≡ fresh_failed minimum most power ratio m → BatchIs minimum most power ratio m bars (Err q) m
  batch-refused bars q e =
      record {
        refused = λ h. record { failed = e ∙ sym (refused-is minimum most power ratio m); stores = refl };
        answered = λ z. absurd (numbered q (e ∙ sym (refused-is minimum most power ratio m) ∙ z));
      }

  pub batch-answered : {m' : Stores} (bars : List Bar) (r : BatchAnswer) (s : Stand) → 0 ≡ fresh_failed minimum most power ratio m → s ≡ first_stand minimum most power ratio m
      → BatchFed s m bars r m' → BatchIs minimum most power ratio m bars (Ok r) m'
  batch-answered {m' = m'} bars r s z e f =
      record {
        refused = λ nz. absurd (nz (refused-is minimum most power ratio m ∙ sym z));
        answered = λ h. subst (λ (x : Stand). BatchFed x m bars r m') (e ∙ sym (begun_is minimum most power ratio m (sym z))) f;
      }

-- as many bars as the shortest column has
zip-min : {A B C : Type 0} (f : A → B → C) (l : List A) (m : List B) → length (zip_with f l m) ≡ min (length l) (length m)
unfolding zip_with
zip-min f [] m = sym (zero-min (length m))
zip-min f (a ∷ l) [] = sym (min-zero (length (a ∷ l)))
zip-min f (a ∷ l) (b ∷ m) = ap suc (zip-min f l m) ∙ sym (suc-min-suc (length l) (length m))

pub count-is : (s : RawStore) → length (raw_bars s) ≡ min (min (length s.times) (length s.ids)) (length s.prices)
unfolding raw_bars
count-is s =
    zip-min (λ (f : List Float → Bar) p. f p) (zip_with bar_of s.times s.ids) s.prices
    ∙ ap (λ (j : ℕ). min j (length s.prices)) (zip-min bar_of s.times s.ids)

-- what the loop asks
pub can_batch : (minimum most power ratio : ℕ) (m : Stores) (bars : RawStore) (n : ℕ) (s : Stand) → 0 ≡ fresh_failed minimum most power ratio m → s ≡ first_stand minimum most power ratio m
    → n ≡ min (min (length bars.times) (length bars.ids)) (length bars.prices) → CanBatch s m bars n
can_batch minimum most power ratio m bars n s z e c =
    record {
      begun = subst (λ (x : Stand). FromFresh x m) (begun_is minimum most power ratio m (sym z) ∙ sym e) (from-fresh-begins minimum most power ratio m (refused-is minimum most power ratio m ∙ sym z));
      room = record { times = omega arith; ids = omega arith; prices = omega arith };
      count = count-is bars ∙ sym c;
    }
