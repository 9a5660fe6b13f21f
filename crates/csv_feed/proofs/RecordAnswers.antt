-- A record that is read and fed, beside the definitions, and lists of such calls: the proof of `RecordsFeed` of specs/RecordCalls.antt. Assumes nothing.
use mathlib.Core.Path.{◌≡◌, refl, sym, ap, subst}
use Prim.Native.Nat.{ℕ, zero, suc}
use native.Mathlib.Nat.{zero-add}
use mathlib.Core.Bool.{Bool, true, false}
use mathlib.Core.List.{List, ◌∷◌}
use Rattle.bars.specs.declared.Bar.{Bar}
use Rattle.csv_text.specs.Records.{Import, Read, Refused}
use Rattle.machine.specs.Feed.{Events}
use Rattle.machine.specs.FeedQuestions.{or_else}
use Rattle.strokes.specs.declared.Stand.{Stand}
use Rattle.strokes.specs.Lent.{Stores}
use Rattle.question4.specs.Question4.{question4}
use Rattle.std.specs.Prelude.{Ok, Err}
use Rattle.bars.specs.declared.refusals.Question.{Question}
use Rattle.bars.specs.declared.refusals.Question.TheVariants.{Sound}
use Rattle.bars.specs.Refusals.{number}
use Rattle.feed.specs.declared.events.Events as E
use Rattle.feed.specs.Answers.{FeedAnswers}
use Rattle.feed.proofs.FeedLaws.{numbered}
use Rattle.feed.specs.PortCalls as P
use Rattle.feed.specs.PortCalls.{PortCalls, added}
use Rattle.csv_feed.specs.RecordAnswered.{RecordAnswers}
use Rattle.csv_feed.specs.RecordCalls as R
use Rattle.csv_feed.specs.RecordCalls.{bytes_if, NotFed, RecordFed, RecordCalls, bars_read, RecordsFeed}

-- ---- one call

pub bytes_no : (failed n : ℕ) → (failed ≡ 0 → ⊥) → 0 ≡ bytes_if failed n
unfolding bytes_if
bytes_no zero n z = absurd (z refl)
bytes_no (suc k) n z = refl

four-first : (q : Bool) (k : ℕ) → q ≡ false → 4 ≡ or_else q 4 k
unfolding or_else
four-first q k e = ap (λ (b : Bool). or_else b 4 k) (sym e)

then_number : (q : Bool) (k : ℕ) → q ≡ true → k ≡ or_else q 4 k
unfolding or_else
then_number q k e = ap (λ (b : Bool). or_else b 4 k) (sym e)

-- as the code answers it: what i is read of the text
module _ (s : Stand) (m : Stores) (i : Import) where
  module _ (s' : Stand) (m' : Stores) (b : Bar) (n : ℕ) (e : Read b n ≡ i) where
    pub record-fed : (x : E.Events) → FeedAnswers s m b (Ok x) s' m' → RecordAnswers s m i (Ok (record { events = x; length = n })) s' m'
    unfolding bytes_if
    record-fed x f = subst (λ (z : Import). RecordAnswers s m z (Ok (record { events = x; length = n })) s' m') e (f, refl)

    pub feed-refused : (q p : Question) → p ≡ q → FeedAnswers s m b (Err q) s' m' → RecordAnswers s m i (Err p) s' m'
    feed-refused q p h f =
        subst (λ (y : Question). RecordAnswers s m i (Err y) s' m') (sym h) (subst (λ (z : Import). RecordAnswers s m z (Err q) s' m') e (f, bytes_no (number q) n (numbered q)))

  not_fed : (k failed : ℕ) → failed ≡ or_else (question4 s m) 4 k → NotFed s m k failed 0 0 0 0 s m
  not_fed k failed e = record { failed-is = e; stand-stays = refl; stores_stay = refl; none_made = refl; none-broken = refl; none-shed = refl; no_bytes = refl }

  pub record-refused : (q : Question) → Refused (number q) ≡ i → question4 s m ≡ true → RecordAnswers s m i (Err q) s m
  record-refused q e h = subst (λ (z : Import). RecordAnswers s m z (Err q) s m) e (not_fed (number q) (number q) (then_number (question4 s m) (number q) h))

  pub not-sound : (q : Question) → Refused (number q) ≡ i → question4 s m ≡ false → RecordAnswers s m i (Err Sound) s m
  not-sound q e h = subst (λ (z : Import). RecordAnswers s m z (Err Sound) s m) e (not_fed (number q) 4 (four-first (question4 s m) (number q) h))

-- ---- a list of calls

nothing_added : (made broken shed : ℕ) (e : Events) → made ≡ 0 → broken ≡ 0 → shed ≡ 0 → e ≡ added (record { made = made; broken = broken; shed = shed }) e
unfolding added
nothing_added made broken shed e a b c =
    rw (a, b, c, zero-add e.made, zero-add e.broken, zero-add e.shed) refl

one_more : {s s' t : Stand} {m m' k : Stores} {e : Events} (is : List Import) (i : Import) (failed made broken shed bytes : ℕ)
    → RecordFed s m i failed made broken shed bytes s' m' → PortCalls s' m' (bars_read is) e t k
    → PortCalls s m (bars_read (i ∷ is)) (added (record { made = made; broken = broken; shed = shed }) e) t k
unfolding bars_read
one_more is (Read b n) failed made broken shed bytes h p = P.call h.0 p
one_more {s = s} {s' = s'} {t = t} {m = m} {k = k} {e = e} is (Refused j) failed made broken shed bytes h p =
    subst (λ (z : Events). PortCalls s m (bars_read is) z t k) (nothing_added made broken shed e h.none_made h.none-broken h.none-shed)
    (subst (λ (x : Stand). PortCalls x m (bars_read is) e t k) h.stand-stays (subst (λ (x : Stores). PortCalls s' x (bars_read is) e t k) h.stores_stay p))

feeds : {s t : Stand} {m k : Stores} {is : List Import} {e : Events} → RecordCalls s m is e t k → PortCalls s m (bars_read is) e t k
unfolding bars_read
feeds R.none = P.none
feeds (R.call {is = is} i failed made broken shed bytes h p) = one_more is i failed made broken shed bytes h (feeds p)

pub records_feed : RecordsFeed
records_feed = record { feeds = feeds }
