-- What the calls under C names answer, question by question, and what they hand over. Assumes nothing.
use Prim.Native.Nat.{ℕ, zero, suc, ◌≤◌, ◌<◌}
use native.Mathlib.Omega.{arith}
use mathlib.Core.Path.{◌≡◌, refl, ap, sym, ◌∙◌, subst}
use mathlib.Core.Bool.{Bool, true, false, ◌&&◌, false≢true}
use mathlib.Core.List.{List, [], ◌∷◌}
use lib.Dec.{leb}
use lib.ListN.{length, set}
use borrow.Author.Tests.{le-leb, lt-leb, leb-true}
use Rattle.bars.specs.declared.Bar.{Bar}
use Rattle.machine.specs.FeedQuestions.{or_else}
use Rattle.strokes.specs.declared.Stand.{Stand}
use Rattle.strokes.specs.Lent.{Stores}
use Rattle.strokes.specs.Packed.{packed, numbers_with, counts_with, rows_there}
use Rattle.strokes.proofs.PackedRows.{there}
use Rattle.sound.specs.FreshStand.{FreshAnswer, fresh_of}
use Rattle.sound.specs.StandSound.{IsSound}
use Rattle.question4.specs.Question4.{question4}
use Rattle.question4.proofs.Question4Passed.{is-sound}
use Rattle.std.specs.Prelude.{Result, Ok, Err}
use Rattle.bars.specs.Refusals.{number}
use Rattle.feed.proofs.FeedLaws.{numbered}
use Rattle.bars.specs.declared.refusals.Question.{Question}
use Rattle.feed.specs.declared.events.Events.{Events}
use Rattle.feed.specs.Answers.{events_of, FeedAnswers}
use Rattle.batch.specs.BatchCalls.{BatchIs}
use Rattle.feed.specs.PortCalls.{FeedIs}
use Rattle.czsc_c.specs.Handed.{stand_handed, fresh_handed_if, fresh_handed, failed_before, HandedOver, FedHanded, UpdateHanded, failed_first_if, failed_first, SumsHanded, BatchHanded}

-- ---- of stores that are lent to be read

module _ {m m' : Stores} (e : m ≡ m') where
  pub before_seen : (ns cs es : List (List ℕ)) {n : ℕ} → n ≡ failed_before ns cs es m → n ≡ failed_before ns cs es m'
  before_seen ns cs es h = h ∙ ap (failed_before ns cs es) e

  pub first_seen : (minimum most power ratio : ℕ) (ns cs ss : List (List ℕ)) {n : ℕ} → n ≡ failed_first (fresh_of minimum most power ratio m) ns cs ss
      → n ≡ failed_first (fresh_of minimum most power ratio m') ns cs ss
  first_seen minimum most power ratio ns cs ss h = h ∙ ap (λ (k : Stores). failed_first (fresh_of minimum most power ratio k) ns cs ss) e

-- ---- a fresh analyzer

module _ (a : FreshAnswer) (ns cs : List (List ℕ)) where
  by_refused : (n : ℕ) → n ≡ a.refused → stand_handed n ns cs ≡ fresh_handed_if n (rows_there ns cs) a.stand ns cs → stand_handed n ns cs ≡ fresh_handed a ns cs
  unfolding fresh_handed
  by_refused n q h = h ∙ ap (λ (k : ℕ). fresh_handed_if k (rows_there ns cs) a.stand ns cs) q

  refused-at : (n : ℕ) → (n ≡ 0 → ⊥) → stand_handed n ns cs ≡ fresh_handed_if n (rows_there ns cs) a.stand ns cs
  unfolding fresh_handed_if
  refused-at zero h = absurd (h refl)
  refused-at (suc n) h = refl

  pub fresh-refused : (n : ℕ) → n ≡ a.refused → (n ≡ 0 → ⊥) → stand_handed n ns cs ≡ fresh_handed a ns cs
  fresh-refused n q h = by_refused n q (refused-at n h)

  pub fresh_no_place : 0 ≡ a.refused → rows_there ns cs ≡ false → stand_handed 14 ns cs ≡ fresh_handed a ns cs
  unfolding fresh_handed fresh_handed_if
  fresh_no_place z t = λ i. fresh_handed_if (z i) (sym t i) a.stand ns cs

  pub fresh_handed_lem : (s : Stand) (ns' cs' : List (List ℕ)) → 0 ≡ a.refused → s ≡ a.stand → rows_there ns cs ≡ true → ns' ≡ numbers_with s ns → cs' ≡ counts_with s cs
      → stand_handed 0 ns' cs' ≡ fresh_handed a ns cs
  unfolding fresh_handed fresh_handed_if
  fresh_handed_lem s ns' cs' z e t x y =
      (λ i. stand_handed 0 (x i) (y i)) ∙ (λ i. fresh_handed_if (z i) (sym t i) (e i) ns cs)

-- ---- a feed

module _ (s : Stand) (ns cs es ns' cs' es' : List (List ℕ)) (r : Result Events Question) where
  pub handed_yes : (e : Events) → r ≡ Ok e → ns' ≡ numbers_with s ns → cs' ≡ counts_with s cs → es' ≡ set es 0 (e.made ∷ e.broken ∷ e.shed ∷ []) → HandedOver s r ns cs es 0 ns' cs' es'
  handed_yes e q x y z =
      subst (λ (w : Result Events Question). HandedOver s w ns cs es 0 ns' cs' es') (sym q) (record { number = refl; refused = λ h. absurd (h refl); answered = λ h. (x, y, z) })

pub handed_no : (s : Stand) (ns cs es : List (List ℕ)) (r : Result Events Question) (q : Question) → r ≡ Err q → HandedOver s r ns cs es (number q) ns cs es
handed_no s ns cs es r q e =
    subst (λ (w : Result Events Question). HandedOver s w ns cs es (number q) ns cs es) (sym e) (record { number = refl; refused = λ h. (refl, refl, refl); answered = λ z. absurd (numbered q z) })

module _ (ns cs es : List (List ℕ)) (m : Stores) where
  pub no_stand_lem : rows_there ns cs ≡ false → 4 ≡ failed_before ns cs es m
  unfolding failed_before or_else
  no_stand_lem t = rw t

  pub not_sound : rows_there ns cs ≡ true → question4 (packed ns cs) m ≡ false → 4 ≡ failed_before ns cs es m
  unfolding failed_before or_else
  not_sound t q = rw (t, q)

  pub no_place : rows_there ns cs ≡ true → question4 (packed ns cs) m ≡ true → length es < 1 → 14 ≡ failed_before ns cs es m
  unfolding failed_before or_else
  no_place t q h = rw (t, q, lt-leb 1 (length es) h)

  pub none-failed : rows_there ns cs ≡ true → question4 (packed ns cs) m ≡ true → 1 ≤ length es → 0 ≡ failed_before ns cs es m
  unfolding failed_before or_else
  none-failed t q h = rw (t, q, le-leb 1 (length es) h)

  -- what a feed may count on where none failed
  passed_by : (a b c : Bool) → or_else a 4 (or_else b 4 (or_else c 14 0)) ≡ 0 → (a ≡ true) × (b ≡ true) × (c ≡ true)
  unfolding or_else
  passed_by true true true h = (refl, refl, refl)
  passed_by true true false h = let w : ⊥ = omega (arith, h) in absurd w
  passed_by true false c h = let w : ⊥ = omega (arith, h) in absurd w
  passed_by false b c h = let w : ⊥ = omega (arith, h) in absurd w

  pub passed : failed_before ns cs es m ≡ 0 → ((1 ≤ length ns) × (2 ≤ length cs) × (1 ≤ length es)) × IsSound (packed ns cs) m
  unfolding failed_before
  passed h =
      let p = passed_by (rows_there ns cs) (question4 (packed ns cs) m) (leb 1 (length es)) h in
      let t = there ns cs p.0 in
      ((t.0, t.1, leb-true 1 (length es) p.2), is-sound (packed ns cs) m p.1)

  pub refused-before : (b : Bar) (f : ℕ) → f ≡ failed_before ns cs es m → (f ≡ 0 → ⊥) → UpdateHanded ns cs es m b f ns cs es m
  refused-before b f e h = record { before = λ k. (e, refl, refl, refl, refl); fed = λ z. absurd (h (e ∙ z)) }

  module _ {b : Bar} {f : ℕ} {ns' cs' es' : List (List ℕ)} {m' : Stores} where
    pub fed_then : failed_before ns cs es m ≡ 0 → FedHanded ns cs es m b f ns' cs' es' m' → UpdateHanded ns cs es m b f ns' cs' es' m'
    fed_then z h = record { before = λ k. absurd (k z); fed = λ q. h }

    pub fed_handed : (s t : Stand) (r : Result Events Question) → s ≡ packed ns cs → FeedAnswers s m b r t m' → HandedOver t r ns cs es f ns' cs' es'
        → FedHanded ns cs es m b f ns' cs' es' m'
    fed_handed s t r e k h =
        let q = h.number in
        record {
          made = (events_of r).made;
          broken = (events_of r).broken;
          shed = (events_of r).shed;
          stand = t;
          feed = subst (λ (n : ℕ). FeedIs (packed ns cs) m b n (events_of r).made (events_of r).broken (events_of r).shed t m') (sym q) (subst (λ (z : Stand). FeedAnswers z m b r t m') e k);
          refused = λ x. h.refused (λ z. x (q ∙ z));
          answered = λ z. h.answered (sym q ∙ z);
        }

-- ---- a list of bars

module _ (a : FreshAnswer) (ns cs ss : List (List ℕ)) where
  first_by : (n : ℕ) (t : Bool) → n ≡ a.refused → (rows_there ns cs && leb 1 (length ss)) ≡ t → failed_first_if n t ≡ failed_first a ns cs ss
  unfolding failed_first
  first_by n t q h = λ i. failed_first_if (q i) (sym h i)

  number-at : (n : ℕ) (t : Bool) → (n ≡ 0 → ⊥) → n ≡ failed_first_if n t
  unfolding failed_first_if
  number-at zero t h = absurd (h refl)
  number-at (suc n) t h = refl

  pub first-refused : (n : ℕ) → n ≡ a.refused → (n ≡ 0 → ⊥) → n ≡ failed_first a ns cs ss
  first-refused n q h = let t = rows_there ns cs && leb 1 (length ss) in number-at n t h ∙ first_by n t q refl

  pub first_no-stand : 0 ≡ a.refused → rows_there ns cs ≡ false → 14 ≡ failed_first a ns cs ss
  unfolding failed_first_if
  first_no-stand z t = first_by 0 false z (rw t)

  pub first_no-place : 0 ≡ a.refused → rows_there ns cs ≡ true → length ss < 1 → 14 ≡ failed_first a ns cs ss
  unfolding failed_first_if
  first_no-place z t h = first_by 0 false z (rw (t, lt-leb 1 (length ss) h))

  pub first-passed : 0 ≡ a.refused → rows_there ns cs ≡ true → 1 ≤ length ss → 0 ≡ failed_first a ns cs ss
  unfolding failed_first_if
  first-passed z t h = first_by 0 true z (rw (t, le-leb 1 (length ss) h))

and_both : (a b : Bool) → (a && b) ≡ true → (a ≡ true) × (b ≡ true)
and_both true b h = (refl, h)
and_both false b h = absurd (false≢true h)

module _ (minimum most power ratio : ℕ) (ns cs ss : List (List ℕ)) (m : Stores) where
  places_by : (n : ℕ) (t : Bool) → failed_first_if n t ≡ 0 → t ≡ true
  unfolding failed_first_if
  places_by zero true h = refl
  places_by zero false h = let w : ⊥ = omega (arith, h) in absurd w
  places_by (suc n) t h = let w : ⊥ = omega (arith, h) in absurd w

  pub places : failed_first (fresh_of minimum most power ratio m) ns cs ss ≡ 0 → (1 ≤ length ns) × (2 ≤ length cs) × (1 ≤ length ss)
  unfolding failed_first
  places h =
      let p = and_both (rows_there ns cs) (leb 1 (length ss)) (places_by (fresh_of minimum most power ratio m).refused (rows_there ns cs && leb 1 (length ss)) h) in
      let t = there ns cs p.0 in
      (t.0, t.1, leb-true 1 (length ss) p.1)

  none_by : (n : ℕ) (t : Bool) → failed_first_if n t ≡ 0 → n ≡ 0
  unfolding failed_first_if
  none_by zero t h = refl
  none_by (suc n) t h = let w : ⊥ = omega (arith, h) in absurd w

  -- the batch call then refuses no analyzer
  pub begins : {bars : List Bar} {q : Question} {m' : Stores} → failed_first (fresh_of minimum most power ratio m) ns cs ss ≡ 0 → BatchIs minimum most power ratio m bars (Err q) m' → ⊥
  unfolding failed_first
  begins h k = k.answered (none_by (fresh_of minimum most power ratio m).refused (rows_there ns cs && leb 1 (length ss)) h)

  pub refused-first : (bars : List Bar) (f : ℕ) → f ≡ failed_first (fresh_of minimum most power ratio m) ns cs ss → (f ≡ 0 → ⊥)
      → BatchHanded minimum most power ratio ns cs ss m bars f ns cs ss m
  refused-first bars f e h = record { before = λ k. (e, refl, refl, refl, refl); fed = λ z. absurd (h (e ∙ z)) }

  pub all_then : {m' : Stores} {bars : List Bar} {f : ℕ} {ns' cs' ss' : List (List ℕ)} → failed_first (fresh_of minimum most power ratio m) ns cs ss ≡ 0
      → SumsHanded minimum most power ratio ns cs ss m bars f ns' cs' ss' m' → BatchHanded minimum most power ratio ns cs ss m bars f ns' cs' ss' m'
  all_then z h = record { before = λ k. absurd (k z); fed = λ q. h }
