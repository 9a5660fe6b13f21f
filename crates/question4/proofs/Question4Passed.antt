-- What the layers above count on once question 4 has passed. Assumes nothing.
use Rattle.std.proofs.Common.{◌≡◌, Bool, true, false, Result, Ok, Err, IsErrAnd, is_ok, cond, ◌∙◌, true≢false, refl, sym, ap}
use Rattle.std.proofs.lemmas.Result.{err_from_is_err_and}
use Rattle.bars.specs.declared.refusals.Question.{Question}
use Rattle.bars.specs.declared.refusals.Question.TheVariants.{Sound}
use Rattle.strokes.specs.declared.Stand.{Stand}
use Rattle.strokes.specs.Lent.{Stores}
use Rattle.sound.specs.StandSound.{IsSound}
use Rattle.sound.proofs.SoundFacts.{stores-sound}
use Rattle.question4.specs.Question4.{question4}

pub is-sound : (s : Stand) (m : Stores) → question4 s m ≡ true → IsSound s m
unfolding question4
is-sound s m e = stores-sound s m e

-- ---- what an answer of `ask` says, where t is question 4

other : {A X : Type 0} (q : Question) (a : A) → ◌≡◌ {A = Result A Question} (Err q) (Ok a) → X
other q a h = absurd (true≢false (sym (ap is_ok h)))

pub ask_passed : (t : Bool) (u : Unit {0}) → ◌≡◌ {A = Result (Unit {0}) Question} (Ok u) (cond t (Ok tt) (Err Sound)) → t ≡ true
ask_passed true u h = refl
ask_passed false u h = other Sound u (sym h)

pub ask_refused : (t : Bool) (q : Question) → ◌≡◌ {A = Result (Unit {0}) Question} (Err q) (cond t (Ok tt) (Err Sound)) → (t ≡ false) × (q ≡ Sound)
ask_refused true q h = other q tt h
ask_refused false q h = (refl, ap (λ (r : Result (Unit {0}) Question). elim r [ Ok z ↦ q | Err e ↦ e ]) h)

-- what a `?` behind it hands up
pub ask_handed : {A : Type 0} (t : Bool) (q : Question) (r : Result A Question) → IsErrAnd r (λ y. y ≡ q)
    → ◌≡◌ {A = Result (Unit {0}) Question} (Err q) (cond t (Ok tt) (Err Sound)) → (t ≡ false) × (r ≡ Err Sound)
ask_handed t q r h a =
    let p = err_from_is_err_and r h in
    let u = ask_refused t q a in
    (u.0, p.1 ∙ ap Err (p.2 ∙ u.1))
