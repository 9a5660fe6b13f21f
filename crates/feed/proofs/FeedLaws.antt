-- What the feed's three ends say of the call: a stand that is not sound, a question that fails, and a step that is written.
use Prim.Native.Nat.{ℕ}
use mathlib.Core.Bool.{Bool, true, false, ◌&&◌}
use mathlib.Core.Path.{◌≡◌, refl, ap, sym, subst, ◌∙◌}
use native.Mathlib.Omega.{arith}
use Rattle.std.specs.Prelude.{Result, Ok, Err}
use Rattle.bars.specs.declared.Bar.{Bar}
use Rattle.bars.specs.declared.refusals.Question.{Question}
use Rattle.bars.specs.Refusals.{number}
use Rattle.machine.specs.FeedQuestions.{or_else, failed_after4}
use Rattle.strokes.specs.declared.Stand.{Stand}
use Rattle.strokes.specs.StateRead.{settings_of, state_of, sized}
use Rattle.strokes.specs.Lent.{Stores}
use Rattle.machine.specs.Soundness.{sound}
use Rattle.sound.specs.StandSound.{IsSound, stores_sound}
use Rattle.question4.specs.Question4.{question4}
use Rattle.feed.specs.PortCalls.{failed_by, FeedIs}
use Rattle.asking.specs.declared.questions.Asked.{Asked}
use Rattle.asking.specs.Code.Asked.{AskedOf}
pub use Rattle.asking.proofs.AskLaws.{numbered}
use Rattle.writing.specs.declared.Wrote.{Wrote}
use Rattle.writing.specs.Code.Written.{CanWrite, IsWritten}
use Rattle.arith.proofs.Tests.{yes}
use lib.Ieee.Fits.{and_i}

module _ (s : Stand) (m : Stores) (b : Bar) where
  by_4 : (q : Bool) → question4 s m ≡ q → failed_by s m b ≡ or_else q 4 (failed_after4 (settings_of s) (state_of s m) b)
  unfolding failed_by
  by_4 q e = ap (λ (x : Bool). or_else x 4 (failed_after4 (settings_of s) (state_of s m) b)) e

  -- the stand is not sound
  pub feed_unsound : question4 s m ≡ false → FeedIs s m b 4 0 0 0 s m
  unfolding or_else
  feed_unsound e =
      record {
        failed-is = sym (by_4 false e);
        refused = λ n. (refl, refl, refl, refl, refl);
        accepted = λ z. let w : ⊥ = omega (arith, z) in absurd w;
      }

  pub sound_4 : IsSound s m → question4 s m ≡ true
  unfolding question4 stores_sound
  sound_4 h = yes (sized s m && sound (settings_of s) (state_of s m)) (and_i (sized s m) (sound (settings_of s) (state_of s m)) h.sizes h.state)

  asked_is : IsSound s m → failed_by s m b ≡ failed_after4 (settings_of s) (state_of s m) b
  unfolding or_else
  asked_is h = by_4 true (sound_4 h)

  -- one of questions 5 to 12 is answered "no"
  pub feed-refused : (n : ℕ) → IsSound s m → n ≡ failed_after4 (settings_of s) (state_of s m) b → (n ≡ 0 → ⊥) → FeedIs s m b n 0 0 0 s m
  feed-refused n h e k =
      record {
        failed-is = e ∙ sym (asked_is h);
        refused = λ n. (refl, refl, refl, refl, refl);
        accepted = λ z. absurd (k z);
      }

  -- all are answered "yes", and the step is written
  pub feed-accepted : (w : Wrote) (m' : Stores) → IsSound s m → failed_after4 (settings_of s) (state_of s m) b ≡ 0 → IsWritten s m b w m'
      → FeedIs s m b 0 w.made w.broken w.shed w.stand m'
  feed-accepted w m' h e k =
      record {
        failed-is = sym (asked_is h ∙ e);
        refused = λ n. absurd (n refl);
        accepted = λ z. (k.state, k.events, k.settings, k.sizes);
      }

  -- what the asking answered
  pub asked-no : (q : Question) → IsSound s m → AskedOf (settings_of s) (state_of s m) b (Err q) → FeedIs s m b (number q) 0 0 0 s m
  asked-no q h a = feed-refused (number q) h a.failed (numbered q)

  -- what the writing asks
  pub can_write : (a : Asked) → IsSound s m → AskedOf (settings_of s) (state_of s m) b (Ok a) → CanWrite s m b a.later a.plan
  can_write a h e = record { sound = h; passes = sym e.failed; later-is = e.later; plan-is = e.plan }

  pub feed_yes : (a : Asked) (w : Wrote) (m' : Stores) → IsSound s m → AskedOf (settings_of s) (state_of s m) b (Ok a) → IsWritten s m b w m' → FeedIs s m b 0 w.made w.broken w.shed w.stand m'
  feed_yes a w m' h e k = feed-accepted w m' h (sym e.failed) k

-- ---- of stores that are lent to be read

pub asked_seen : (s : Stand) (b : Bar) (a : Result Asked Question) {m m' : Stores} → m ≡ m' → AskedOf (settings_of s) (state_of s m) b a → AskedOf (settings_of s) (state_of s m') b a
asked_seen s b a e h = subst (λ (m : Stores). AskedOf (settings_of s) (state_of s m) b a) e h
