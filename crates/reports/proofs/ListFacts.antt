-- What a sound stand gives the list calls. Assumes nothing.
use Prim.Native.Nat.{ℕ, zero, suc, ◌≤◌}
use native.Mathlib.Omega.{arith}
use mathlib.Core.Path.{◌≡◌, refl, ap, sym, ◌∙◌, subst}
use mathlib.Core.Bool.{Bool, true, false}
use mathlib.Core.List.{map}
use lib.ListN.{length, take, get_or}
use lib.Ieee.{nan}
use Rattle.stores.specs.Stores.{merged_bars, with_first, bar_of}
use Rattle.strokes.specs.declared.Stand.{Stand}
use Rattle.strokes.specs.declared.strokes_store.LastStroke.{LastStroke}
use Rattle.strokes.specs.StateRead.{state_of}
use Rattle.strokes.specs.Lent.{Stores}
use Rattle.strokes.specs.Code.StrokeSteps.{LastStands, LastIs, last_read, kept_strokes}
use Rattle.strokes.proofs.StoredStrokes.{last-is}
use Rattle.sound.specs.StandSound.{IsSound}
use Rattle.question4.specs.Question4.{question4}
use Rattle.sound.proofs.SoundFacts.{Facts, facts}
use Rattle.std.proofs.Common.{Result, Ok, Err, IsErrAnd}
use Rattle.bars.specs.declared.refusals.Question.{Question}
use Rattle.bars.specs.declared.refusals.Question.TheVariants.{Sound}
use Rattle.machine.specs.Stand.{State}
use Rattle.reports.specs.Code.FirstQuestions.{if_sound}
use Rattle.reports.proofs.FirstLaws.{ok_same, err_ok, sound_no}
use Rattle.question4.proofs.Question4Passed.{is-sound}
use Rattle.reports.specs.FractalList.{get_finished_bis, last_bi_extend}
use Rattle.reports.specs.ListAnswers.{finished_by, finished_answer, extend_by, extend_answer}
use Rattle.reports.specs.Code.ListSteps.{finished_count, reaches}
use Rattle.named.specs.ReportQuestions.{run_of}
use Rattle.reports.proofs.ListLaws.{finished-run, finished-count, column_read, extend-none, extend-empty, extend-is}

pub not-zero : (k n : ℕ) → k ≡ n → (k ≡ 0 → ⊥) → 1 ≤ n
not-zero zero n e h = absurd (h refl)
not-zero (suc k) n e h = omega arith

module _ (s : Stand) (m : Stores) (lb : length s.bars ≡ 65) (lf : length s.fractals ≡ 65) (h : IsSound s m) where
  pub known : Facts s m
  known = facts s m lb lf h

  pub finished_are : (r : ℕ) → r ≡ finished_count s.strokes s.unfinished → r ≡ length (get_finished_bis (state_of s m).strokes (state_of s m).unfinished)
  finished_are r e =
      e ∙ finished-count (state_of s m).strokes (state_of s m).unfinished s.strokes s.unfinished known.strokes-length known.unfinished-length

  pub none-extends : s.strokes ≡ 0 → false ≡ last_bi_extend (state_of s m).strokes (state_of s m).unfinished
  none-extends e = extend-none (state_of s m).strokes (state_of s m).unfinished (known.strokes-length ∙ e)

  pub empty-extends : s.unfinished ≡ 0 → false ≡ last_bi_extend (state_of s m).strokes (state_of s m).unfinished
  empty-extends e = extend-empty (state_of s m).strokes (state_of s m).unfinished (known.unfinished-length ∙ e)

  -- what last_stroke asks, and what it answers
  pub last-asked : 1 ≤ s.strokes → LastStands s (length m.strokes.times) × (length m.fractals.prices ≡ length m.strokes.times)
  last-asked one =
      (subst (LastStands s) (sym known.strokes.raw.times) (known.last-stands one), known.fractals.prices ∙ sym known.strokes.raw.times)

  pub last-known : 1 ≤ s.strokes → (r : LastStroke) → r ≡ last_read s m.strokes.times m.fractals.prices → LastIs s m.strokes m.fractals r
  last-known one r e =
      let few = known.few-strokes in
      subst (LastIs s m.strokes m.fractals) (sym e)
      (last-is s m.strokes m.fractals known.kept (known.last-stands one) (omega (arith, lb)) (omega (arith, lf)))

  pub prices_long : s.unfinished ≤ length m.unfinished.prices
  prices_long = rw known.unfinished.raw.prices known.few-unfinished

  highs : map (λ k. k.bar.high) (take s.unfinished (merged_bars m.unfinished)) ≡ map (λ p. get_or p 2 nan) (take s.unfinished m.unfinished.prices)
  unfolding with_first bar_of
  highs = column_read (λ k. k.bar.high) (λ p. get_or p 2 nan) (λ t i p n e. refl) m.unfinished s.rooms.unfinished s.unfinished known.unfinished

  lows : map (λ k. k.bar.low) (take s.unfinished (merged_bars m.unfinished)) ≡ map (λ p. get_or p 3 nan) (take s.unfinished m.unfinished.prices)
  unfolding with_first bar_of
  lows = column_read (λ k. k.bar.low) (λ p. get_or p 3 nan) (λ t i p n e. refl) m.unfinished s.rooms.unfinished s.unfinished known.unfinished

  pub extends-is : 1 ≤ s.strokes → 1 ≤ s.unfinished → (b : LastStroke) → b ≡ last_read s m.strokes.times m.fractals.prices → (r : Bool)
      → r ≡ reaches b.direction b.high b.low (take s.unfinished m.unfinished.prices) → r ≡ last_bi_extend (state_of s m).strokes (state_of s m).unfinished
  unfolding state_of kept_strokes
  extends-is one two b e r q =
      let k = last-known one b e in
      let n = s.unfinished in
      let long = known.unfinished-length in
      extend-is (state_of s m).strokes (state_of s m).unfinished (take n m.unfinished.prices) k.stroke b.direction b.high b.low r k.is (omega arith)
      k.direction k.high k.low highs lows q

-- ---- the answers, by question 4

-- where it answers, the strokes of that run are the finished ones
run_by : (q : Bool) (t : State) (n : ℕ) → finished_by q t ≡ Ok n → run_of t.strokes 0 n ≡ get_finished_bis t.strokes t.unfinished
unfolding finished_by
run_by true t n h = ap (λ (k : ℕ). run_of t.strokes 0 k) (sym (ok_same (length (get_finished_bis t.strokes t.unfinished)) n h)) ∙ finished-run t.strokes t.unfinished
run_by false t n h = err_ok Sound n h

pub finished_runs : (s : Stand) (m : Stores) (r : Result ℕ Question) → r ≡ finished_answer s m
    → (n : ℕ) → r ≡ Ok n → run_of (state_of s m).strokes 0 n ≡ get_finished_bis (state_of s m).strokes (state_of s m).unfinished
unfolding finished_answer
finished_runs s m r e n h = run_by (question4 s m) (state_of s m) n (sym e ∙ h)

pub finished_no : (s : Stand) (m : Stores) (e : Question) (r : Result ℕ Question) → IsErrAnd r (λ y. y ≡ e) → Err e ≡ if_sound (question4 s m) (tt {0}) → r ≡ finished_answer s m
unfolding finished_answer finished_by
finished_no s m e r h g = sound_no (question4 s m) tt e r (λ q. finished_by q (state_of s m)) refl h g

pub finished_yes : (s : Stand) (m : Stores) → length s.bars ≡ 65 → length s.fractals ≡ 65 → question4 s m ≡ true → (n : ℕ) → n ≡ finished_count s.strokes s.unfinished → Ok n ≡ finished_answer s m
unfolding finished_answer finished_by
finished_yes s m lb lf e n q = ap Ok (finished_are s m lb lf (is-sound s m e) n q) ∙ ap (λ (t : Bool). finished_by t (state_of s m)) (sym e)

pub extend_no : (s : Stand) (m : Stores) (e : Question) (r : Result Bool Question) → IsErrAnd r (λ y. y ≡ e) → Err e ≡ if_sound (question4 s m) (tt {0}) → r ≡ extend_answer s m
unfolding extend_answer extend_by
extend_no s m e r h g = sound_no (question4 s m) tt e r (λ q. extend_by q (state_of s m)) refl h g

pub extend_yes : (s : Stand) (m : Stores) (b : Bool) → question4 s m ≡ true → b ≡ last_bi_extend (state_of s m).strokes (state_of s m).unfinished → Ok b ≡ extend_answer s m
unfolding extend_answer extend_by
extend_yes s m b e q = ap Ok q ∙ ap (λ (t : Bool). extend_by t (state_of s m)) (sym e)
