-- What a report knows where question 4, or 4 and 13, passed, and where one did not. Assumes nothing.
use Rattle.std.proofs.Common.{ℕ, ◌≡◌, ◌∙◌, ◌<◌, ◌≤◌, Bool, true, false, Result, Ok, Err, IsErrAnd, ◌⊎◌, inl, inr, is_ok, true≢false, refl, sym, ap, arith, length}
use mathlib.Core.Bool.{cond}
use mathlib.Core.Option.{Option, none}
use lib.Dec.{ltb}
use borrow.Author.Tests.{ltb-true, ltb-false, lt-ltb, le-ltb}
use Rattle.bars.specs.declared.refusals.Question.{Question}
use Rattle.bars.specs.declared.refusals.Question.TheVariants.{Sound, Exists}
use Rattle.machine.specs.Strokes.{Stroke}
use Rattle.strokes.specs.declared.Stand.{Stand}
use Rattle.strokes.specs.StateRead.{state_of}
use Rattle.strokes.specs.Lent.{Stores}
use Rattle.question4.specs.Question4.{question4}
use Rattle.question4.proofs.Question4Passed.{is-sound}
use Rattle.sound.proofs.SoundFacts.{facts}
use Rattle.named.specs.declared.stroke_rows.StrokeRows.{StrokeRows}
use Rattle.named.specs.Code.NamedRows.{rows_of}
use Rattle.named.specs.ReportQuestions.{nth}
use Rattle.named.proofs.StrokeAt.{nth-none}
use Rattle.reports.specs.Code.FirstQuestions.{if_sound, if_kept, asked_rows}

-- one is no other
pub err_ok : {A X : Type 0} (e : Question) (a : A) → ◌≡◌ {A = Result A Question} (Err e) (Ok a) → X
err_ok e a h = absurd (true≢false (sym (ap is_ok h)))

pub ok_same : {A : Type 0} (x y : A) → ◌≡◌ {A = Result A Question} (Ok x) (Ok y) → x ≡ y
ok_same {A} x y h = ap (λ (r : Result A Question). elim r [ Ok z ↦ z | Err e ↦ x ]) h

err_same : {A : Type 0} (x y : Question) → ◌≡◌ {A = Result A Question} (Err x) (Err y) → x ≡ y
err_same {A} x y h = ap (λ (r : Result A Question). elim r [ Ok z ↦ x | Err e ↦ e ]) h

-- what a `?` hands up is what it was given
pub handed_up : {B : Type 0} (r : Result B Question) (e : Question) → IsErrAnd r (λ y. y ≡ e) → r ≡ Err e
handed_up (Ok x) e h = absurd h
handed_up (Err y) e h = ap Err h

-- ---- question 4

pub asked_is : (q : Bool) → ◌≡◌ {A = Result (Unit {0}) Question} (cond q (Ok tt) (Err Sound)) (if_sound q tt)
unfolding if_sound
asked_is true = refl
asked_is false = refl

pub unsound : {A : Type 0} (q : Bool) (a : A) (e : Question) → Err e ≡ if_sound q a → (q ≡ false) × (e ≡ Sound)
unfolding if_sound
unsound true a e h = err_ok e a h
unsound false a e h = (refl, err_same e Sound h)

pub passed : {A : Type 0} (q : Bool) (a x : A) → Ok x ≡ if_sound q a → q ≡ true
unfolding if_sound
passed true a x h = refl
passed false a x h = err_ok Sound x (sym h)

-- what is handed up where it does not pass is the answer of any report that F answers
pub sound_no : {A B : Type 0} (q : Bool) (a : A) (e : Question) (r : Result B Question) (F : Bool → Result B Question) → F false ≡ Err Sound
    → IsErrAnd r (λ y. y ≡ e) → Err e ≡ if_sound q a → r ≡ F q
sound_no q a e r F f h g =
    let u = unsound q a e g in
    handed_up r e h ∙ ap Err u.1 ∙ sym f ∙ ap F (sym u.0)

-- ---- question 13

pub kept : {A : Type 0} (q t : Bool) (a x : A) → Ok x ≡ if_kept q t a → (q ≡ true) × (t ≡ true) × (x ≡ a)
unfolding if_kept
kept true true a x h = (refl, refl, ok_same x a h)
kept true false a x h = err_ok Exists x (sym h)
kept false t a x h = err_ok Sound x (sym h)

not_kept : {A : Type 0} (q t : Bool) (a : A) (e : Question) → Err e ≡ if_kept q t a → ((q ≡ false) × (e ≡ Sound)) ⊎ ((q ≡ true) × (t ≡ false) × (e ≡ Exists))
unfolding if_kept
not_kept true true a e g = err_ok e a g
not_kept true false a e g = inr (refl, refl, err_same e Exists g)
not_kept false t a e g = inl (refl, err_same e Sound g)

module _ (s : Stand) (m : Stores) (i : ℕ) where
  -- of the rows that were named: the stand is sound and keeps the stroke
  pub named_is : (r : StrokeRows) → Ok r ≡ asked_rows s m i → (question4 s m ≡ true) × (i < s.strokes) × (r ≡ rows_of s i)
  unfolding asked_rows
  named_is r h =
      let k = kept (question4 s m) (ltb i s.strokes) (rows_of s i) r h in
      (k.0, ltb-true i s.strokes k.1, k.2)

  -- there is no such stroke
  pub stroke-none : question4 s m ≡ true → length s.bars ≡ 65 → length s.fractals ≡ 65 → s.strokes ≤ i → nth (state_of s m).strokes i ≡ none
  stroke-none q lb lf h = nth-none (state_of s m).strokes i (let f = (facts s m lb lf (is-sound s m q)).strokes-length in omega arith)

  -- the rows are refused: by which question, and what it found
  pub rows_by : (e : Question) → length s.bars ≡ 65 → length s.fractals ≡ 65 → Err e ≡ asked_rows s m i
      → ((question4 s m ≡ false) × (e ≡ Sound)) ⊎ ((question4 s m ≡ true) × (nth (state_of s m).strokes i ≡ none) × (e ≡ Exists))
  unfolding asked_rows
  rows_by e lb lf g =
      elim (not_kept (question4 s m) (ltb i s.strokes) (rows_of s i) e g) [ inl w ↦ inl w | inr w ↦ inr (w.0, stroke-none w.0 lb lf (ltb-false i s.strokes w.1), w.2) ]

  -- what is handed up then is the answer of any report that F answers
  pub rows_no : {B : Type 0} (e : Question) (r : Result B Question) (F : Bool → Option Stroke → Result B Question)
      → F false (nth (state_of s m).strokes i) ≡ Err Sound → F true none ≡ Err Exists → length s.bars ≡ 65 → length s.fractals ≡ 65
      → IsErrAnd r (λ y. y ≡ e) → Err e ≡ asked_rows s m i → r ≡ F (question4 s m) (nth (state_of s m).strokes i)
  rows_no e r F f n lb lf h g =
      handed_up r e h
      ∙ elim (rows_by e lb lf g) [ inl w ↦ ap Err w.1 ∙ sym f ∙ ap (λ (q : Bool). F q (nth (state_of s m).strokes i)) (sym w.0) | inr w ↦ ap Err w.2 ∙ sym n ∙ (λ j. F (sym w.0 j) (sym w.1 j)) ]

  -- what ask_stroke returns
  pub rows_unsound : (e : Question) (r : Result StrokeRows Question) → IsErrAnd r (λ y. y ≡ e) → Err e ≡ if_sound (question4 s m) (tt {0}) → r ≡ asked_rows s m i
  unfolding asked_rows if_kept
  rows_unsound e r h g = sound_no (question4 s m) tt e r (λ q. if_kept q (ltb i s.strokes) (rows_of s i)) refl h g

  pub rows_missing : (x : Unit {0}) (k : ℕ) → k ≡ s.strokes → Ok x ≡ if_sound (question4 s m) (tt {0}) → k ≤ i → Err Exists ≡ asked_rows s m i
  unfolding asked_rows if_kept
  rows_missing x k e h l =
      let a = sym (passed (question4 s m) tt x h) in
      let b = sym (le-ltb i s.strokes (omega arith)) in
      λ j. if_kept (a j) (b j) (rows_of s i)

  pub rows_given : (x : Unit {0}) (k : ℕ) (r : StrokeRows) → k ≡ s.strokes → Ok x ≡ if_sound (question4 s m) (tt {0}) → i < k → r ≡ rows_of s i → Ok r ≡ asked_rows s m i
  unfolding asked_rows if_kept
  rows_given x k r e h l w =
      let a = sym (passed (question4 s m) tt x h) in
      let b = sym (lt-ltb i s.strokes (omega arith)) in
      ap Ok w ∙ (λ j. if_kept (a j) (b j) (rows_of s i))
