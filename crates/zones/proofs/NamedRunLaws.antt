-- What a call answers that names kept strokes: its questions, and that what is read off the rows is what the state's strokes give.
-- Assumes nothing.
use Prim.Native.Nat.{ℕ, zero, suc, ◌+◌, ◌≤◌, ◌<◌}
use native.Mathlib.Omega.{arith}
use native.Mathlib.Numerals.{add-one}
use mathlib.Core.Path.{◌≡◌, refl, ap, sym, ◌∙◌, subst}
use mathlib.Core.Bool.{Bool, true, false, ◌&&◌}
use mathlib.Core.List.{List}
use mathlib.Core.Option.{Option}
use lib.ListN.{length}
use lib.Dec.{T, leb, leb→le}
use Rattle.machine.specs.Strokes.{Stroke}
use Rattle.strokes.specs.declared.Stand.{Stand}
use Rattle.strokes.specs.StateRead.{state_of, stroke_with}
use Rattle.strokes.specs.Lent.{FractalStore, Stores}
use Rattle.sound.specs.StandSound.{IsSound}
use Rattle.question4.specs.Question4.{question4}
use Rattle.sound.proofs.SoundFacts.{facts}
use Rattle.question4.proofs.Question4Passed.{is-sound}
use Rattle.arith.proofs.Tests.{holds}
use Rattle.named.specs.ReportQuestions.{exists, run_exists, stroke_exists, fractals_of, question14}
use Rattle.zones.specs.declared.FakeStroke.{FakeStroke}
use Rattle.bars.specs.declared.refusals.Question.{Question}
use Rattle.bars.specs.declared.refusals.Question.TheVariants.{MinimumLength, MostStrokes, Rooms, Sound, Time, Prices, Volumes, LowAtMostHigh, NotEarlier, RawRoom, UnfinishedRoom, StrokeRoom, Exists, OutputRoom, Summary, Places, Record, Digits}
use Rattle.bars.specs.Refusals.{number}
use Rattle.machine.specs.declared.Direction.{Direction}
use Rattle.machine.specs.declared.Direction.TheVariants.{Up, Down}
use Rattle.zones.specs.BisUpDown.{goes}
use Rattle.zones.specs.FakeStrokes.{create_fake_bis}
use Rattle.zones.specs.Code.FakeOfTwo.{fake_count}
use Rattle.zones.specs.Code.StrokesRead.{stroke_place, fractal_number, read_run, StrokeStands, RunStands}
use Rattle.zones.specs.NamedRuns.{failed_if, run_failed, named_run, run_answer, answer_if, bis_up_answer, bis_down_answer, bis_answer}
use Rattle.zones.specs.FakeRows.{FakeColumns, put_fakes}
use Rattle.zones.specs.Code.FakeSteps.{read_fakes, fake_at}
use Rattle.zones.specs.ListedFakes.{fakes_of, stroke_failed, fakes_fit, FakesCall, fakes_call, fakes_if, fakes_after, listed_fakes}
use Rattle.zones.proofs.StrokesReadLaws.{stroke-is, stroke-stands, run-stands, run_read}
use Rattle.zones.proofs.Items.{items_length}
use Rattle.zones.proofs.FakeReads.{fakes_are}

-- ---- the questions

pub passed_if : (a b : Bool) → failed_if a b ≡ 0 → (a ≡ true) × (b ≡ true)
unfolding failed_if
passed_if true true e = (refl, refl)
passed_if true false e = let w : ⊥ = omega arith in absurd w
passed_if false b e = let w : ⊥ = omega arith in absurd w

-- either of the two answers, by the way that is asked
bis_is : (d : Direction) (s : Stand) (m : Stores) (first count : ℕ) → bis_answer d s m first count ≡ answer_if (run_failed s m first count) (goes d (named_run s m first count))
unfolding bis_answer bis_up_answer bis_down_answer goes
bis_is Up s m first count = refl
bis_is Down s m first count = refl

module _ (s : Stand) (m : Stores) (lb : length s.bars ≡ 65) (lf : length s.fractals ≡ 65) (first count : ℕ) where
  -- whether a run exists is asked of the stand's count
  exists-is : IsSound s m → run_exists (state_of s m).strokes first count ≡ leb (first + count) s.strokes
  unfolding run_exists
  exists-is h = ap (leb (first + count)) (facts s m lb lf h).strokes-length

  pub refused_4 : question4 s m ≡ false → 4 ≡ run_failed s m first count
  unfolding run_failed failed_if
  refused_4 q = sym (ap (λ (x : Bool). failed_if x (run_exists (state_of s m).strokes first count)) q)

  module _ (q : question4 s m ≡ true) (x : Bool) (d : x ≡ leb (first + count) s.strokes) where
    pub refused_13 : x ≡ false → 13 ≡ run_failed s m first count
    unfolding run_failed failed_if
    refused_13 p = sym (λ i. failed_if (q i) ((exists-is (is-sound s m q) ∙ sym d ∙ p) i))

    pub passed_13 : x ≡ true → 0 ≡ run_failed s m first count
    unfolding run_failed failed_if
    passed_13 p = sym (λ i. failed_if (q i) ((exists-is (is-sound s m q) ∙ sym d ∙ p) i))

  -- what a run that passed can count on
  module _ (n : ℕ) (e : n ≡ run_failed s m first count) (z : n ≡ 0) where
    both_passed : (question4 s m ≡ true) × (run_exists (state_of s m).strokes first count ≡ true)
    unfolding run_failed
    both_passed = passed_if (question4 s m) (run_exists (state_of s m).strokes first count) (sym e ∙ z)

    pub sound-here : IsSound s m
    sound-here = is-sound s m both_passed.0

    pub run_fits : first + count ≤ s.strokes
    run_fits = leb→le (first + count) s.strokes (holds (sym (exists-is sound-here) ∙ both_passed.1))

    pub run-here : RunStands s m.fractals first count
    run-here = run-stands s m lb lf sound-here first count run_fits

    pub named-is : read_run s m.fractals first count ≡ named_run s m first count
    unfolding named_run
    named-is = run_read s m lb lf sound-here first count run_fits

    pub way-answered : (d : Direction) (r : Bool) → r ≡ goes d (read_run s m.fractals first count) → run_answer 0 r ≡ bis_answer d s m first count
    unfolding answer_if
    way-answered d r q =
        ap (λ (x : Bool). answer_if 0 x) (q ∙ ap (goes d) named-is) ∙ ap (λ (x : ℕ). answer_if x (goes d (named_run s m first count))) (sym z ∙ e) ∙ sym (bis_is d s m first count)

-- a refusal has a number
pub number_some : (q : Question) → number q ≡ 0 → ⊥
number_some MinimumLength e = omega arith
number_some MostStrokes e = omega arith
number_some Rooms e = omega arith
number_some Sound e = omega arith
number_some Time e = omega arith
number_some Prices e = omega arith
number_some Volumes e = omega arith
number_some LowAtMostHigh e = omega arith
number_some NotEarlier e = omega arith
number_some RawRoom e = omega arith
number_some UnfinishedRoom e = omega arith
number_some StrokeRoom e = omega arith
number_some Exists e = omega arith
number_some OutputRoom e = omega arith
number_some Summary e = omega arith
number_some Places e = omega arith
number_some Record e = omega arith
number_some Digits e = omega arith

refusal : (n : ℕ) (b : Bool) → (n ≡ 0 → ⊥) → run_answer n false ≡ answer_if n b
unfolding answer_if
refusal zero b h = absurd (h refl)
refusal (suc n) b h = refl

pub way-refused : (d : Direction) (s : Stand) (m : Stores) (first count : ℕ) (q : Question) → number q ≡ run_failed s m first count → run_answer (number q) false ≡ bis_answer d s m first count
way-refused d s m first count q e =
    refusal (number q) (goes d (named_run s m first count)) (number_some q) ∙ ap (λ (x : ℕ). answer_if x (goes d (named_run s m first count))) e ∙ sym (bis_is d s m first count)

-- ---- the fake strokes of a stroke

-- a stroke exists if the run of it alone does
pub stroke-run : (s : Stand) (m : Stores) (place : ℕ) → run_failed s m place 1 ≡ stroke_failed s m place
unfolding run_failed stroke_failed run_exists stroke_exists exists
stroke-run s m place = ap (λ (x : ℕ). failed_if (question4 s m) (leb x (length (state_of s m).strokes))) (add-one place)

module _ (s : Stand) (m : Stores) (lb : length s.bars ≡ 65) (lf : length s.fractals ≡ 65) (place : ℕ) (n : ℕ) (e : n ≡ run_failed s m place 1) (z : n ≡ 0) where
  below : place < s.strokes
  below = let k = run_fits s m lb lf place 1 n e z in omega arith

  pub stroke-here : StrokeStands s m.fractals place
  stroke-here = stroke-stands s m lb lf (sound-here s m lb lf place 1 n e z) place below

  fakes-is : read_fakes s m.fractals place ≡ fakes_of s m place
  unfolding fakes_of fractals_of stroke_with
  fakes-is =
      fakes_are s m.fractals s.rooms.strokes place (facts s m lb lf (sound-here s m lb lf place 1 n e z)).fractals stroke-here
      ∙ ap (λ (x : Option Stroke). create_fake_bis s.power_places (fractals_of x)) (sym (stroke-is s m lb lf (sound-here s m lb lf place 1 n e z) place below))

  pub fakes-listed : (d : FakeColumns) (r : FakesCall) → r ≡ fakes_if (fakes_fit d (read_fakes s m.fractals place)) d (read_fakes s m.fractals place) → r ≡ listed_fakes s m place d
  unfolding listed_fakes fakes_after
  fakes-listed d r q =
      q ∙ ap (λ (l : List FakeStroke). fakes_if (fakes_fit d l) d l) fakes-is ∙ ap (λ (x : ℕ). fakes_after x d (fakes_of s m place)) (sym z ∙ e ∙ stroke-run s m place)

fakes_refusal : (n : ℕ) (d : FakeColumns) (l : List FakeStroke) → (n ≡ 0 → ⊥) → fakes_call n 0 d ≡ fakes_after n d l
unfolding fakes_after
fakes_refusal zero d l h = absurd (h refl)
fakes_refusal (suc n) d l h = refl

pub fakes-refused : (s : Stand) (m : Stores) (place : ℕ) (q : Question) (d : FakeColumns) → number q ≡ run_failed s m place 1 → fakes_call (number q) 0 d ≡ listed_fakes s m place d
unfolding listed_fakes
fakes-refused s m place q d e = fakes_refusal (number q) d (fakes_of s m place) (number_some q) ∙ ap (λ (x : ℕ). fakes_after x d (fakes_of s m place)) (e ∙ stroke-run s m place)

-- ---- question 14

fit_is : (s : Stand) (f : FractalStore) (i n : ℕ) (d : FakeColumns) → n ≡ fake_count (fractal_number s i) → (leb n (length d.times) && (leb n (length d.prices) && leb n (length d.codes))) ≡ fakes_fit d (read_fakes s f i)
unfolding fakes_fit question14 read_fakes
fit_is s f i n d e =
    ap (λ (x : ℕ). leb x (length d.times) && (leb x (length d.prices) && leb x (length d.codes))) (e ∙ sym (items_length (fake_at s.power_places f) (stroke_place s i) (fake_count (fractal_number s i))))

and-three : (a b c : Bool) → (a && (b && c)) ≡ true → (a ≡ true) × (b ≡ true) × (c ≡ true)
and-three true true true e = (refl, refl, refl)
and-three true true false e = absurd (subst T (sym e) tt)
and-three true false c e = absurd (subst T (sym e) tt)
and-three false b c e = absurd (subst T (sym e) tt)

pub three_fit : (n a b c : ℕ) → (leb n a && (leb n b && leb n c)) ≡ true → (n ≤ a) × (n ≤ b) × (n ≤ c)
three_fit n a b c e =
    let k = and-three (leb n a) (leb n b) (leb n c) e in
    (leb→le n a (holds k.0), leb→le n b (holds k.1), leb→le n c (holds k.2))

module _ (s : Stand) (f : FractalStore) (i n : ℕ) (d : FakeColumns) (b : Bool) (en : n ≡ fake_count (fractal_number s i)) (eb : b ≡ (leb n (length d.times) && (leb n (length d.prices) && leb n (length d.codes)))) where
  pub fakes_put : (r : ℕ) (w : FakeColumns) → b ≡ true → r ≡ fake_count (fractal_number s i) → w ≡ put_fakes d (read_fakes s f i)
      → fakes_call 0 r w ≡ fakes_if (fakes_fit d (read_fakes s f i)) d (read_fakes s f i)
  unfolding fakes_if read_fakes
  fakes_put r w t er ew =
      (λ j. fakes_call 0 ((er ∙ sym (items_length (fake_at s.power_places f) (stroke_place s i) (fake_count (fractal_number s i)))) j) (ew j))
      ∙ ap (λ (x : Bool). fakes_if x d (read_fakes s f i)) (sym t ∙ eb ∙ fit_is s f i n d en)

  pub fakes_full : b ≡ false → fakes_call 14 0 d ≡ fakes_if (fakes_fit d (read_fakes s f i)) d (read_fakes s f i)
  unfolding fakes_if
  fakes_full t = ap (λ (x : Bool). fakes_if x d (read_fakes s f i)) (sym t ∙ eb ∙ fit_is s f i n d en)
