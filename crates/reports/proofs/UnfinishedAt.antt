-- The fractal at a place among those of the unfinished bars. Assumes nothing.
use Prim.Native.Nat.{ℕ, zero, suc}
use mathlib.Core.Path.{◌≡◌, refl, ap, sym, ◌∙◌}
use mathlib.Core.Bool.{Bool, true}
use mathlib.Core.List.{List, [], ◌∷◌, map}
use mathlib.Core.Option
use mathlib.Core.Option.{Option, none, some, none-ne-some, some-injective}
use lib.ListN.{take}
use Rattle.std.specs.Prelude as Std
use Rattle.std.proofs.Common.{Result, Ok, Err, IsErrAnd, Some, None}
use Rattle.bars.specs.Bars.{Merged}
use Rattle.bars.specs.declared.refusals.Question.{Question}
use Rattle.bars.specs.declared.refusals.Question.TheVariants.{Exists}
use Rattle.stores.specs.Stores.{MergedStore, raw_part, raw_bars, merged_bars}
use Rattle.stores.specs.Code.StoreRows.{RoomRaw, SizedMerged}
use Rattle.stores.proofs.Columns.{merged-bars}
use Rattle.stores.proofs.KeptBars.{map-take}
use Rattle.machine.specs.declared.Mark.{Mark}
use Rattle.machine.specs.declared.Mark.TheVariants.{D, G}
use Rattle.machine.specs.Fractals.{Fractal, fxs_after, check_fxs}
use Rattle.strokes.specs.declared.Stand.{Stand}
use Rattle.strokes.specs.StateRead.{bare_bar, bare_fractal, state_of}
use Rattle.strokes.specs.Lent.{Stores}
use Rattle.strokes.specs.Code.StrokeSteps.{plain_bar, fractals_between}
use Rattle.strokes.proofs.StoredFractals.{fxs_bare}
use Rattle.strokes.proofs.StoredStrokes.{plain_bare}
use Rattle.strokes.proofs.StoredUnfinished.{room_of}
use Rattle.question4.specs.Question4.{question4}
use Rattle.sound.proofs.SoundFacts.{sound_fit}
use Rattle.question4.proofs.Question4Passed.{is-sound}
use Rattle.reports.specs.Code.FirstQuestions.{if_sound}
use Rattle.reports.specs.declared.fractal_answers.FractalAnswers.{FractalAnswers}
use Rattle.reports.specs.declared.fractal_walk.FractalBars.{FractalBars}
use Rattle.reports.specs.FractalAnswers.{strength_at, power_str, fractal_volume, has_zs, answers_of}
use Rattle.named.specs.ReportQuestions.{nth, unfinished_at}
use Rattle.reports.specs.NamedFractals.{answers_if, unfinished_answers_at}
use Rattle.std.specs.Option.{option_map}
use Rattle.std.specs.Prelude.{slice_get}
use Rattle.reports.specs.Code.FractalWalk.{plain, plain_if}
use Rattle.reports.proofs.FirstLaws.{sound_no}

-- ---- the one at a place

listed_or : Std.Option Fractal → Option Fractal
listed_or None = none
listed_or (Some f) = some f

nth_read : (l : List Fractal) (i : ℕ) → nth l i ≡ listed_or (slice_get l i)
unfolding nth listed_or
nth_read [] i = refl
nth_read (f ∷ l) zero = refl
nth_read (f ∷ l) (suc i) = nth_read l i

plain_read : (o : Std.Option FractalBars) → listed_or (option_map plain o) ≡ plain_if o
unfolding plain_if listed_or
plain_read None = refl
plain_read (Some f) = refl

pub nth_got : (l : List Fractal) (i : ℕ) (o : Std.Option FractalBars) → option_map plain o ≡ slice_get l i → nth l i ≡ plain_if o
nth_got l i o e = nth_read l i ∙ ap listed_or (sym e) ∙ plain_read o

-- ---- the fractals of the bars that the store holds

map-nth : {A B : Type 0} (f : A → B) (l : List A) (i : ℕ) → nth (map f l) i ≡ Option.map f (nth l i)
unfolding nth
map-nth f [] i = refl
map-nth f (a ∷ l) zero = refl
map-nth f (a ∷ l) (suc i) = map-nth f l i

strength_bare : (m : Mark) (f : Fractal) → strength_at m (bare_fractal f) ≡ strength_at m f
unfolding strength_at bare_fractal bare_bar
strength_bare D f = refl
strength_bare G f = refl

answers_bare : (f : Fractal) → answers_of (bare_fractal f) ≡ answers_of f
unfolding answers_of power_str fractal_volume has_zs bare_fractal bare_bar
answers_bare f = λ i. record { power_str = strength_bare f.mark f i; power_volume = fractal_volume f; has_zs = has_zs f }

bare_option : (o : Option Fractal) → Option.map answers_of (Option.map bare_fractal o) ≡ Option.map answers_of o
bare_option none = refl
bare_option (some f) = ap some (answers_bare f)

pub sought_is : (u : MergedStore) (w n j : ℕ) → SizedMerged u w
    → Option.map answers_of (nth (fractals_between (raw_part u) 0 n) j) ≡ Option.map answers_of (unfinished_at (take n (merged_bars u)) j)
unfolding fractals_between unfinished_at check_fxs
sought_is u w n j h =
    let U = merged_bars u in
    let e : map plain_bar (raw_bars (raw_part u)) ≡ map bare_bar U = sym (ap (map plain_bar) (merged-bars u w h)) ∙ plain_bare U in
    ap (λ (l : List Merged). Option.map answers_of (nth (fxs_after none l) j)) (ap (take n) e ∙ sym (map-take bare_bar n U))
    ∙ ap (λ (l : List Fractal). Option.map answers_of (nth l j)) (sym (fxs_bare none (take n U)))
    ∙ ap (Option.map answers_of) (map-nth bare_fractal (fxs_after none (take n U)) j)
    ∙ bare_option (nth (fxs_after none (take n U)) j)

-- ---- of a sound stand

pub seek_fits : (s : Stand) (m : Stores) → question4 s m ≡ true → RoomRaw (raw_part m.unfinished) s.unfinished
seek_fits s m q =
    let f = sound_fit s m (is-sound s m q) in
    (room_of m.unfinished s.rooms.unfinished s.unfinished f.unfinished f.few-unfinished).raw

module _ (s : Stand) (m : Stores) (j : ℕ) where
  pub unfinished_refused : (e : Question) (r : Result FractalAnswers Question) → IsErrAnd r (λ y. y ≡ e) → Err e ≡ if_sound (question4 s m) (tt {0}) → r ≡ unfinished_answers_at s m j
  unfolding unfinished_answers_at answers_if
  unfinished_refused e r h g = sound_no (question4 s m) tt e r (λ t. answers_if t (unfinished_at (state_of s m).unfinished j)) refl h g

  pub unfinished_none : nth (fractals_between (raw_part m.unfinished) 0 s.unfinished) j ≡ none → question4 s m ≡ true → Err Exists ≡ unfinished_answers_at s m j
  unfolding unfinished_answers_at state_of answers_if
  unfinished_none f q =
      let w = sound_fit s m (is-sound s m q) in
      let l = take s.unfinished (merged_bars m.unfinished) in
      by_option (unfinished_at l j) (sym (sought_is m.unfinished s.rooms.unfinished s.unfinished j w.unfinished) ∙ ap (Option.map answers_of) f)
      ∙ ap (λ (t : Bool). answers_if t (unfinished_at l j)) (sym q)
    where
      by_option : (o : Option Fractal) → Option.map answers_of o ≡ none → Err Exists ≡ answers_if true o
      by_option none e = refl
      by_option (some f) e = absurd (none-ne-some _ (sym e))

  pub unfinished_given : (f : FractalBars) (x : FractalAnswers) → x ≡ answers_of (plain f) → nth (fractals_between (raw_part m.unfinished) 0 s.unfinished) j ≡ some (plain f) → question4 s m ≡ true → Ok x ≡ unfinished_answers_at s m j
  unfolding unfinished_answers_at state_of answers_if
  unfinished_given f x e g q =
      let w = sound_fit s m (is-sound s m q) in
      let l = take s.unfinished (merged_bars m.unfinished) in
      by_option (unfinished_at l j) (sym (sought_is m.unfinished s.rooms.unfinished s.unfinished j w.unfinished) ∙ ap (Option.map answers_of) g)
      ∙ ap (λ (t : Bool). answers_if t (unfinished_at l j)) (sym q)
    where
      by_option : (o : Option Fractal) → Option.map answers_of o ≡ some (answers_of (plain f)) → Ok x ≡ answers_if true o
      by_option none h = absurd (none-ne-some _ h)
      by_option (some k) h = ap Ok (e ∙ sym (some-injective _ _ h))
