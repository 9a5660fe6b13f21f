-- The fractals of the unfinished bars of a sound stand are each later than the one before, so that none is left out. Assumes nothing.
use mathlib.Core.Path.{◌≡◌, refl, ap, sym, ◌∙◌, subst}
use mathlib.Core.Bool.{Bool, true, ◌&&◌}
use mathlib.Core.List.{List, [], ◌∷◌, map}
use mathlib.Core.Option.{Option, none, some}
use lib.ListN.{length, take}
use lib.IntN.{ℤ}
use lib.Signed.{lt_z}
use lib.Dec.{T}
use lib.Ieee.Fits.{and_l, and_r}
use Rattle.arith.proofs.Tests.{yes}
use Rattle.bars.specs.Bars.{Merged}
use Rattle.bars.specs.Lists.{All, every}
use Rattle.stores.specs.Stores.{raw_part, merged_bars}
use Rattle.machine.specs.Fractals.{Fractal, time_of, check_fxs, fxs_after}
use Rattle.machine.specs.Stand.{State}
use Rattle.machine.specs.Rising.{Rising}
use Rattle.machine.specs.Soundness.{rises, bar_times, merged_times, stroke_rises, times_rise}
use Rattle.machine.proofs.Facts.{RisingFx}
use Rattle.machine.proofs.Lists.{All-map}
use Rattle.machine.proofs.FractalWindows.{fxs_windows, fxs_spaced, window_rises, spaced_rising}
use Rattle.strokes.specs.declared.Stand.{Stand}
use Rattle.strokes.specs.StateRead.{state_of, bare_fractal}
use Rattle.strokes.specs.Lent.{Stores, FractalStore}
use Rattle.strokes.specs.Code.StrokeSteps.{fractals_between}
use Rattle.strokes.proofs.StoredStrokes.{bare_twice}
use Rattle.sound.specs.StandSound.{IsSound}
use Rattle.sound.proofs.SoundFacts.{Facts, facts}
use Rattle.question4.specs.Question4.{question4}
use Rattle.question4.proofs.Question4Passed.{is-sound}
use Rattle.std.proofs.Common.{ℕ, Result}
use Rattle.bars.specs.declared.refusals.Question.{Question}
use Rattle.reports.specs.FractalList.{is_after, list_if, later_than}
use Rattle.reports.specs.FxAnswers.{FxDone, ubi_fxs_of}
use Rattle.reports.proofs.FxSame.{later_bare, same_done, fractals_are}

-- ---- rising bars have rising fractals

times-back : {A : Type 0} (f : A → ℤ) (t : ℤ) (l : List A) → T (every (λ u. lt_z t u) (map f l)) → All (λ a. T (lt_z t (f a))) l
unfolding every
times-back f t [] h = tt
times-back f t (a ∷ l) h = (and_l (lt_z t (f a)) (every (λ u. lt_z t u) (map f l)) h, times-back f t l (and_r (lt_z t (f a)) (every (λ u. lt_z t u) (map f l)) h))

rising_of : (l : List Merged) → T (rises (merged_times l)) → Rising l
unfolding rises merged_times
rising_of [] h = tt
rising_of (k ∷ l) h =
    let a = every (λ u. lt_z k.bar.time u) (merged_times l) in
    let b = rises (merged_times l) in
    (times-back (λ x. x.bar.time) k.bar.time l (and_l a b h), rising_of l (and_r a b h))

fxs-rise : (l : List Merged) → Rising l → RisingFx (check_fxs l)
unfolding check_fxs
fxs-rise l r = spaced_rising (fxs_after none l) (All-map (fxs_after none l) (λ f w. (window_rises f l r w).1) (fxs_windows none l)) (fxs_spaced none l r)

-- ---- of rising fractals none is left out

later-all : (p : Option ℤ) (l : List Fractal) → All (λ f. T (is_after p (time_of f))) l → RisingFx l → later_than p l ≡ l
unfolding later_than list_if is_after
later-all p [] a r = refl
later-all p (f ∷ l) a r =
    ap (λ (t : Bool). list_if t f p (λ q. later_than q l)) (yes (is_after p (time_of f)) a.0)
    ∙ ap (λ (x : List Fractal). f ∷ x) (later-all (some (time_of f)) l r.0 r.1)

after_none : (l : List Fractal) → All (λ f. T (is_after none (time_of f))) l
unfolding is_after
after_none [] = tt
after_none (f ∷ l) = (tt, after_none l)

-- ---- of a sound stand

unfinished-rise : (s : State) → T (times_rise s) → Rising s.unfinished
unfolding times_rise
unfinished-rise s h =
    let a = rises (bar_times s.raw) in
    let b = rises (merged_times s.unfinished) in
    rising_of s.unfinished (and_r a b (and_l (a && b) (every stroke_rises s.strokes) h))

module _ (s : Stand) (m : Stores) (lb : length s.bars ≡ 65) (lf : length s.fractals ≡ 65) (h : IsSound s m) where
  known : Facts s m
  known = facts s m lb lf h

  all_listed : later_than none (ubi_fxs_of (state_of s m)) ≡ ubi_fxs_of (state_of s m)
  unfolding ubi_fxs_of
  all_listed =
      let l = (state_of s m).unfinished in
      later-all none (check_fxs l) (after_none (check_fxs l)) (fxs-rise l (unfinished-rise (state_of s m) known.clauses.times))

  windows_alike : map bare_fractal (later_than none (fractals_between (raw_part m.unfinished) 0 s.unfinished)) ≡ map bare_fractal (ubi_fxs_of (state_of s m))
  unfolding ubi_fxs_of state_of
  windows_alike =
      let w = fractals_between (raw_part m.unfinished) 0 s.unfinished in
      let c = check_fxs (take s.unfinished (merged_bars m.unfinished)) in
      later_bare none w
      ∙ ap (λ (x : List Fractal). later_than none (map bare_fractal x)) (fractals_are m.unfinished s.rooms.unfinished s.unfinished known.unfinished)
      ∙ ap (later_than none) (bare_twice c)
      ∙ sym (later_bare none c)
      ∙ ap (map bare_fractal) all_listed

  ubi_done : (d d' : FractalStore) (r : Result ℕ Question) → FxDone true (later_than none (fractals_between (raw_part m.unfinished) 0 s.unfinished)) d d' r → FxDone true (ubi_fxs_of (state_of s m)) d d' r
  ubi_done d d' r k = same_done true (later_than none (fractals_between (raw_part m.unfinished) 0 s.unfinished)) (ubi_fxs_of (state_of s m)) d d' r windows_alike k

pub ubi-fxs_yes : (s : Stand) (m : Stores) → length s.bars ≡ 65 → length s.fractals ≡ 65 → question4 s m ≡ true → (d d' : FractalStore) (r : Result ℕ Question)
    → FxDone true (later_than none (fractals_between (raw_part m.unfinished) 0 s.unfinished)) d d' r → FxDone (question4 s m) (ubi_fxs_of (state_of s m)) d d' r
ubi-fxs_yes s m lb lf e d d' r k = subst (λ (t : Bool). FxDone t (ubi_fxs_of (state_of s m)) d d' r) (sym e) (ubi_done s m lb lf (is-sound s m e) d d' r k)
