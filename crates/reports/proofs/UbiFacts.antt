-- What a sound stand gives the unfinished summary. Assumes nothing.
use Prim.Native.Nat.{ℕ, ◌+◌, ◌≤◌}
use native.Mathlib.Omega.{arith}
use mathlib.Core.Path.{◌≡◌, refl, ap, sym, ◌∙◌, subst}
use mathlib.Core.Bool.{Bool, true}
use mathlib.Core.List.{List, [], ◌∷◌, map, foldl}
use mathlib.Core.Option.{some}
use lib.ListN.{length, take}
use lib.Seq.{length-take-le}
use Rattle.bars.specs.Lists.{join, last}
use Rattle.bars.specs.Merging.{at_times}
use Rattle.stores.specs.Stores.{raw_part, raw_bars, merged_bars, zip_with}
use Rattle.stores.specs.Code.StoreRows.{RoomRaw}
use Rattle.machine.specs.Fractals.{Fractal, check_fxs}
use Rattle.strokes.specs.StateRead.{bare_fractal}
use Rattle.strokes.specs.Code.StrokeSteps.{fractals_between}
use Rattle.strokes.proofs.StoredUnfinished.{room_of}
use Rattle.reports.specs.Code.FractalWalk.{plain}
use Rattle.reports.proofs.FxSame.{fractals_are}
use Rattle.reports.proofs.FxPasses.{windows_few}
use Rattle.machine.specs.declared.Direction.{Direction}
use Rattle.machine.specs.Strokes.{Stroke, turned}
use Rattle.std.specs.Prelude.{Option, Some, None}
use Rattle.strokes.specs.declared.Stand.{Stand}
use Rattle.strokes.specs.declared.strokes_store.LastStroke.{LastStroke}
use Rattle.strokes.specs.StateRead.{state_of}
use Rattle.strokes.specs.Lent.{Stores}
use Rattle.strokes.specs.Code.StrokeSteps.{last_read, kept_strokes}
use Rattle.sound.specs.StandSound.{IsSound}
use Rattle.question4.specs.Question4.{question4}
use Rattle.sound.proofs.SoundFacts.{Facts, facts}
use Rattle.reports.specs.declared.ubi.Extremes.{Extremes}
use Rattle.reports.specs.declared.fractal_walk.FractalBars.{FractalBars}
use Rattle.std.proofs.Common.{Result, Ok, Err, IsErrAnd}
use Rattle.bars.specs.declared.refusals.Question.{Question}
use Rattle.bars.specs.declared.refusals.Question.TheVariants.{Summary}
use Rattle.reports.specs.Code.FirstQuestions.{if_sound}
use Rattle.reports.proofs.FirstLaws.{sound_no}
use Rattle.reports.specs.declared.ubi.UbiSummary.{UbiSummary}
use Rattle.reports.specs.Measures.{elements_of}
use Rattle.reports.specs.Unfinished.{get_ubi}
use Rattle.reports.specs.UbiAnswers.{ubi_given, ubi_by, ubi_answer}
use Rattle.reports.specs.Code.UbiSteps.{RisingFirst, seen_next, see_at}
use Rattle.reports.proofs.ListFacts.{last-known}
use Rattle.reports.proofs.UbiLaws.{see-times, none_seen_lem, some-seen, FirstIs, first-is, no_fractals, elements_read, refused-last, refused-bars, refused-fractals, given_is}

-- what the code has seen
abbrev pub SeenAll : Stand → Stores → Option Extremes → Type 0
SeenAll s m o =
    o
    ≡ foldl (see_at (take s.raw (raw_bars m.raw))) None
    (join (zip_with take (take s.unfinished m.unfinished.counts) (take s.unfinished m.unfinished.elements)))

-- the fractals that it goes over
abbrev pub Over : Stand → Stores → List Fractal
Over s m = fractals_between (raw_part m.unfinished) 0 s.unfinished

abbrev pub Summed : Stand → Stores → Result UbiSummary Question
Summed s m = ubi_given (get_ubi (state_of s m).raw (state_of s m).unfinished (state_of s m).strokes)

last-same : (s : Stand) (m : Stores) (b : Stroke) → last (kept_strokes s m.strokes m.fractals) ≡ some b → last (state_of s m).strokes ≡ some b
unfolding state_of kept_strokes
last-same s m b e = e

module _ (s : Stand) (m : Stores) (lb : length s.bars ≡ 65) (lf : length s.fractals ≡ 65) (h : IsSound s m) where
  k : Facts s m
  k = facts s m lb lf h

  pub rising-here : RisingFirst m.raw s.raw
  rising-here =
      record {
        sized = record { times = refl; ids = k.raw.ids ∙ sym k.raw.times; prices = k.raw.prices ∙ sym k.raw.times };
        fits = rw k.raw.times k.few-raw;
        rise = k.rising-times;
      }

  pub counts_fit_lem : s.unfinished ≤ length m.unfinished.counts
  counts_fit_lem = rw k.unfinished.counts k.few-unfinished

  pub elements_fit : s.unfinished ≤ length m.unfinished.elements
  elements_fit = rw k.unfinished.elements k.few-unfinished

  pub rows_alike : (length (take s.unfinished m.unfinished.counts) ≡ length (take s.unfinished m.unfinished.elements))
      × (length (take s.unfinished m.unfinished.counts) ≤ 65536)
  rows_alike =
      let e = length-take-le s.unfinished m.unfinished.counts counts_fit_lem in
      let few = k.few-unfinished in
      let most = k.room-unfinished.to in
      (e ∙ sym (length-take-le s.unfinished m.unfinished.elements elements_fit), omega arith)

  pub walk_room : RoomRaw (raw_part m.unfinished) s.unfinished
  walk_room = (room_of m.unfinished s.rooms.unfinished s.unfinished k.unfinished k.few-unfinished).raw

  pub few_over : length (Over s m) ≤ 65536
  few_over =
      let few = k.few-unfinished in
      let most = k.room-unfinished.to in
      let w = windows_few (raw_part m.unfinished) s.unfinished in
      omega arith

  -- the bars that were seen
  seen_of_lem : (o : Option Extremes) → SeenAll s m o → o ≡ foldl seen_next None (at_times (state_of s m).raw (elements_of (state_of s m).unfinished))
  unfolding state_of
  seen_of_lem o w =
      w
      ∙ ap (foldl (see_at (take s.raw (raw_bars m.raw))) None) (sym (elements_read m.unfinished s.rooms.unfinished s.unfinished k.unfinished k.few-unfinished))
      ∙ see-times (take s.raw (raw_bars m.raw)) None (elements_of (take s.unfinished (merged_bars m.unfinished)))

  over_are : Over s m ≡ map bare_fractal (check_fxs (state_of s m).unfinished)
  unfolding state_of
  over_are = fractals_are m.unfinished s.rooms.unfinished s.unfinished k.unfinished

  pub no_strokes : s.strokes ≡ 0 → Err Summary ≡ Summed s m
  no_strokes e = refused-last (state_of s m).raw (state_of s m).unfinished (state_of s m).strokes (k.strokes-length ∙ e)

  pub no_bars : (o : Option Extremes) → SeenAll s m o → o ≡ None → Err Summary ≡ Summed s m
  no_bars o w z =
      refused-bars (state_of s m).raw (state_of s m).unfinished (state_of s m).strokes
      (none_seen_lem (at_times (state_of s m).raw (elements_of (state_of s m).unfinished)) (sym z ∙ seen_of_lem o w))

  pub no_fxs : Over s m ≡ [] → Err Summary ≡ Summed s m
  no_fxs e = refused-fractals (state_of s m).raw (state_of s m).unfinished (state_of s m).strokes (no_fractals (check_fxs (state_of s m).unfinished) (sym over_are ∙ e))

  pub summed_is : (o : Option Extremes) (e : Extremes) (b : LastStroke) (d : Direction) (t : FractalBars) (l : List Fractal) (c : ℕ)
      → 1 ≤ s.strokes
      → SeenAll s m o
      → o ≡ Some e
      → Over s m ≡ plain t ∷ l
      → c ≡ length l
      → b ≡ last_read s m.strokes.times m.fractals.prices
      → d ≡ turned b.direction
      → Ok (record { direction = d; high = e.high.high; low = e.low.low; highBar = e.high; lowBar = e.low; bars = s.unfinished; raw = s.raw; fractals = 1 + c; first = t }) ≡ Summed s m
  summed_is o e b d t l c one w y f n eb ed =
      let g = last-known s m lb lf h one b eb in
      given_is (state_of s m).raw (state_of s m).unfinished (state_of s m).strokes g.stroke e d s.raw s.unfinished (1 + c) t (last-same s m g.stroke g.is) (ed ∙ ap turned g.direction)
      (some-seen (at_times (state_of s m).raw (elements_of (state_of s m).unfinished)) e (sym y ∙ seen_of_lem o w))
      (subst (λ (i : ℕ). FirstIs (state_of s m).unfinished t (1 + i)) (sym n) (first-is (state_of s m).unfinished t l (sym over_are ∙ f)))
      (sym k.unfinished-length) (sym k.raw-length)

-- ---- the answer, by question 4

pub ubi_no : (s : Stand) (m : Stores) (e : Question) (r : Result UbiSummary Question) → IsErrAnd r (λ y. y ≡ e) → Err e ≡ if_sound (question4 s m) (tt {0}) → r ≡ ubi_answer s m
unfolding ubi_answer ubi_by
ubi_no s m e r h g = sound_no (question4 s m) tt e r (λ q. ubi_by q (state_of s m)) refl h g

pub ubi_yes : (s : Stand) (m : Stores) (r : Result UbiSummary Question) → question4 s m ≡ true → r ≡ Summed s m → r ≡ ubi_answer s m
unfolding ubi_answer ubi_by
ubi_yes s m r e q = q ∙ ap (λ (t : Bool). ubi_by t (state_of s m)) (sym e)
