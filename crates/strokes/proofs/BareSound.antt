-- What a feed asks does not see the elements of fractals' bars: questions 4 and 10 to 12 are answered alike with and without them.
-- Assumes nothing.
use Prim.Native.Nat.{ℕ, ◌+◌}
use mathlib.Core.Path.{◌≡◌, refl, ap, sym, ◌∙◌}
use mathlib.Core.Bool.{Bool, ◌&&◌}
use mathlib.Core.List.{List, [], ◌∷◌, map}
use mathlib.Core.Option.{Option, none, some}
use lib.ListN.{length, length-map}
use lib.IntN.{ℤ}
use lib.Dec.{leb, ltb}
use Rattle.bars.specs.declared.Bar.{Bar}
use Rattle.bars.specs.Bars.{Merged}
use Rattle.bars.specs.Lists.{last, every, some_of}
use Rattle.bars.specs.Questions.{question5, question6, question8, first_failed}
use Rattle.machine.specs.declared.Mark.{Mark}
use Rattle.machine.specs.Fractals.{Fractal, time_of, fx_of, taken}
use Rattle.machine.specs.Strokes.{Stroke}
use Rattle.machine.specs.Stand.{Settings, State}
use Rattle.machine.specs.Soundness.{bars_of, fewer_fractals, counts_fit, few_strokes, raw_pass, is_merged, fractal_merged, stroke_merged, merged_pass, rises, bar_times, merged_times, fractal_times, stroke_rises, times_rise, alternates, same_fractal, is_stroke, strokes_pass, is_named, asked, inner, elements_kept, newest_last, settings_sound, lists_sound, sound_but, sound}
use Rattle.machine.specs.Feed.{Moved, is_later, make, move}
use Rattle.machine.specs.FeedQuestions.{question10, merged, moved_fits, question11, question12, or_else, first_of, failed_after4, failed}
use Rattle.strokes.specs.StateRead.{bare_bar, bare_fractal, bare_stroke, bare_state}
use Rattle.strokes.proofs.BareStates.{every_map, some-map}
use Rattle.strokes.proofs.BareSteps.{make_bare, move_bare, merged_with_bare}

-- ---- the clauses of soundness

pub bars_of_bare : (bs : List Stroke) → bars_of (map bare_stroke bs) ≡ bars_of bs
unfolding bars_of bare_stroke
bars_of_bare [] = refl
bars_of_bare (b ∷ bs) = ap (λ (n : ℕ). length b.bars + n) (bars_of_bare bs)

fewer_bare : (b : Stroke) → fewer_fractals (bare_stroke b) ≡ fewer_fractals b
unfolding fewer_fractals bare_stroke
fewer_bare b = ap (λ (n : ℕ). ltb n (length b.bars)) (length-map b.fractals bare_fractal)

counts_bare : (c : Settings) (s : State) → counts_fit c (bare_state s) ≡ counts_fit c s
unfolding counts_fit bare_state
counts_bare c s =
    λ i. (leb (length s.raw) c.raw_room && leb (length s.unfinished) c.unfinished_room)
    && (leb (bars_of_bare s.strokes i) c.stroke_room && every_map bare_stroke fewer_fractals fewer_fractals fewer_bare s.strokes i)

few_bare : (most : ℕ) (s : State) → few_strokes most (bare_state s) ≡ few_strokes most s
unfolding few_strokes bare_state
few_bare most s = ap (λ (n : ℕ). leb n most) (length-map s.strokes bare_stroke)

raw_bare : (s : State) → raw_pass (bare_state s) ≡ raw_pass s
unfolding raw_pass bare_state
raw_bare s = refl

fractal-merged : (f : Fractal) → fractal_merged (bare_fractal f) ≡ fractal_merged f
unfolding fractal_merged is_merged question5 question6 question8 bare_fractal bare_bar
fractal-merged f = refl

stroke-merged : (b : Stroke) → stroke_merged (bare_stroke b) ≡ stroke_merged b
unfolding stroke_merged bare_stroke
stroke-merged b =
    λ i. every is_merged b.bars
    && (every_map bare_fractal fractal_merged fractal_merged fractal-merged b.fractals i && (fractal-merged b.start i && fractal-merged b.end i))

merged_bare : (s : State) → merged_pass (bare_state s) ≡ merged_pass s
unfolding merged_pass bare_state
merged_bare s = ap (λ (t : Bool). every is_merged s.unfinished && t) (every_map bare_stroke stroke_merged stroke_merged stroke-merged s.strokes)

times_of_bare : (l : List Fractal) → fractal_times (map bare_fractal l) ≡ fractal_times l
unfolding fractal_times time_of bare_fractal bare_bar
times_of_bare [] = refl
times_of_bare (f ∷ l) = ap (λ (r : List ℤ). time_of f ∷ r) (times_of_bare l)

rises_bare : (b : Stroke) → stroke_rises (bare_stroke b) ≡ stroke_rises b
unfolding stroke_rises bare_stroke
rises_bare b = ap (λ (l : List ℤ). rises (merged_times b.bars) && rises l) (times_of_bare b.fractals)

times_bare : (s : State) → times_rise (bare_state s) ≡ times_rise s
unfolding times_rise bare_state
times_bare s =
    ap (λ (t : Bool). (rises (bar_times s.raw) && rises (merged_times s.unfinished)) && t)
    (every_map bare_stroke stroke_rises stroke_rises rises_bare s.strokes)

alternates_bare : (p : Option Mark) (l : List Fractal) → alternates p (map bare_fractal l) ≡ alternates p l
unfolding alternates bare_fractal
alternates_bare p [] = refl
alternates_bare p (f ∷ l) = ap (λ (t : Bool). taken p f.mark && t) (alternates_bare (some f.mark) l)

same_bare : (f g : Fractal) → same_fractal (bare_fractal f) (bare_fractal g) ≡ same_fractal f g
unfolding same_fractal time_of fx_of bare_fractal bare_bar
same_bare f g = refl

held_bare : (f : Fractal) (l : List Fractal) → some_of (same_fractal (bare_fractal f)) (map bare_fractal l) ≡ some_of (same_fractal f) l
held_bare f l = some-map bare_fractal (same_fractal (bare_fractal f)) (same_fractal f) (same_bare f) l

is-stroke_bare : (b : Stroke) → is_stroke (bare_stroke b) ≡ is_stroke b
unfolding is_stroke bare_stroke
is-stroke_bare b =
    λ i. (leb 4 (length b.bars) && alternates_bare none b.fractals i) && (held_bare b.start b.fractals i && held_bare b.end b.fractals i)

strokes_pass_bare : (s : State) → strokes_pass (bare_state s) ≡ strokes_pass s
unfolding strokes_pass bare_state
strokes_pass_bare s = every_map bare_stroke is_stroke is_stroke is-stroke_bare s.strokes

inner-named : (raw : List Bar) (b : Stroke) → every (is_named raw) (inner (bare_stroke b)) ≡ every (is_named raw) (inner b)
unfolding inner bare_stroke
inner-named raw b = refl

elements_bare : (s : State) → elements_kept (bare_state s) ≡ elements_kept s
unfolding elements_kept bare_state
elements_bare s =
    ap (λ (t : Bool). every (is_named s.raw) (asked s.unfinished) && t)
    (every_map bare_stroke (λ (b : Stroke). every (is_named s.raw) (inner b)) (λ (b : Stroke). every (is_named s.raw) (inner b)) (inner-named s.raw) s.strokes)

newest_bare : (s : State) → newest_last (bare_state s) ≡ newest_last s
unfolding newest_last bare_state
newest_bare s = refl

-- ---- question 4

lists_bare : (most : ℕ) (s : State) → lists_sound most (bare_state s) ≡ lists_sound most s
unfolding lists_sound
lists_bare most s =
    λ i. ((few_bare most s i && raw_bare s i) && (merged_bare s i && times_bare s i)) && (strokes_pass_bare s i && elements_bare s i)

pub bare_sound : (c : Settings) (s : State) → sound c (bare_state s) ≡ sound c s
unfolding sound sound_but
bare_sound c s = λ i. (settings_sound c && (counts_bare c s i && lists_bare c.most s i)) && newest_bare s i

-- ---- questions 10 to 12

pub bare_question10 : (c : Settings) (s : State) (b : Bar) → question10 c (bare_state s) b ≡ question10 c s b
unfolding question10 bare_state
bare_question10 c s b = refl

pub bare_merged : (s : State) (b : Bar) → merged (bare_state s) b ≡ merged s b
unfolding merged bare_state
bare_merged s b = merged_with_bare (is_later (last s.raw) b) s b

moved_fits_bare : (room minimum : ℕ) (l : List Merged) (bs : List Stroke) → moved_fits room (move minimum l (map bare_stroke bs)) ≡ moved_fits room (move minimum l bs)
unfolding moved_fits
moved_fits_bare room minimum l bs = ap (λ (m : Moved). moved_fits room m) (move_bare minimum l bs)

pub bare_question11 : (c : Settings) (s : State) (b : Bar) → question11 c (bare_state s) b ≡ question11 c s b
unfolding question11 bare_state
bare_question11 c s b =
    ap (λ (l : List Merged). leb (length l) c.unfinished_room && moved_fits c.unfinished_room (move c.minimum l (map bare_stroke s.strokes))) (bare_merged s b)
    ∙ ap (λ (t : Bool). leb (length (merged s b)) c.unfinished_room && t) (moved_fits_bare c.unfinished_room c.minimum (merged s b) s.strokes)

made-bars_bare : (minimum : ℕ) (l : List Merged) (bs : List Stroke) → bars_of (make minimum l (map bare_stroke bs)).kept ≡ bars_of (make minimum l bs).kept
made-bars_bare minimum l bs =
    sym (bars_of_bare (make minimum l (map bare_stroke bs)).kept)
    ∙ ap (λ (m : Moved). bars_of m.kept) (make_bare minimum l bs)
    ∙ bars_of_bare (make minimum l bs).kept

pub bare_question12 : (c : Settings) (s : State) (b : Bar) → question12 c (bare_state s) b ≡ question12 c s b
unfolding question12 bare_state
bare_question12 c s b =
    ap (λ (l : List Merged). leb (bars_of (make c.minimum l (map bare_stroke s.strokes)).kept) c.stroke_room) (bare_merged s b)
    ∙ ap (λ (n : ℕ). leb n c.stroke_room) (made-bars_bare c.minimum (merged s b) s.strokes)

-- ---- the questions in order

bare_first : (s : State) (b : Bar) → first_failed (last (bare_state s).raw) b ≡ first_failed (last s.raw) b
unfolding bare_state
bare_first s b = refl

pub bare_failed-after_4 : (c : Settings) (s : State) (b : Bar) → failed_after4 c (bare_state s) b ≡ failed_after4 c s b
unfolding failed_after4
bare_failed-after_4 c s b =
    λ i. first_of (bare_first s b i) (or_else (bare_question10 c s b i) 10 (or_else (bare_question11 c s b i) 11 (or_else (bare_question12 c s b i) 12 0)))

pub bare_failed : (c : Settings) (s : State) (b : Bar) → failed c (bare_state s) b ≡ failed c s b
unfolding failed
bare_failed c s b = λ i. or_else (bare_sound c s i) 4 (bare_failed-after_4 c s b i)
