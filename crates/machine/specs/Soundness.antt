-- Question 4 of document 01: is the stand sound? One definition a clause, in document 01's order. (That the lent stores have their recorded lengths is
-- the port's: the plain machine has no stores.) Definitions only.
use Rattle.std.specs.Prelude.{ℕ, ◌+◌, Bool, true, false, ◌&&◌, List, [], ◌∷◌, map, length, drop, ℤ, leb, ltb}
use Rattle.std.proofs.Math.Option.{Option, none, some}
use Rattle.std.specs.Int.Signed.{lt_z, le_z}
use Rattle.std.specs.Float.Ieee.{eq}
use Rattle.bars.specs.declared.Bar.{Bar}
use Rattle.bars.specs.Bars.{Merged}
use Rattle.bars.specs.Lists.{last, init, every, some_of}
use Rattle.bars.specs.Questions.{question5, question6, question8, from_zero, is_bar}
use Rattle.machine.specs.declared.Mark.{Mark}
use Rattle.machine.specs.Fractals.{Fractal, time_of, fx_of, same_mark, taken}
use Rattle.machine.specs.Strokes.{Stroke}
use Rattle.machine.specs.Stand.{Settings, State}

-- ---- each store holds 16 to 65,536 bars, as question 3 asked of the fresh analyzer

unfoldable pub is_room : ℕ → Bool
is_room n = leb 16 n && leb n 65536

unfoldable pub rooms_pass : Settings → Bool
unfolding is_room
rooms_pass c = is_room c.raw_room && (is_room c.unfinished_room && is_room c.stroke_room)

-- ---- its counts fit the stores. The bars of all strokes stand in one store, and a stroke has fewer fractals than bars.

unfoldable pub bars_of : List Stroke → ℕ
bars_of [] = 0
bars_of (b ∷ bs) = length b.bars + bars_of bs

unfoldable pub fewer_fractals : Stroke → Bool
fewer_fractals b = ltb (length b.fractals) (length b.bars)

unfoldable pub counts_fit : Settings → State → Bool
unfolding bars_of every fewer_fractals
counts_fit c s =
    (leb (length s.raw) c.raw_room && leb (length s.unfinished) c.unfinished_room)
    && (leb (bars_of s.strokes) c.stroke_room && every fewer_fractals s.strokes)

-- ---- its minimum length and most strokes are each 1 to 64, and its places for power and for ratios each 0 to 6 (document 02, request two)

unfoldable pub is_setting : ℕ → Bool
is_setting n = leb 1 n && leb n 64

unfoldable pub is_places : ℕ → Bool
is_places d = leb d 6

unfoldable pub settings_pass : Settings → Bool
unfolding is_setting is_places
settings_pass c = (is_setting c.minimum && is_setting c.most) && (is_places c.power_places && is_places c.ratio_places)

-- ---- it keeps no more strokes than the most

unfoldable pub few_strokes : ℕ → State → Bool
few_strokes most s = leb (length s.strokes) most

-- ---- raw bars pass questions 5 to 8

unfoldable pub raw_pass : State → Bool
unfolding every is_bar
raw_pass s = every is_bar s.raw

-- ---- merged bars pass 5, 6 and 8 and have vol and amount from zero up (sums may pass 2^50)

unfoldable pub is_merged : Merged → Bool
unfolding question5 question6 question8 from_zero
is_merged k = (question5 k.bar && question6 k.bar) && (question8 k.bar && (from_zero k.bar.vol && from_zero k.bar.amount))

-- .. so do the three of a fractal
unfoldable pub fractal_merged : Fractal → Bool
unfolding is_merged
fractal_merged f = is_merged f.left && (is_merged f.mid && is_merged f.right)

-- a stroke's own, and those of every fractal that it holds
unfoldable pub stroke_merged : Stroke → Bool
unfolding every is_merged fractal_merged
stroke_merged b = every is_merged b.bars && (every fractal_merged b.fractals && (fractal_merged b.start && fractal_merged b.end))

unfoldable pub merged_pass : State → Bool
unfolding every is_merged stroke_merged
merged_pass s = every is_merged s.unfinished && every stroke_merged s.strokes

-- ---- times rise strictly in each list

-- each time is earlier than all that follow
unfoldable pub rises : List ℤ → Bool
unfolding every
rises [] = true
rises (t ∷ l) = every (λ u. lt_z t u) l && rises l

unfoldable pub bar_times : List Bar → List ℤ
bar_times l = map (λ b. b.time) l

unfoldable pub merged_times : List Merged → List ℤ
merged_times l = map (λ k. k.bar.time) l

unfoldable pub fractal_times : List Fractal → List ℤ
unfolding time_of
fractal_times l = map time_of l

unfoldable pub stroke_rises : Stroke → Bool
unfolding rises merged_times fractal_times
stroke_rises b = rises (merged_times b.bars) && rises (fractal_times b.fractals)

unfoldable pub times_rise : State → Bool
unfolding rises every bar_times merged_times stroke_rises
times_rise s = (rises (bar_times s.raw) && rises (merged_times s.unfinished)) && every stroke_rises s.strokes

-- ---- each stroke has at least 4 merged bars and fractals that alternate and hold both ends

unfoldable pub alternates : Option Mark → List Fractal → Bool
unfolding taken
alternates p [] = true
alternates p (f ∷ l) = taken p f.mark && alternates (some f.mark) l

unfoldable pub same_time : ℤ → ℤ → Bool
same_time t u = le_z t u && le_z u t

-- time, mark, high, low and fx agree
unfoldable pub same_fractal : Fractal → Fractal → Bool
unfolding same_time time_of same_mark eq fx_of
same_fractal f g =
    (same_time (time_of f) (time_of g) && same_mark f.mark g.mark)
    && (eq f.mid.bar.high g.mid.bar.high && (eq f.mid.bar.low g.mid.bar.low && eq (fx_of f) (fx_of g)))

unfoldable pub is_stroke : Stroke → Bool
unfolding alternates some_of same_fractal
is_stroke b =
    (leb 4 (length b.bars) && alternates none b.fractals) && (some_of (same_fractal b.start) b.fractals && some_of (same_fractal b.end) b.fractals)

unfoldable pub strokes_pass : State → Bool
unfolding every is_stroke
strokes_pass s = every is_stroke s.strokes

-- ---- elements name kept raw bars; those of a stroke's first and last merged bar, and of the first unfinished bar where another follows it, may name dropped ones

unfoldable pub names : List Bar → ℤ → Bool
unfolding some_of same_time
names raw t = some_of (λ r. same_time r.time t) raw

unfoldable pub is_named : List Bar → Merged → Bool
unfolding every names
is_named raw k = every (names raw) k.elements

-- the unfinished bars that are asked
unfoldable pub asked : List Merged → List Merged
asked [] = []
asked (k ∷ []) = k ∷ []
asked (k ∷ k' ∷ l) = k' ∷ l

-- a stroke's merged bars but the first and the last
unfoldable pub inner : Stroke → List Merged
unfolding init
inner b = init (drop 1 b.bars)

unfoldable pub elements_kept : State → Bool
unfolding every is_named asked inner
elements_kept s = every (is_named s.raw) (asked s.unfinished) && every (λ b. every (is_named s.raw) (inner b)) s.strokes

-- ---- the newest raw bar, if any, is the last element of the last unfinished bar

unfoldable pub ends_on : ℤ → Option ℤ → Bool
unfolding same_time
ends_on t none = false
ends_on t (some u) = same_time t u

unfoldable pub closes : ℤ → Option Merged → Bool
unfolding ends_on last
closes t none = false
closes t (some k) = ends_on t (last k.elements)

unfoldable pub newest_in : Option Bar → List Merged → Bool
unfolding closes last
newest_in none l = true
newest_in (some r) l = closes r.time (last l)

unfoldable pub newest_last : State → Bool
unfolding newest_in last
newest_last s = newest_in (last s.raw) s.unfinished

-- ---- the stand is sound

-- what the settings alone are asked
unfoldable pub settings_sound : Settings → Bool
unfolding rooms_pass settings_pass
settings_sound c = rooms_pass c && settings_pass c

-- what is asked of the lists, but for the newest raw bar
unfoldable pub lists_sound : ℕ → State → Bool
unfolding few_strokes raw_pass merged_pass times_rise strokes_pass elements_kept
lists_sound most s = ((few_strokes most s && raw_pass s) && (merged_pass s && times_rise s)) && (strokes_pass s && elements_kept s)

-- all clauses but the one on the newest raw bar
unfoldable pub sound_but : Settings → State → Bool
unfolding settings_sound counts_fit lists_sound
sound_but c s = settings_sound c && (counts_fit c s && lists_sound c.most s)

unfoldable pub sound : Settings → State → Bool
unfolding sound_but newest_last
sound c s = sound_but c s && newest_last s
